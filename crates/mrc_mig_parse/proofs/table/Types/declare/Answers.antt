use Rattle.std.proofs.Common.{◌≡◌, ◌++◌, [], ◌∷◌, None, Some, cond, sym, ◌∙◌, ap, length, arith}
use Rattle.std.specs.Str.{bytes_eq}
use Rattle.std.proofs.lemmas.List.{length-map, map-append}
use Rattle.std.proofs.lemmas.Map.Text.{btree_map_updates_str}
use Rattle.mrc_mig_symbols.specs.Tables.{plain, entry_of}
use Rattle.mrc_mig_parse.specs.Places.{place_of}
use Rattle.mrc_mig_parse.proofs.PlaceLemmas.{last_place}
use Rattle.mrc_mig_parse.proofs.table.Types.declare.Goals as goal

-- the name's place is the last one, and the others stay
pub invariant_of-self-2 : goal.invariant_of-self-2
invariant_of-self-2 c = λ name.
    let entries = c.self.inside.entries.items in
    let new : entry_of (plain entries) c.args.name.now ≡ None =
    ap (λ entries. entry_of entries c.args.name.now) c.self.view_is ∙ c.requires in
    let pushed : c.push.new.self.items ≡ entries ++ (c.args.name, c.args.shape) ∷ [] =
    grind arith in
    let last : length c.as_slice-place.result.now ≡ length (plain entries) =
    ap length (c.as_slice-place.ensures.value ∙ c.reserve.ensures.items)
    ∙ sym (length-map entries _) in
    btree_map_updates_str c.args.name.now c.self.inside.places c.insert.new.self _
    c.in_ok-insert.ensures.updates name
    ∙ ap (λ place. cond (bytes_eq c.args.name.now name) (Some (length c.as_slice-place.result.now)) place)
    (c.self.invariant name)
    ∙ ap (λ n. cond (bytes_eq c.args.name.now name) (Some n) (place_of (plain entries) name)) last
    ∙ sym (last_place (plain entries) c.args.name.now c.args.shape new name)
    ∙ ap (λ l. place_of l name) (sym (ap plain pushed ∙ map-append _ _ _))
