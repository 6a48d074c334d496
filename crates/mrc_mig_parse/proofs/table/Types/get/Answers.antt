use Rattle.std.proofs.Common.{◌≡◌, sym, ◌∙◌, ap, arith, Some, None}
use Rattle.mrc_mig_symbols.specs.Tables.{plain, entry_of}
use Rattle.mrc_mig_parse.specs.Places.{place_of}
use Rattle.mrc_mig_parse.proofs.PlaceLemmas.{found_at_place, no_place}
use Rattle.mrc_mig_parse.proofs.table.Types.get.Goals as goal

pub bounds-as_slice-place : goal.bounds-as_slice-place
bounds-as_slice-place c =
    let entries = c.self.inside.entries.items in
    let place : place_of (plain entries) c.args.name.now ≡ Some c.in-Some.place.now =
    sym (c.self.invariant c.args.name.now) ∙ sym c.in-Some.ensures.value in
    let found = found_at_place entries c.args.name.now c.in-Some.place.now place in
    rw c.as_slice.ensures.value found.within

pub offset_bounds-as_slice-place : goal.offset_bounds-as_slice-place
offset_bounds-as_slice-place c =
    let below = bounds-as_slice-place c in
    let small = c.as_slice.type_inv.1 in
    omega arith

pub returns-in-None : goal.returns-in-None
returns-in-None c =
    let place : place_of (plain c.self.inside.entries.items) c.args.name.now ≡ None =
    sym (c.self.invariant c.args.name.now) ∙ sym c.in-None.ensures.value in
    sym (ap (λ entries. entry_of entries c.args.name.now) (sym c.self.view_is)
    ∙ no_place (plain c.self.inside.entries.items) c.args.name.now place)

pub returns-in-Some : goal.returns-in-Some
returns-in-Some c =
    let entries = c.self.inside.entries.items in
    let place : place_of (plain entries) c.args.name.now ≡ Some c.in-Some.place.now =
    sym (c.self.invariant c.args.name.now) ∙ sym c.in-Some.ensures.value in
    let found = found_at_place entries c.args.name.now c.in-Some.place.now place in
    rw c.as_slice.ensures.value (found.is _)
    ∙ ap (λ entries. entry_of entries c.args.name.now) c.self.view_is
