use Rattle.std.proofs.Common.{ap, arith}
use Rattle.std.proofs.lemmas.Option.{slice_get_past}
use Rattle.mrc_map.specs.Entries.{at_key}
use Rattle.mrc_map.proofs.EntryLaws.{place_within, none_at}
use Rattle.mrc_map.proofs.map.look.Goals as goal
use Rattle.mrc_map.proofs.map.look.Goals.{
  else-place-entries-via-then-place-entries+else-entries-place,
  else-place-entries-via-else-place-entries,
}

pub returns-else-place-entries-clause-missing : goal.returns-else-place-entries-clause-missing
returns-else-place-entries-clause-missing g c =
    record {
      place = c.place-place.ensures;
      within = let w = place_within c.args.key c.args.entries.now in let
          e = c.place-place.ensures in omega arith;
      none = elim c.else-place-entries.branch [
        | else-place-entries-via-then-place-entries+else-entries-place w ↦
            none_at c.args.key c.args.entries.now c.place-place.result w.index-entries-place.result
            w.if-place-entries.true w.if-entries-place.false
        | else-place-entries-via-else-place-entries w ↦
            ap (at_key c.args.key)
            (slice_get_past c.args.entries.now c.place-place.result w.if-place-entries.false)
      ];
    }
