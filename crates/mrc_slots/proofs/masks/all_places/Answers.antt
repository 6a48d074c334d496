use Rattle.std.proofs.Common.{arith, refl}
use Rattle.mrc_slots.specs.Masks.{is_any}
use Rattle.mrc_slots.proofs.Marked.{none_marked, one_marked, all_marked, zeros_long}
use Rattle.mrc_slots.proofs.masks.all_places.Goals as goal

pub loop-place-init : goal.loop-place-init
loop-place-init c =
    record {
      wide = zeros_long _ c.in_ok-row.row.items c.in_ok-row.ensures;
      bits = none_marked is_any _ c.in_ok-row.row.items c.in_ok-row.ensures;
    }

pub loop-place-preserved : goal.loop-place-preserved
loop-place-preserved c =
    record {
      wide = omega (
        arith,
        c.mark.ensures.len,
        c.loop-place.invariant.wide,
        c.loop-place.row.ok.0,
        c.mark.new.row.ok.0,
      );
      bits = one_marked is_any c.loop-place.place c.loop-place.row.items _
          c.loop-place.invariant.bits c.mark.ensures.bits;
    }

pub returns : goal.returns
returns c =
    all_marked is_any c.loop-place.place c.args.places c.args.places
    c.loop-place.row.items c.loop-place.invariant.wide (omega arith) (omega arith)
    refl c.loop-place.invariant.bits
