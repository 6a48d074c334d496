use Rattle.std.proofs.Common.{◌≡◌, ◌++◌, map, length}
use Rattle.mrc_model.specs.Death.{perished_parcel}
use Rattle.mrc_ports.proofs.parcel.perish_parcels.Given as goal

abbrev pub invariant-loop-left : goal.invariant-loop-left
invariant-loop-left l =
    map (perished_parcel l.dead) l.fn.parcels ≡ l.done ++ map (perished_parcel l.dead) l.left

abbrev pub decreases-loop-left : goal.decreases-loop-left
decreases-loop-left l = length l.left
