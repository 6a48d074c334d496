-- What the arguments before this one take is no longer left.
use Rattle.std.proofs.Common.{◌≡◌, ◌+◌, ◌∷◌, [], take, map}
use Rattle.std.specs.Prelude.{flat_map}
use Rattle.mrc_ports.specs.Parcels.{queued_of}
use Rattle.mrc_transit.specs.Room.{carried_by, names_taken}
use Rattle.mrc_transit.proofs.room.less_arguments.Given as goal

abbrev pub invariant-loop-place : goal.invariant-loop-place
invariant-loop-place l =
    l.left + names_taken l.space (l.reply ∷ [])
    (flat_map carried_by (map queued_of (take l.place l.arguments)))
    ≡ l.room
