use Rattle.std.proofs.Common.{◌≡◌, drop, map, take}
use Rattle.mrc_desc.specs.Laws.{OtherArgs}
use Rattle.mrc_desc.specs.View.{arguments_of}
use Rattle.mrc_ports.specs.Parcels.{queued_of, unnamed}
use Rattle.mrc_transit.proofs.ReceiveWalks.{ArgsWalk}
use Rattle.mrc_transit.proofs.receiving.give_args.Given as goal

abbrev pub invariant-loop-argument : goal.invariant-loop-argument
invariant-loop-argument l =
    ArgsWalk l.initial.giving.space l.giving.space (map queued_of l.arguments)
    (map queued_of (drop l.argument-index l.arguments)) (arguments_of l.args.items)
    × OtherArgs (map unnamed (map queued_of (take l.argument-index l.arguments)))
    (arguments_of l.args.items)
    × (l.giving.base ≡ l.initial.giving.base)
