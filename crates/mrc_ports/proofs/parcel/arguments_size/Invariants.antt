use Rattle.std.proofs.Common.{◌≡◌, ◌+◌, length, drop, map}
use Rattle.std.specs.List.{flat_map, AllByRecursion}
use Rattle.mrc_model.specs.Message.{arg_bytes}
use Rattle.mrc_desc.specs.Lawful.{IsLawfulArg}
use Rattle.mrc_ports.specs.Parcels.{queued_of, unnamed}
use Rattle.mrc_ports.proofs.parcel.arguments_size.Given as goal

abbrev pub invariant-loop-argument : goal.invariant-loop-argument
invariant-loop-argument l =
    AllByRecursion IsLawfulArg (map unnamed (map queued_of (drop l.argument-index l.arguments)))
    × (l.size
    + length (flat_map arg_bytes (map unnamed (map queued_of (drop l.argument-index l.arguments))))
    ≡ length (flat_map arg_bytes (map unnamed (map queued_of l.arguments))))
