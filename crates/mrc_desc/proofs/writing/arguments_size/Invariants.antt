use Rattle.std.proofs.Common.{◌≡◌, ◌+◌, length, drop}
use Rattle.std.specs.List.{flat_map, AllByRecursion}
use Rattle.mrc_model.specs.Message.{arg_bytes}
use Rattle.mrc_desc.specs.Lawful.{IsLawfulArg}
use Rattle.mrc_desc.specs.View.{arguments_of}
use Rattle.mrc_desc.proofs.writing.arguments_size.Given as goal

abbrev pub invariant-loop-argument : goal.invariant-loop-argument
invariant-loop-argument l =
    AllByRecursion IsLawfulArg (arguments_of (drop l.argument-index l.args))
    × (l.size + length (flat_map arg_bytes (arguments_of (drop l.argument-index l.args)))
    ≡ length (flat_map arg_bytes (arguments_of l.args)))
