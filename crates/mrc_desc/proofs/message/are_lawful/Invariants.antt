use Rattle.std.proofs.Common.{◌↔◌, drop}
use Rattle.mrc_desc.specs.Lawful.{AreLawful}
use Rattle.mrc_desc.specs.View.{arguments_of}
use Rattle.mrc_desc.proofs.Walks.{AreLawfulIn}
use Rattle.mrc_desc.proofs.message.are_lawful.Given as goal

abbrev pub invariant-loop-argument : goal.invariant-loop-argument
invariant-loop-argument l = AreLawfulIn l.room (arguments_of (drop l.argument-index l.args))
    ↔ AreLawful (arguments_of l.args)
