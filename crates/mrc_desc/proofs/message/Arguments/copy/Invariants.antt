use Rattle.std.proofs.Common.{◌≡◌, take}
use Rattle.mrc_desc.specs.View.{arguments_of}
use Rattle.mrc_desc.proofs.message.Arguments.copy.Given as goal

abbrev pub invariant-loop-argument : goal.invariant-loop-argument
invariant-loop-argument l = arguments_of l.items.items ≡ arguments_of (take l.argument-index l.args)
