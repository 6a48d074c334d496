use Rattle.std.proofs.Common.{◌≡◌, ◌↔◌, drop}
use Rattle.mrc_desc.specs.View.{arguments_of}
use Rattle.mrc_desc.proofs.message.same_arguments.Given as goal

abbrev pub invariant-loop-i : goal.invariant-loop-i
invariant-loop-i l = (arguments_of (drop l.i l.args) ≡ arguments_of (drop l.i l.others))
    ↔ (arguments_of l.args ≡ arguments_of l.others)
