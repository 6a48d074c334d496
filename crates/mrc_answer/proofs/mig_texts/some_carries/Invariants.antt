-- None so far: whether one of those that are left is.
use Rattle.std.proofs.Common.{◌≡◌, drop}
use Rattle.std.specs.List.{list_any}
use Rattle.mrc_interface.specs.Left.{carries}
use Rattle.mrc_answer.proofs.mig_texts.some_carries.Given as goal

abbrev pub invariant-loop-left : goal.invariant-loop-left
invariant-loop-left l = list_any carries (drop l.left-index l.left_out) ≡ list_any carries l.left_out
