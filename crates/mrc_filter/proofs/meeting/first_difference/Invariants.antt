use Rattle.std.proofs.Common.{◌≡◌}
use Rattle.mrc_model.specs.Filter.{first_difference}
use Rattle.mrc_desc.specs.View.{arguments_of}
use Rattle.mrc_filter.proofs.Shapes.{differs_from}
use Rattle.mrc_filter.proofs.meeting.first_difference.Given as goal

-- no difference so far
abbrev pub invariant-loop-i : goal.invariant-loop-i
invariant-loop-i l =
    first_difference 0 l.shapes (arguments_of l.args) ≡ differs_from l.i l.shapes l.args
