use Rattle.std.proofs.Common.{◌≤◌, length}
use Rattle.mrc_desc.specs.Reading.{args_of}
use Rattle.mrc_desc.specs.View.{arguments_of}
use Rattle.mrc_desc.proofs.Walks.{Continues}
use Rattle.mrc_desc.proofs.reading.args_of.Given as goal

abbrev pub invariant-loop-rest : goal.invariant-loop-rest
invariant-loop-rest l =
    (length l.rest ≤ length l.bytes)
    × Continues (length l.bytes) (arguments_of l.args.items) l.rest (args_of l.bytes)

abbrev pub decreases-loop-rest : goal.decreases-loop-rest
decreases-loop-rest l = length l.rest
