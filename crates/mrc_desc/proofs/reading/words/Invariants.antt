use Rattle.std.proofs.Common.{◌≡◌, ◌++◌, length}
use Rattle.mrc_desc.specs.Reading.{words}
use Rattle.mrc_desc.proofs.reading.words.Given as goal

abbrev pub invariant-loop-rest : goal.invariant-loop-rest
invariant-loop-rest l = l.names.items ++ words l.rest ≡ words l.bytes

abbrev pub decreases-loop-rest : goal.decreases-loop-rest
decreases-loop-rest l = length l.rest
