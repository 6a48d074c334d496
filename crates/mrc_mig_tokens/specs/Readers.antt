-- Step. What a reader of expressions holds, whatever lies where in memory.
use Rattle.mrc_mig_tokens.specs.declared.sums.Reader.{Reader}
use Rattle.mrc_mig_tokens.specs.Partials.{partial_of}
use Rattle.mrc_mig_tokens.specs.Sums.{Reading}

-- an expression that is being read
abbrev pub reading_of : Reader → Reading
reading_of reader = record {
  outer = reader.outer;
  sum = partial_of reader.sum;
  wants_operand = reader.wants_operand;
}
