-- Step. What the readers hold. What the readers hold, whatever lies where in memory.
use Rattle.std.specs.Prelude.{List, drop}
use Rattle.mrc_mig_lex.specs.Tokens.{Lexeme}
use Rattle.mrc_mig_symbols.specs.declared.symbol.Rest.{Rest}
use Rattle.mrc_mig_symbols.specs.declared.expressions.Reader.{Reader}
use Rattle.mrc_mig_symbols.specs.ExpressionStops.{Reading}
use Rattle.mrc_mig_symbols.specs.Outer.{placed_of}

-- what is left to read
unfoldable pub left : Rest → List Lexeme
left rest = drop rest.at rest.tokens.now

-- an expression that is being read
abbrev pub reading_of : Reader → Reading
reading_of reader = record {
  outer = reader.outer;
  sum = placed_of reader.sum;
  wants_operand = reader.wants_operand;
}
