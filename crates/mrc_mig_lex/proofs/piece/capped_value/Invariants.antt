use Rattle.std.proofs.Common.{◌≡◌, ◌∷◌, take, min}
use Rattle.mrc_mig_lex.specs.Pieces.{decimal}
use Rattle.mrc_mig_lex.specs.declared.piece.TheConstants.{TOO_LARGE}
use Rattle.mrc_mig_lex.proofs.piece.capped_value.Given as goal

-- the value of the digits so far
abbrev pub invariant-loop-digit : goal.invariant-loop-digit
invariant-loop-digit l = l.value ≡ min (decimal (l.first ∷ take l.digit-index l.digits)) TOO_LARGE
