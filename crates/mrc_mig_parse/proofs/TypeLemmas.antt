-- Brackets with nothing in them.
use Rattle.std.proofs.Common.{◌≡◌, true, List, [], ◌∷◌, None, refl}
use Rattle.mrc_mig_lex.specs.Tokens.{Lexeme}
use Rattle.mrc_mig_lex.specs.declared.token.Sign.TheVariants as signs
use Rattle.mrc_mig_symbols.specs.declared.symbol.Symbol.{Symbol}
use Rattle.mrc_mig_symbols.specs.declared.symbol.Symbol.TheVariants as symbols
use Rattle.mrc_mig_parse.specs.declared.types.Around.{Around}
use Rattle.mrc_mig_symbols.specs.Symbols.{first_of, tail_of, after_sign}
use Rattle.mrc_mig_symbols.specs.Expressions.{value_from, expression_at, ends, step}
use Rattle.mrc_mig_parse.specs.Types.{is_empty_brackets, dimension_at, variable_dimension_at}
use Rattle.mrc_mig_parse.specs.Types.{array_at}

brackets : (s t : Symbol) → is_empty_brackets s t ≡ true → (s ≡ symbols.Sign signs.OpenBracket)
    × (t ≡ symbols.Sign signs.CloseBracket)
brackets (symbols.Sign signs.OpenBracket) (symbols.Sign signs.CloseBracket) e = (refl, refl)
brackets _ _ e = absurd cc

-- a bracket that closes is no expression
no_expression : (tokens : List Lexeme) → first_of tokens ≡ symbols.Sign signs.CloseBracket
    → expression_at tokens ≡ None
unfolding expression_at value_from first_of ends step
no_expression [] e = absurd cc
no_expression (token ∷ tokens) e = rw e refl

-- `[]` is no dimension
pub no_array : (around : Around) (tokens : List Lexeme)
    → is_empty_brackets (first_of tokens) (first_of (tail_of tokens)) ≡ true
    → array_at around tokens ≡ None
unfolding array_at variable_dimension_at dimension_at after_sign
no_array around tokens e = let both = brackets (first_of tokens) (first_of (tail_of tokens)) e in
    rw (both.0, both.1, no_expression (tail_of tokens) both.1) refl
