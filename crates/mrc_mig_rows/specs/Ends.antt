-- Step. Where statements end. A statement goes up to its first `;` outside of parentheses and
-- braces, and a part of a parenthesis up to a `;` or the closing sign. This profile's own choice.
use Rattle.std.specs.Prelude.{ℕ, ◌+◌, ◌-◌, ◌==◌, List, [], ◌∷◌, length, Bool, true, false}
use Rattle.std.specs.Prelude.{Result, Ok, Err, if◌then◌else◌}
use Rattle.mrc_mig_lex.specs.declared.token.Sign.TheVariants as signs
use Rattle.mrc_mig_symbols.specs.declared.fault.Feature.TheVariants.{Preprocessor}
use Rattle.mrc_mig_symbols.specs.declared.fault.Stop.{Stop}
use Rattle.mrc_mig_symbols.specs.declared.fault.StopReason.TheVariants as why
use Rattle.mrc_mig_symbols.specs.Symbols.{stop_at}
use Rattle.mrc_mig_tokens.specs.declared.symbol.Symbol.{Symbol}
use Rattle.mrc_mig_tokens.specs.declared.symbol.Symbol.TheVariants as symbols
use Rattle.mrc_mig_tokens.specs.Reading.{first_of, tail_of, unexpected}
use Rattle.mrc_mig_tokens.specs.Tokens.{Token}

-- a symbol ends a part in which so many parentheses and braces are open: a line of the preprocessor
-- and the end always do, a `;` and a closing sign where none is open
abbrev pub ends : ℕ → Symbol → Bool
ends depth symbols.Include = true
ends depth symbols.Line = true
ends depth symbols.End = true
ends depth (symbols.Sign signs.Semicolon) = depth == 0
ends depth (symbols.Sign signs.CloseParenthesis) = depth == 0
ends depth symbols.CloseBrace = depth == 0
ends depth _ = false

-- how many are open behind a symbol
abbrev pub opened : ℕ → Symbol → ℕ
opened depth (symbols.Sign signs.OpenParenthesis) = depth + 1
opened depth symbols.OpenBrace = depth + 1
opened depth (symbols.Sign signs.CloseParenthesis) = depth - 1
opened depth symbols.CloseBrace = depth - 1
opened depth _ = depth

-- what is left from the token on that ends a part in which so many are open
unfoldable pub end_from : ℕ → List Token → List Token
end_from depth [] = []
end_from depth (token ∷ tokens) =
    if ends depth token.symbol then token ∷ tokens
    else end_from (opened depth token.symbol) tokens

-- the same of the part at the front
abbrev pub part_end : List Token → List Token
part_end tokens = end_from 0 tokens

-- behind a part that is a statement, by the symbol that ends it
abbrev pub behind_end : Symbol → List Token → Result (List Token) Stop
behind_end (symbols.Sign signs.Semicolon) tokens = Ok (tail_of tokens)
behind_end symbols.Line tokens = Err (stop_at (why.LeftOut Preprocessor) (length tokens))
behind_end _ tokens = Err (unexpected tokens)

-- what is left behind the statement at the front
unfoldable pub statement_end : List Token → Result (List Token) Stop
statement_end tokens = behind_end (first_of (part_end tokens)) (part_end tokens)
