-- Believe. Which tokens are a routine, and which arguments it has: a grammar by cases, apart from
-- how one reads it. The form of a routine is MIG's (Server Writer's Guide for MIG). Where a part of
-- its parenthesis ends is this profile's own choice.
use Rattle.std.specs.Prelude.{◌≡◌, ℕ, List, [], ◌∷◌, ◌++◌}
use Rattle.mrc_mig_lex.specs.declared.token.Sign.TheVariants.{OpenParenthesis, CloseParenthesis}
use Rattle.mrc_mig_lex.specs.declared.token.Sign.TheVariants.{Semicolon}
use Rattle.mrc_mig_tokens.specs.declared.symbol.Symbol.TheVariants.{Name, Sign}
use Rattle.mrc_mig_tokens.specs.Tokens.{Token}
use Rattle.mrc_mig_types.specs.Specs.{Is}
use Rattle.mrc_mig_types.specs.Table.{Known}
use Rattle.mrc_mig_arguments.specs.Arguments.{IsArgument}
use Rattle.mrc_mig_arguments.specs.Words.{Written}
use Rattle.mrc_mig_bodies.specs.Parameters.{Parameter}
use Rattle.mrc_mig_rows.specs.Parts.{parameter_by}
use Rattle.mrc_mig_rows.specs.Statements.{IsInside}

-- These tokens, before the rest, are a part of a parenthesis: parentheses and braces, which are
-- counted together, are balanced in it, and no `;` stands outside of them. The whole part is this
-- argument.
pub record IsPart (types : Known) (rest part : List Token) (a : Parameter) : Type 0 where
  pub written : Written
  pub stands : IsInside 0 part
  pub is : IsArgument types rest part written
  pub says : a ≡ parameter_by written

-- one part or more, each behind a `;` but the first, and then the end
pub data AreParts (types : Known) (end : List Token) : List Token → List Parameter → Type 0 where
  last : {part : List Token} {a : Parameter}
      → IsPart types end part a
      → AreParts types end (part ++ end) (a ∷ [])
  more : {part later : List Token} {semicolon : Token} {a : Parameter} {others : List Parameter}
      → IsPart types (semicolon ∷ later) part a
      → Is (Sign Semicolon) semicolon
      → AreParts types end later others
      → AreParts types end (part ++ semicolon ∷ later) (a ∷ others)

-- all that stands in a parenthesis, and then the end: its parts, or nothing
pub data AreArguments (types : Known) (end : List Token)
    : List Token → List Parameter → Type 0 where
  none : AreArguments types end end []
  some : {tokens : List Token} {arguments : List Parameter}
      → AreParts types end tokens arguments
      → AreArguments types end tokens arguments

-- these tokens are a routine and what follows it: a word, this name, and `( .. ) ;` with these
-- arguments
pub record IsRoutine (types : Known) (tokens : List Token) (name : List ℕ)
    (arguments : List Parameter) (behind : List Token) : Type 0 where
  pub word : Token
  pub named : Token
  pub opens : Token
  pub inside : List Token
  pub closes : Token
  pub ends : Token
  pub splits : tokens ≡ word ∷ named ∷ opens ∷ inside
  pub is_named : Is Name named
  pub name_is : name ≡ named.bytes
  pub is_opened : Is (Sign OpenParenthesis) opens
  pub are : AreArguments types (closes ∷ ends ∷ behind) inside arguments
  pub is_closed : Is (Sign CloseParenthesis) closes
  pub is_ended : Is (Sign Semicolon) ends
