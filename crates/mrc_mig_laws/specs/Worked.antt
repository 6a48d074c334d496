-- Worked. Routines by the grammar, and tokens that are none.
use Rattle.std.specs.Prelude.{◌≡◌, ◌+◌, ℕ, List, [], ◌∷◌, Bool, false, Some, codes, refl}
use Rattle.std.proofs.Common.{ap, ◌∙◌}
use Rattle.std.proofs.lemmas.Bool.{false≢true}
use Rattle.mrc_mig_lex.specs.declared.token.Sign.TheVariants as signs
use Rattle.mrc_mig_symbols.specs.declared.word.Word.TheVariants as words
use Rattle.mrc_mig_tokens.specs.declared.symbol.Symbol.{Symbol}
use Rattle.mrc_mig_tokens.specs.declared.symbol.Symbol.TheVariants as symbols
use Rattle.mrc_mig_tokens.specs.Reading.{first_of, tail_of}
use Rattle.mrc_mig_tokens.specs.Tokens.{Token}
use Rattle.mrc_mig_types.specs.Specs.{none as no_flag}
use Rattle.mrc_mig_types.specs.Table.{Known, nothing_known, type_of}
use Rattle.mrc_mig_arguments.specs.declared.argument.Role.TheVariants as roles
use Rattle.mrc_mig_arguments.specs.Arguments.{argument, unmarked, declared}
use Rattle.mrc_mig_arguments.specs.Words.{Written}
use Rattle.mrc_mig_bodies.specs.Parameters.{Parameter}
use Rattle.mrc_mig_rows.specs.Parts.{parameter_by, pieces_at, opening_at, stop_of, view_at}
use Rattle.mrc_mig_rows.specs.Statements.{IsInside, is_opening, nothing, other}
use Rattle.mrc_mig_laws.specs.Routines.{IsPart, last, more, some, IsRoutine}

-- a token at the front of a text
abbrev pub token : Symbol → List ℕ → Token
token symbol bytes = record { symbol = symbol; at = 0; bytes = bytes }

abbrev word : Token
word = token (symbols.Word words.Routine) (codes "routine")

abbrev pub name : List ℕ → Token
name bytes = token symbols.Name bytes

abbrev opens : Token
opens = token (symbols.Sign signs.OpenParenthesis) (codes "(")

abbrev closes : Token
closes = token (symbols.Sign signs.CloseParenthesis) (codes ")")

abbrev colon : Token
colon = token (symbols.Sign signs.Colon) (codes ":")

abbrev pub semicolon : Token
semicolon = token (symbols.Sign signs.Semicolon) (codes ";")

-- `x : t`
abbrev part : List ℕ → List ℕ → List Token
part x t = name x ∷ colon ∷ name t ∷ []

abbrev part_says : Known → List ℕ → List ℕ → ℕ → Written
part_says types x t at = record {
  role = roles.Unmarked;
  name = x;
  type_name = t;
  meaning = type_of types t;
  counts = false;
  at = at + 3;
  name_at = at + 3;
  type_at = at + 1;
}

-- `) ;`
abbrev end : List Token
end = closes ∷ semicolon ∷ []

-- `y : u ) ;`
abbrev later : List Token
later = name (codes "y") ∷ colon ∷ name (codes "u") ∷ end

-- `routine a ( x : t ; y : u ) ;`
abbrev two : List Token
two =
    word ∷ name (codes "a") ∷ opens
    ∷ name (codes "x") ∷ colon ∷ name (codes "t") ∷ semicolon ∷ later

abbrev first : Known → Written
first types = part_says types (codes "x") (codes "t") 6

abbrev second : Known → Written
second types = part_says types (codes "y") (codes "u") 2

-- a part is balanced
pub stands : (x t : List ℕ) → IsInside 0 (part x t)
stands x t =
    other 0 (name x) (colon ∷ name t ∷ []) refl
    (other 0 colon (name t ∷ []) refl (other 0 (name t) [] refl nothing))

pub first_is : (types : Known)
    → IsPart types (semicolon ∷ later) (part (codes "x") (codes "t")) (parameter_by (first types))
first_is types = record {
  written = first types;
  stands = stands (codes "x") (codes "t");
  is = argument {mark = []} {typed = name (codes "t") ∷ []} {flags = []} {name = name (codes "x")}
      {colon = colon} unmarked (record { seen = refl }) (record { seen = refl })
      (declared (record { seen = refl })) no_flag;
  says = refl;
}

pub second_is : (types : Known)
    → IsPart types end (part (codes "y") (codes "u")) (parameter_by (second types))
second_is types = record {
  written = second types;
  stands = stands (codes "y") (codes "u");
  is = argument {mark = []} {typed = name (codes "u") ∷ []} {flags = []} {name = name (codes "y")}
      {colon = colon} unmarked (record { seen = refl }) (record { seen = refl })
      (declared (record { seen = refl })) no_flag;
  says = refl;
}

-- a routine with two arguments
pub two_are_one : (types : Known)
    → IsRoutine types two (codes "a")
    (parameter_by (first types) ∷ parameter_by (second types) ∷ []) []
two_are_one types = record {
  word = word;
  named = name (codes "a");
  opens = opens;
  inside = name (codes "x") ∷ colon ∷ name (codes "t") ∷ semicolon ∷ later;
  closes = closes;
  ends = semicolon;
  splits = refl;
  is_named = record { seen = refl };
  name_is = refl;
  is_opened = record { seen = refl };
  are = some (more {part = part (codes "x") (codes "t")} (first_is types) (record { seen = refl })
      (last {part = part (codes "y") (codes "u")} (second_is types)));
  is_closed = record { seen = refl };
  is_ended = record { seen = refl };
}

-- the third token opens a parenthesis
abbrev third_opens : List Token → Bool
third_opens (a ∷ b ∷ c ∷ others) = is_opening c.symbol
third_opens _ = false

-- `routine a ;` is none
pub parenthesis_is_needed : (types : Known) (called : List ℕ) (arguments : List Parameter)
    (behind : List Token)
    → IsRoutine types (word ∷ name (codes "a") ∷ semicolon ∷ []) called arguments behind
    → ⊥
parenthesis_is_needed types called arguments behind is =
    false≢true (ap (λ (l : List Token). third_opens l) is.splits
    ∙ ap (λ (s : Symbol). is_opening s) is.is_opened.seen)

-- `a ( )` behind `routine`: the `;` is missed where no token is left
pub semicolon_is_missed :
    stop_of (view_at nothing_known (name (codes "a") ∷ opens ∷ closes ∷ [])) ≡ Some 0
unfolding view_at opening_at pieces_at first_of tail_of
semicolon_is_missed = refl
