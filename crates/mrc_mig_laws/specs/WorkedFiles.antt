-- Worked. A file by the grammar, and tokens that are none.
use Rattle.std.specs.Prelude.{◌≡◌, ◌++◌, ℕ, List, [], ◌∷◌, Bool, true, false, Option, Some}
use Rattle.std.specs.Prelude.{is_some, codes, refl}
use Rattle.std.proofs.Common.{sym, ap, ◌∙◌}
use Rattle.std.proofs.lemmas.Bool.{false≢true, leb-true}
use Rattle.mrc_base.specs.Limits.{limit_of_name}
use Rattle.mrc_mig_symbols.specs.declared.word.Word.TheVariants as words
use Rattle.mrc_mig_tokens.specs.declared.symbol.Symbol.TheVariants as symbols
use Rattle.mrc_mig_tokens.specs.Reading.{first_of, text_of, no_tokens}
use Rattle.mrc_mig_tokens.specs.Tokens.{Token}
use Rattle.mrc_mig_rows.specs.declared.kinds.StatementKind.TheVariants as kinds
use Rattle.mrc_mig_rows.specs.Files.{State, nothing_said, FileSays}
use Rattle.mrc_mig_rows.specs.Headings.{Subsystem}
use Rattle.mrc_mig_rows.specs.Kinds.{statement_kind}
use Rattle.mrc_mig_rows.specs.Statements.{IsStatement, nothing, other}
use Rattle.mrc_mig_laws.specs.FileGrammar.{IsHeading, many, subsystem, skip, AreStatements}
use Rattle.mrc_mig_laws.specs.FileGrammar.{none, statement, IsFile}
use Rattle.mrc_mig_laws.specs.FileGrammar.{more as one_side, none as no_side}
use Rattle.mrc_mig_laws.specs.Worked.{token, name, semicolon}

abbrev begins : Token
begins = token (symbols.Word words.Subsystem) (codes "subsystem")

abbrev side : Token
side = token (symbols.Word words.Side) (codes "KernelServer")

abbrev skips : Token
skips = token (symbols.Word words.Skip) (codes "skip")

abbrev number : ℕ → Token
number n = token (symbols.Number n) (codes "7")

-- `skip 3 ;`
abbrev skipped : List Token
skipped = skips ∷ number 3 ∷ semicolon ∷ []

-- `subsystem KernelServer s 5 ; skip 3 ;`
abbrev two : List Token
two = begins ∷ side ∷ name (codes "s") ∷ number 5 ∷ semicolon ∷ skipped

abbrev heading : Subsystem
heading = record { name = codes "s"; base = 5; is_kernel_server = true }

pub heading_stands : IsStatement two skipped
heading_stands = record {
  inside = begins ∷ side ∷ name (codes "s") ∷ number 5 ∷ [];
  end = semicolon;
  splits = refl;
  ends = refl;
  stands = other 0 begins (side ∷ name (codes "s") ∷ number 5 ∷ []) refl
      (other 0 side (name (codes "s") ∷ number 5 ∷ []) refl
      (other 0 (name (codes "s")) (number 5 ∷ []) refl (other 0 (number 5) [] refl nothing)));
}

pub skip_stands : IsStatement skipped []
skip_stands = record {
  inside = skips ∷ number 3 ∷ [];
  end = semicolon;
  splits = refl;
  ends = refl;
  stands = other 0 skips (number 3 ∷ []) refl (other 0 (number 3) [] refl nothing);
}

-- the subsystem, of a kernel's server
pub heading_is : IsHeading two skipped heading
heading_is = record {
  word = begins;
  sides = side ∷ [];
  named = name (codes "s");
  number = number 5;
  ends = semicolon;
  splits = refl;
  are_sides = one_side refl no_side;
  is_named = record { seen = refl };
  name_is = refl;
  is_short = leb-true 1 limit_of_name refl;
  base_is = record { seen = refl };
  is_ended = record { seen = refl };
}

pub first_is : statement_kind two ≡ Some kinds.Subsystem
unfolding statement_kind first_of text_of
first_is = refl

pub second_is : statement_kind skipped ≡ Some kinds.Skip
unfolding statement_kind first_of text_of
second_is = refl

-- a file of a subsystem that takes three ids and has no row
pub two_are_a_file : IsFile false two
    (record { heading = heading; ids = 3; rows = []; unread = [] })
two_are_a_file = record {
  last = record nothing_said { heading = Some heading; taken = 3 };
  are = statement heading_stands (subsystem first_is refl heading_is)
      (statement skip_stands (skip second_is refl
      (many (record { seen = refl }) (record { seen = refl }))) none);
  heading = refl;
  ids = refl;
  rows = refl;
  unread = refl;
}

-- no statement is without tokens
has_tokens : (inside : List Token) (end : Token) (behind : List Token)
    → no_tokens (inside ++ end ∷ behind) ≡ false
has_tokens [] end behind = refl
has_tokens (one ∷ inside) end behind = refl

says_nothing : {received : Bool} {last : State} (found : Subsystem)
    → AreStatements received nothing_said [] last → last.heading ≡ Some found → ⊥
says_nothing found none e = false≢true (ap (λ (o : Option Subsystem). is_some o) e)
says_nothing found (statement {behind} stands next others) e =
    false≢true (sym (ap (λ (l : List Token). no_tokens l) stands.splits
    ∙ has_tokens stands.inside stands.end behind))

-- no tokens are no file: it has no subsystem
pub subsystem_is_needed : (received : Bool) (file : FileSays) → IsFile received [] file → ⊥
subsystem_is_needed received file is = says_nothing file.heading is.are is.heading
