-- Believe. Which bytes are a wiring or a policy, and what it says. What a text is, apart from how
-- it is read: lines without words, a heading, and lines that each say something or have no words.
-- This grammar is this profile's own choice.
use Rattle.std.specs.Prelude.{◌≡◌, ◌≢◌, ℕ, ◌+◌, ◌≤◌, ◌⊎◌, IsTrue, List, [], ◌∷◌, ◌++◌, length}
use Rattle.std.specs.Prelude.{Option, Some}
use Rattle.std.specs.List.{AllByRecursion}
use Rattle.std.specs.Str.{IsUtf8}
use Rattle.mrc_base.specs.Limits.{limit_of_lines}
use Rattle.mrc_wiring_text.specs.declared.reading.Edition.{Edition}
use Rattle.mrc_wiring_text.specs.declared.reading.Line.{Line}
use Rattle.mrc_wiring_text.specs.declared.wiring.WiringSays.{WiringSays}
use Rattle.mrc_wiring_text.specs.declared.policy.Forbid.{Forbid}
use Rattle.mrc_wiring_text.specs.Lexis.{lines, words, decimal}
use Rattle.mrc_wiring_text.specs.Kinds.{is_number}
use Rattle.mrc_wiring_text.specs.declared.reading.TextKind.{TextKind}
use Rattle.mrc_wiring_text.specs.declared.reading.TextKind.TheVariants.{Wiring, Policy}
use Rattle.mrc_wiring_text.specs.Reading.{edition_number, text_word, has_edition}
use Rattle.mrc_wiring_text.specs.Wiring.{wiring_says}
use Rattle.mrc_wiring_text.specs.Policy.{policy_says}

-- a line without words
abbrev pub IsWordless : List ℕ → Type 0
IsWordless line = words line ≡ []

-- a line of two words: that of the kind of the text, which has the edition, and decimal digits that
-- encode the edition's version
pub record IsHeading (kind : TextKind) (edition : Edition) (line : List ℕ) : Type 0 where
  pub number : List ℕ
  pub said : words line ≡ text_word kind ∷ number ∷ []
  pub digits : IsTrue (is_number number)
  pub value : decimal number ≡ edition_number edition
  pub has : IsTrue (has_edition kind edition)

-- lines, the first of which has number n, and what those with words say
abbrev pub Say : {S : Type 0} → (List (List ℕ) → Option S) → ℕ → List (List ℕ) → List (Line S)
    → Type 0
Say meaning n [] says = says ≡ []
Say {S} meaning n (line ∷ rest) says =
    (IsWordless line × Say meaning (n + 1) rest says)
    ⊎ ((s : S) × (others : List (Line S)) × (words line ≢ []) × (meaning (words line) ≡ Some s)
    × (says ≡ record { number = n; says = s } ∷ others) × Say meaning (n + 1) rest others)

-- bytes that are a text of a kind, and what it says
pub record IsText {S : Type 0} (kind : TextKind) (meaning : Edition → List (List ℕ) → Option S)
    (bytes : List ℕ) (says : List (Line S)) : Type 0 where
  pub edition : Edition
  pub utf8 : IsUtf8 bytes
  pub few : length (lines bytes) ≤ limit_of_lines
  pub before : List (List ℕ)
  pub head : List ℕ
  pub after : List (List ℕ)
  pub parts : lines bytes ≡ before ++ head ∷ after
  pub wordless : AllByRecursion IsWordless before
  pub heading : IsHeading kind edition head
  pub body : Say (meaning edition) (length before + 2) after says

-- bytes that are a wiring
abbrev pub IsWiring : List ℕ → List (Line WiringSays) → Type 0
IsWiring bytes says = IsText Wiring wiring_says bytes says

-- bytes that are a policy
abbrev pub IsPolicy : List ℕ → List (Line Forbid) → Type 0
IsPolicy bytes says = IsText Policy policy_says bytes says
