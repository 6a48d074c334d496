-- Believe. Which bytes are a policy of version 3, and what it says: lines without words, a heading,
-- and lines that each say something or have no words. This profile's own choice.
use Rattle.std.specs.Prelude.{◌≡◌, ◌≢◌, ℕ, ◌+◌, ◌≤◌, ◌⊎◌, List, [], ◌∷◌, ◌++◌, length, Some}
use Rattle.std.specs.List.{AllByRecursion}
use Rattle.std.specs.Str.{IsUtf8}
use Rattle.mrc_base.specs.Limits.{limit_of_lines}
use Rattle.mrc_wiring_text.specs.declared.reading.Line.{Line}
use Rattle.mrc_wiring_text.specs.Lexis.{lines, words}
use Rattle.mrc_wiring_text.specs.Texts.{IsWordless}
use Rattle.mrc_wide_policy.specs.declared.says.PolicySays.{PolicySays}
use Rattle.mrc_wide_policy.specs.Quotes.{quoted_words}
use Rattle.mrc_wide_policy.specs.PolicyLines.{policy_says}
use Rattle.mrc_wide_policy.specs.PolicyReading.{wide_version, version_of}

-- lines behind the heading, the first of which has number n, and what those with words say
abbrev pub Say : ℕ → List (List ℕ) → List (Line PolicySays) → Type 0
Say n [] says = says ≡ []
Say n (line ∷ rest) says =
    ((quoted_words line ≡ []) × Say (n + 1) rest says)
    ⊎ ((s : PolicySays) × (others : List (Line PolicySays)) × (quoted_words line ≢ [])
    × (policy_says (quoted_words line) ≡ Some s)
    × (says ≡ record { number = n; says = s } ∷ others) × Say (n + 1) rest others)

-- bytes that are a policy of version 3, and what it says
pub record IsWidePolicy (bytes : List ℕ) (says : List (Line PolicySays)) : Type 0 where
  pub utf8 : IsUtf8 bytes
  pub few : length (lines bytes) ≤ limit_of_lines
  pub before : List (List ℕ)
  pub head : List ℕ
  pub after : List (List ℕ)
  pub parts : lines bytes ≡ before ++ head ∷ after
  pub wordless : AllByRecursion IsWordless before
  pub heading : version_of (words head) ≡ Some wide_version
  pub body : Say (length before + 2) after says
