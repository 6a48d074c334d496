-- Believe. Which bytes are a wiring of version 4, and what it says: lines without words, a heading,
-- and lines that each say something or have no words. This profile's own choice.
use Rattle.std.specs.Prelude.{◌≡◌, ℕ, ◌+◌, ◌≤◌, IsTrue, codes, List, [], ◌∷◌, ◌++◌, length}
use Rattle.std.specs.List.{AllByRecursion}
use Rattle.std.specs.Str.{IsUtf8}
use Rattle.mrc_base.specs.Limits.{limit_of_lines}
use Rattle.mrc_wiring_text.specs.declared.reading.Line.{Line}
use Rattle.mrc_wiring_text.specs.Lexis.{lines, words, decimal}
use Rattle.mrc_wiring_text.specs.Kinds.{is_number}
use Rattle.mrc_wiring_text.specs.Texts.{IsWordless, Say}
use Rattle.mrc_stand_for.specs.declared.wide.WideSays.{WideSays}
use Rattle.mrc_wide_text.specs.WideLines.{wide_says}
use Rattle.mrc_wide_text.specs.WideReading.{wide_version}

-- a line of two words: `wiring`, and decimal digits that encode the version
pub record IsWideHeading (line : List ℕ) : Type 0 where
  pub number : List ℕ
  pub said : words line ≡ codes "wiring" ∷ number ∷ []
  pub digits : IsTrue (is_number number)
  pub value : decimal number ≡ wide_version

-- bytes that are a wiring of version 4, and what it says
pub record IsWideWiring (bytes : List ℕ) (says : List (Line WideSays)) : Type 0 where
  pub utf8 : IsUtf8 bytes
  pub few : length (lines bytes) ≤ limit_of_lines
  pub before : List (List ℕ)
  pub head : List ℕ
  pub after : List (List ℕ)
  pub parts : lines bytes ≡ before ++ head ∷ after
  pub wordless : AllByRecursion IsWordless before
  pub heading : IsWideHeading head
  pub body : Say wide_says (length before + 2) after says
