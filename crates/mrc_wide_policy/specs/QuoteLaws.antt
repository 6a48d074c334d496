-- Law. Words with strings are words where there is no string.
use Rattle.std.specs.Prelude.{◌≡◌, ℕ, false, List}
use Rattle.std.specs.List.{list_any}
use Rattle.mrc_wiring_text.specs.Lexis.{words}
use Rattle.mrc_wide_policy.specs.Quotes.{is_quote, quoted_words}

-- a line without a `"` has its words
abbrev pub PlainLinesHaveTheirWords : Type 0
PlainLinesHaveTheirWords =
    (line : List ℕ) → list_any is_quote line ≡ false → quoted_words line ≡ words line
