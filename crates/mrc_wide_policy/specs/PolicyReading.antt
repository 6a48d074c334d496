-- Believe. The first fault of a policy of version 3; for the value a step. It begins with a line
-- that names the version, as older policies do. This profile's own choice.
use Rattle.std.specs.Prelude.{ℕ, ◌+◌, ◌==◌, ◌&&◌, nat_lt, bytes_eq, codes, List, [], ◌∷◌, ◌++◌}
use Rattle.std.specs.Prelude.{length, Option, Some, None, Result, Ok, Err, if◌then◌else◌}
use Rattle.mrc_base.specs.Limits.{limit_of_lines}
use Rattle.mrc_base.specs.Reading.{◌>>=◌}
use Rattle.mrc_wiring_text.specs.declared.faults.TextFault.{TextFault}
use Rattle.mrc_wiring_text.specs.declared.faults.TextFault.TheVariants.{BadLine, Version}
use Rattle.mrc_wiring_text.specs.declared.reading.Line.{Line}
use Rattle.mrc_wiring_text.specs.Lexis.{lines, words, decimal}
use Rattle.mrc_wiring_text.specs.Kinds.{is_number}
use Rattle.mrc_wiring_text.specs.Reading.{too_far, or_bad, utf8_text}
use Rattle.mrc_wide_policy.specs.declared.says.PolicySays.{PolicySays}
use Rattle.mrc_wide_policy.specs.Quotes.{quoted_words}
use Rattle.mrc_wide_policy.specs.PolicyLines.{policy_says}

-- the version
abbrev pub wide_version : ℕ
wide_version = 3

-- the version that the words of a first line name
unfoldable pub version_of : List (List ℕ) → Option ℕ
version_of (word ∷ number ∷ []) =
    if bytes_eq word (codes "policy") && is_number number then Some (decimal number) else None
version_of words = None

-- what the lines so far say: nothing up to the heading, and then those behind it
abbrev pub SoFar : Type 0
SoFar = Option (List (Line PolicySays))

-- a heading of number n that names this version: no line behind it yet
abbrev pub headed : ℕ → Option ℕ → Result SoFar TextFault
headed n None = Err (BadLine n)
headed n (Some version) = if version == wide_version then Ok (Some []) else Err Version

-- a first line with words, unless it is past the last that a text may have
unfoldable pub heading_of : ℕ → List (List ℕ) → Result SoFar TextFault
heading_of n words =
    if nat_lt limit_of_lines n then Err too_far else headed n (version_of words)

-- what words of line n say, if they are any
abbrev pub words_say : ℕ → List (List ℕ) → Result (Option PolicySays) TextFault
words_say n words = if length words == 0 then Ok None else or_bad n (policy_says words)

-- what line n says, unless it is past the last that a text may have
unfoldable pub line_says : ℕ → List ℕ → Result (Option PolicySays) TextFault
line_says n line =
    if nat_lt limit_of_lines n then Err too_far else words_say n (quoted_words line)

-- what a line says as a list
abbrev pub as_line : ℕ → Option PolicySays → List (Line PolicySays)
as_line n None = []
as_line n (Some says) = record { number = n; says = says } ∷ []

-- line n more
abbrev pub add_line : ℕ → SoFar → List ℕ → Result SoFar TextFault
add_line n None line = if length (words line) == 0 then Ok None else heading_of n (words line)
add_line n (Some said) line = line_says n line >>= λ says. Ok (Some (said ++ as_line n says))

-- lines more, the first of which has number n
unfoldable pub add_lines : ℕ → SoFar → List (List ℕ) → Result SoFar TextFault
add_lines n so_far [] = Ok so_far
add_lines n so_far (line ∷ rest) = add_line n so_far line >>= λ more. add_lines (n + 1) more rest

-- what a text says that has a heading
abbrev pub with_heading : SoFar → Result (List (Line PolicySays)) TextFault
with_heading None = Err (BadLine 1)
with_heading (Some said) = Ok said

-- what a policy says
unfoldable pub wide_policy_of : List ℕ → Result (List (Line PolicySays)) TextFault
wide_policy_of bytes = do
  text ← utf8_text bytes
  said ← add_lines 1 None (lines text)
  with_heading said
