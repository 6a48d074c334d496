-- Believe. The first fault of a wiring of version 4; for the value a step. It begins with a line
-- that names the version, as older wirings do. This profile's own choice.
use Rattle.std.specs.Prelude.{ℕ, ◌+◌, ◌==◌, ◌&&◌, nat_lt, bytes_eq, codes, List, [], ◌∷◌, length}
use Rattle.std.specs.Prelude.{Option, Some, None, Result, Ok, Err, if◌then◌else◌}
use Rattle.mrc_base.specs.Limits.{limit_of_lines}
use Rattle.mrc_base.specs.Reading.{◌>>=◌}
use Rattle.mrc_wiring_text.specs.declared.faults.TextFault.{TextFault}
use Rattle.mrc_wiring_text.specs.declared.faults.TextFault.TheVariants.{BadLine, Version}
use Rattle.mrc_wiring_text.specs.declared.reading.Line.{Line}
use Rattle.mrc_wiring_text.specs.Lexis.{lines, words, decimal}
use Rattle.mrc_wiring_text.specs.Kinds.{is_number}
use Rattle.mrc_wiring_text.specs.Reading.{too_far, body, utf8_text}
use Rattle.mrc_stand_for.specs.declared.wide.WideSays.{WideSays}
use Rattle.mrc_wide_text.specs.WideLines.{wide_says}

-- the version
abbrev pub wide_version : ℕ
wide_version = 4

-- the version that the words of a first line name
unfoldable pub version_of : List (List ℕ) → Option ℕ
version_of (word ∷ number ∷ []) =
    if bytes_eq word (codes "wiring") && is_number number then Some (decimal number) else None
version_of words = None

-- the number of the line after a first line that has number n and names this version
abbrev pub after_version : ℕ → Option ℕ → Result ℕ TextFault
after_version n None = Err (BadLine n)
after_version n (Some version) = if version == wide_version then Ok (n + 1) else Err Version

-- the same, of the words of that line, unless it is past the last line that a text may have
unfoldable pub after_heading : ℕ → List (List ℕ) → Result ℕ TextFault
after_heading n words =
    if nat_lt limit_of_lines n then Err too_far else after_version n (version_of words)

-- past the first line that has words: the number of the next line, and the lines from there on
unfoldable pub heading : ℕ → List (List ℕ) → Result (ℕ × List (List ℕ)) TextFault
heading n [] = Err (BadLine 1)
heading n (line ∷ rest) =
    if length (words line) == 0 then heading (n + 1) rest
    else after_heading n (words line) >>= λ next. Ok (next, rest)

-- what a wiring says
unfoldable pub wide_wiring_of : List ℕ → Result (List (Line WideSays)) TextFault
wide_wiring_of bytes = do
  text ← utf8_text bytes
  start ← heading 1 (lines text)
  body wide_says start.0 start.1
