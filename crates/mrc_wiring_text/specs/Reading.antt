-- Believe. The first fault; for the value a step. Both kinds of text begin with a line that names
-- the kind and its edition, by version 1, 2 or 3; no policy has version 3. This grammar is this
-- profile's own choice.
use Rattle.std.specs.Prelude.{ℕ, ◌+◌, ◌==◌, ◌&&◌, nat_lt, bytes_eq, codes, Bool, true, false}
use Rattle.std.specs.Prelude.{List, [], ◌∷◌}
use Rattle.std.specs.Prelude.{length, Option, Some, None, Result, Ok, Err, if◌then◌else◌}
use Rattle.std.specs.Str.{is_utf8}
use Rattle.mrc_base.specs.Limits.{limit_of_lines}
use Rattle.mrc_base.specs.Reading.{◌>>=◌}
use Rattle.mrc_wiring_text.specs.declared.faults.TextFault.{TextFault}
use Rattle.mrc_wiring_text.specs.declared.faults.TextFault.TheVariants.{NotUtf8, BadLine, Version}
use Rattle.mrc_wiring_text.specs.declared.reading.Edition.{Edition}
use Rattle.mrc_wiring_text.specs.declared.reading.Edition.TheVariants.{First, Second, Third}
use Rattle.mrc_wiring_text.specs.declared.reading.TextKind.{TextKind}
use Rattle.mrc_wiring_text.specs.declared.reading.TextKind.TheVariants.{Wiring, Policy}
use Rattle.mrc_wiring_text.specs.declared.reading.Line.{Line}
use Rattle.mrc_wiring_text.specs.Lexis.{lines, words, decimal}
use Rattle.mrc_wiring_text.specs.Kinds.{is_number}

-- a line past the last that a text may have
abbrev pub too_far : TextFault
too_far = BadLine (limit_of_lines + 1)

-- the version of an edition
abbrev pub edition_number : Edition → ℕ
edition_number First = 1
edition_number Second = 2
edition_number Third = 3

-- the word of a kind of texts
abbrev pub text_word : TextKind → List ℕ
text_word Wiring = codes "wiring"
text_word Policy = codes "policy"

-- there are texts of the kind in the edition
abbrev pub has_edition : TextKind → Edition → Bool
has_edition kind First = true
has_edition kind Second = true
has_edition Wiring Third = true
has_edition Policy Third = false

-- the third edition, if there are texts of the kind in it
abbrev pub third_of : TextKind → Option Edition
third_of Wiring = Some Third
third_of Policy = None

-- the edition of a version of a kind of texts
abbrev pub edition_of : TextKind → ℕ → Option Edition
edition_of kind version =
    if version == 1 then Some First
    else (if version == 2 then Some Second
    else (if version == 3 then third_of kind else None))

-- the version that the words of a first line name
unfoldable pub version_of : TextKind → List (List ℕ) → Option ℕ
version_of kind (word ∷ number ∷ []) =
    if bytes_eq word (text_word kind) && is_number number then Some (decimal number) else None
version_of kind words = None

-- the edition of a text, and the number of the line after its first line
abbrev pub behind : ℕ → Option Edition → Result (Edition × ℕ) TextFault
behind n None = Err Version
behind n (Some edition) = Ok (edition, n + 1)

-- the same if the first line has number n and names this version
abbrev pub after_version : TextKind → ℕ → Option ℕ → Result (Edition × ℕ) TextFault
after_version kind n None = Err (BadLine n)
after_version kind n (Some version) = behind n (edition_of kind version)

-- the same, of the words of that line, unless it is past the last line that a text may have
unfoldable pub after_heading : TextKind → ℕ → List (List ℕ) → Result (Edition × ℕ) TextFault
after_heading kind n words =
    if nat_lt limit_of_lines n then Err too_far else after_version kind n (version_of kind words)

-- past the first line that has words: the edition, the number of the next line, and the lines from
-- there on
unfoldable pub heading : TextKind → ℕ → List (List ℕ)
    → Result ((Edition × ℕ) × List (List ℕ)) TextFault
heading kind n [] = Err (BadLine 1)
heading kind n (line ∷ rest) =
    if length (words line) == 0 then heading kind (n + 1) rest
    else after_heading kind n (words line) >>= λ next. Ok (next, rest)

-- what words say, if they say something
abbrev pub or_bad : {S : Type 0} → ℕ → Option S → Result (Option S) TextFault
or_bad n None = Err (BadLine n)
or_bad n (Some says) = Ok (Some says)

-- what a line says, if it has words
unfoldable pub line_of : {S : Type 0} → (List (List ℕ) → Option S) → ℕ → List ℕ
    → Result (Option S) TextFault
line_of meaning n line =
    if nat_lt limit_of_lines n then Err too_far
    else (if length (words line) == 0 then Ok None else or_bad n (meaning (words line)))

-- what a line says, if anything, before what the others say
abbrev pub onto : {S : Type 0} → ℕ → Option S → List (Line S) → List (Line S)
onto n None others = others
onto n (Some says) others = record { number = n; says = says } ∷ others

-- what lines say, the first of which has this number
unfoldable pub body : {S : Type 0} → (List (List ℕ) → Option S) → ℕ → List (List ℕ)
    → Result (List (Line S)) TextFault
body meaning n [] = Ok []
body meaning n (line ∷ rest) = do
  says ← line_of meaning n line
  others ← body meaning (n + 1) rest
  Ok (onto n says others)

-- bytes that are a text
unfoldable pub utf8_text : List ℕ → Result (List ℕ) TextFault
utf8_text bytes = if is_utf8 bytes then Ok bytes else Err NotUtf8

-- the edition of a text of a kind, or the fault of what stands up to its first line
unfoldable pub text_edition : TextKind → List ℕ → Result Edition TextFault
text_edition kind bytes = do
  text ← utf8_text bytes
  start ← heading kind 1 (lines text)
  Ok start.0.0

-- what a text of a kind says, given what words say in each edition
unfoldable pub text_of : {S : Type 0} → TextKind → (Edition → List (List ℕ) → Option S) → List ℕ
    → Result (List (Line S)) TextFault
text_of kind meaning bytes = do
  text ← utf8_text bytes
  start ← heading kind 1 (lines text)
  body (meaning start.0.0) start.0.1 start.1
