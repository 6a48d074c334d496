-- Believe. Where in the sources a place of a text is, by the marks of lines before it, as the
-- preprocessor writes them: `# 7 "x.defs"` says that the line behind it is line 7 of x.defs.
use Rattle.std.specs.Prelude.{ℕ, ◌+◌, ◌-◌, ◌*◌, ◌==◌, List, [], ◌∷◌, Option, Some, None, min}
use Rattle.std.specs.Prelude.{option_map, codes, nat_lt, take, slice_range, if◌then◌else◌}
use Rattle.std.specs.Char.{is_ascii_digit}
use Rattle.std.specs.List.{filter, filter_map, fold, last_or, count_by}
use Rattle.mrc_base.specs.Limits.{limit_of_number}
use Rattle.mrc_mig_symbols.specs.Directives.{without_blanks, after_bytes}
use Rattle.mrc_mig_tokens.specs.declared.tokens.LineMark.{LineMark}

-- a place in the sources: the name of the file, or none where it is the text itself, and the line
pub record Source : Type 0 where
  pub file : Option (List ℕ)
  pub line : ℕ

-- what follows the word `line`, where it is there, and blanks
abbrev pub behind_word : List ℕ → Option (List ℕ) → List ℕ
behind_word line None = line
behind_word line (Some after) = without_blanks after

-- what follows a `#` and blanks, and then that word
abbrev pub behind_hash : Option (List ℕ) → List ℕ
behind_hash None = []
behind_hash (Some line) =
    behind_word (without_blanks line) (after_bytes (codes "line") (without_blanks line))

-- a mark from its number on
abbrev pub numbered : List ℕ → List ℕ
numbered line = behind_hash (after_bytes (codes "#") line)

-- the digits at the front, and what follows them
abbrev pub digits_of : List ℕ → List ℕ
digits_of [] = []
digits_of (b ∷ line) = if is_ascii_digit b then b ∷ digits_of line else []

abbrev pub behind_digits : List ℕ → List ℕ
behind_digits [] = []
behind_digits (b ∷ line) = if is_ascii_digit b then behind_digits line else b ∷ line

-- the number that digits spell
abbrev pub value_of : List ℕ → ℕ
value_of digits = fold (λ n b. n * 10 + (b - 48)) 0 digits

-- the number at the front, or the largest of a MIG file, if that is smaller
abbrev pub number_of : List ℕ → ℕ
number_of line = min (value_of (digits_of line)) limit_of_number

-- the bytes before the first quote, where there is one
abbrev pub before_quote : List ℕ → Option (List ℕ)
before_quote [] = None
before_quote (b ∷ line) =
    if b == 34 then Some [] else option_map (λ name. b ∷ name) (before_quote line)

-- the bytes between a quote at the front and the next one
abbrev pub quoted : List ℕ → Option (List ℕ)
quoted [] = None
quoted (b ∷ line) = if b == 34 then before_quote line else None

-- the name of the file in a mark, where it has one
abbrev pub name_in : List ℕ → Option (List ℕ)
name_in line = quoted (without_blanks (behind_digits (numbered line)))

-- a mark, as it stands in the text
abbrev pub text_of : List ℕ → LineMark → List ℕ
text_of text mark = slice_range text mark.at mark.end

-- the marks before a place
abbrev pub before : ℕ → List LineMark → List LineMark
before place marks = filter (λ mark. nat_lt mark.at place) marks

-- the last name among marks
abbrev pub last_name : List ℕ → List LineMark → Option (List ℕ)
last_name text marks = last_or None (filter_map (λ mark. name_in (text_of text mark)) marks)

-- how many lines end here
abbrev pub line_feeds : List ℕ → ℕ
line_feeds bytes = count_by (λ b. b == 10) bytes

-- the line of a place behind a mark, whose number is that of the line behind it; without a mark the
-- first line of the text has the number 1
abbrev pub line_behind : List ℕ → ℕ → Option LineMark → ℕ
line_behind text place None = line_feeds (take place text) + 1
line_behind text place (Some mark) =
    number_of (numbered (text_of text mark)) + line_feeds (slice_range text mark.end place) - 1

-- where a place is: the file is that of the last mark before it with a name, the line goes by the
-- last mark before it
abbrev pub source_of : List ℕ → List LineMark → ℕ → Source
source_of text marks place = record {
  file = last_name text (before place marks);
  line = line_behind text place (last_or None (before place marks));
}
