-- Believe. What is printed of mends. This profile's own choice.
use Rattle.std.specs.Prelude.{ℕ, ◌+◌, ◌-◌, List, [], ◌∷◌, ◌++◌, map, flat_map, codes, decimal}
use Rattle.std.specs.Prelude.{Option, Some, None, slice_index_or, string_bytes, if◌then◌else◌}
use Rattle.std.specs.List.{slice_get}
use Rattle.std.specs.Str.{is_utf8}
use Rattle.mrc_wiring_text.specs.Lexis.{lines, words}
use Rattle.mrc_mend.specs.declared.causes.Cause.{Cause}
use Rattle.mrc_mend.specs.declared.changes.Change.{Change}
use Rattle.mrc_mend.specs.declared.changes.Change.TheVariants.{Remove, Narrow, Restrict, Limit}
use Rattle.mrc_mend.specs.declared.answers.Answer.{Answer}
use Rattle.mrc_mend.specs.declared.answers.Answer.TheVariants.{Nothing, Found}
use Rattle.mrc_mend.specs.declared.answers.Mend.{Mend}
use Rattle.mrc_mend.specs.declared.changes.Narrowing.{Narrowing}
use Rattle.mrc_mend.specs.declared.changes.Restriction.{Restriction}
use Rattle.mrc_mend.specs.Mending.{type_word, admit_lines, trust_line}

-- a word behind a blank
abbrev pub behind_blank : List ℕ → List ℕ
behind_blank word = codes " " ++ word

-- the bytes, where they are text; nothing where they are not
abbrev pub if_text : List ℕ → List ℕ
if_text bytes = if is_utf8 bytes then bytes else []

-- the words of the line of this number, each behind a blank, where they are text
abbrev pub line_words : List ℕ → ℕ → List ℕ
line_words wiring n =
    if_text (flat_map behind_blank (words (slice_index_or (lines wiring) (n - 1) [])))

-- a line that is left out: its number and its words
abbrev pub removed_line : List ℕ → ℕ → List ℕ
removed_line wiring n =
    codes "remove line " ++ (decimal n ++ (codes " #" ++ line_words wiring n))

-- a line that is narrowed: its number, and the line as it then stands
abbrev pub narrowed_line : Narrowing → List ℕ
narrowed_line c = codes "change line " ++ (decimal c.number ++ (codes " # " ++ string_bytes c.text))

-- a line that is added
abbrev pub added_line : List ℕ → List ℕ
added_line line = codes "add " ++ line

-- a line that is added, and the type that it restricts
abbrev pub restricting_line : Restriction → List ℕ → List ℕ
restricting_line r line = added_line line ++ (codes " # restricts " ++ type_word r)

-- what is told of a change: a line that is left out or narrowed, or those that are added
abbrev pub change_lines : List ℕ → Change → List (List ℕ)
change_lines wiring (Remove n) = removed_line wiring n ∷ []
change_lines wiring (Narrow c) = narrowed_line c ∷ []
change_lines wiring (Restrict r) = map (restricting_line r) (admit_lines r r.classes.items)
change_lines wiring (Limit l) = added_line (trust_line l) ∷ []

-- what comes before the words behind the first line of a change: behind a type that is restricted,
-- a comma
abbrev pub note_sign : Change → List ℕ
note_sign (Restrict r) = codes ","
note_sign change = codes " #"

-- how many of so many broken lines the first change of a mend mends, if that is told
abbrev pub first_mends : ℕ → Option ℕ → List ℕ
first_mends broken None = []
first_mends broken (Some n) =
    codes ", mends " ++ (decimal n ++ (codes " of " ++ (decimal broken ++ codes " lines")))

-- what a mend loses, and how many lines its first change mends, as it stands behind its first line
abbrev pub first_note : ℕ → Mend → Change → List ℕ
first_note broken mend change =
    note_sign change ++ (codes " loses " ++ (decimal mend.lost ++ (codes " facts"
    ++ first_mends broken (slice_get mend.mended.items 0))))

-- how many lines more a further change of a mend mends, as it stands behind the first line of the
-- change, if it is told
abbrev pub further_note : ℕ → Option ℕ → Change → List ℕ
further_note broken None change = []
further_note broken (Some n) change =
    note_sign change
    ++ (codes " mends " ++ (decimal n ++ (codes " more of " ++ (decimal broken ++ codes " lines"))))

-- a line of the mend of this number, with what stands behind it
abbrev pub numbered_line : ℕ → (behind line : List ℕ) → List ℕ
numbered_line k behind line = decimal k ++ (codes " " ++ (line ++ (behind ++ codes "\n")))

-- the lines of a change of the mend of this number, with what stands behind the first
abbrev pub numbered : ℕ → List ℕ → List (List ℕ) → List ℕ
numbered k behind [] = []
numbered k behind (line ∷ rest) =
    numbered_line k behind line ++ flat_map (numbered_line k []) rest

-- further changes of the mend of this number, of which the first is at place n of the mend
abbrev pub further_text : List ℕ → (broken k : ℕ) → (mended : List ℕ) → ℕ → List Change → List ℕ
further_text wiring broken k mended n [] = []
further_text wiring broken k mended n (change ∷ rest) =
    numbered k (further_note broken (slice_get mended n) change) (change_lines wiring change)
    ++ further_text wiring broken k mended (n + 1) rest

-- changes of the mend of this number
abbrev pub changes_text : List ℕ → (broken k : ℕ) → Mend → List Change → List ℕ
changes_text wiring broken k mend [] = []
changes_text wiring broken k mend (change ∷ rest) =
    numbered k (first_note broken mend change) (change_lines wiring change)
    ++ further_text wiring broken k mend.mended.items 1 rest

-- a mend of this number, if so many lines were broken
abbrev pub mend_text : List ℕ → (broken k : ℕ) → Mend → List ℕ
mend_text wiring broken k mend = changes_text wiring broken k mend mend.changes.items

-- mends, of which the first has this number
abbrev pub mends_from : List ℕ → (broken k : ℕ) → List Mend → List ℕ
mends_from wiring broken k [] = []
mends_from wiring broken k (mend ∷ rest) =
    mend_text wiring broken k mend ++ mends_from wiring broken (k + 1) rest

-- the mends that were found, or that there are none
abbrev pub found_text : List ℕ → ℕ → List Mend → List ℕ
found_text wiring broken [] = codes "none\n"
found_text wiring broken (mend ∷ rest) = mends_from wiring broken 1 (mend ∷ rest)

-- how many lines are broken
abbrev pub broken_count : ℕ → List ℕ
broken_count lines = codes "# all " ++ (decimal lines ++ codes " broken lines have ")

-- a line that tells of a cause
abbrev pub shared_line : Cause → List ℕ
shared_line cause =
    broken_count cause.lines ++ (string_bytes cause.fact ++ codes " in their chains\n")

-- the line that tells what all broken lines have in common, if that is known
abbrev pub cause_line : Option Cause → List ℕ
cause_line None = []
cause_line (Some cause) = shared_line cause

-- what is told: `YES` where there is nothing to mend, else what all broken lines have in common,
-- and the mends
abbrev pub mends_text : List ℕ → Answer → List ℕ
mends_text wiring Nothing = codes "YES\n"
mends_text wiring (Found mends) =
    cause_line mends.cause ++ found_text wiring mends.broken mends.mends.items
