-- Believe. The text of a wiring with lines dropped and added. A wiring's text with lines left out,
-- changed and added: what a file says that is edited by the lines that are printed of a mend. This
-- profile's own choice.
use Rattle.std.specs.Prelude.{ℕ, ◌+◌, ◌==◌, List, [], ◌∷◌, ◌++◌, map, flat_map, fold}
use Rattle.std.specs.Prelude.{codes, string_bytes, if◌then◌else◌}
use Rattle.mrc_model.specs.declared.Verb.{Verb}
use Rattle.mrc_model.specs.declared.Verb.TheVariants.{Takes, Gives, Sends, Replies}
use Rattle.mrc_wiring_text.specs.Lexis.{lines}
use Rattle.mrc_wiring.specs.declared.names.ClassKind.{ClassKind}
use Rattle.mrc_wiring.specs.declared.names.ClassKind.TheVariants.{Port, Task, Births}
use Rattle.mrc_wiring.specs.Names.{kind_word}
use Rattle.mrc_mend.specs.declared.changes.Change.{Change}
use Rattle.mrc_mend.specs.declared.changes.Change.TheVariants.{Remove, Narrow, Restrict, Limit}
use Rattle.mrc_mend.specs.declared.changes.Limitation.{Limitation}
use Rattle.mrc_mend.specs.declared.changes.NamedClass.{NamedClass}
use Rattle.mrc_mend.specs.declared.changes.Restriction.{Restriction}

-- the word of a kind of births, behind the name of their task: kind 0 needs none
abbrev pub behind_task : ℕ → List ℕ
behind_task kind = if kind == 0 then [] else codes " " ++ kind_word kind

-- a class in the words of a wiring: `port P`, `task U`, `births U` of kind 0, or `births U K`
abbrev pub kind_words : ClassKind → List ℕ → List ℕ
kind_words Port name = codes "port " ++ name
kind_words Task name = codes "task " ++ name
kind_words (Births kind) name = codes "births " ++ (name ++ behind_task kind)

-- the words of a class of a restriction
abbrev pub class_words : NamedClass → List ℕ
class_words class = kind_words class.kind (string_bytes class.name)

-- a type of port arguments in the words of a wiring: `S.type`
abbrev pub type_word : Restriction → List ℕ
type_word r = string_bytes r.subsystem ++ (codes "." ++ string_bytes r.type_name)

-- a line that says of the type what it admits
abbrev pub admit_line : Restriction → List ℕ → List ℕ
admit_line r admitted = codes "admit " ++ (type_word r ++ (codes " " ++ admitted))

-- a line that says of the type that it admits the class
abbrev pub class_line : Restriction → NamedClass → List ℕ
class_line r class = admit_line r (class_words class)

-- the lines that restrict a type to these classes: one for each, and where there are none, one that
-- says `none`
abbrev pub admit_lines : Restriction → List NamedClass → List (List ℕ)
admit_lines r [] = admit_line r (codes "none") ∷ []
admit_lines r (class ∷ classes) = map (class_line r) (class ∷ classes)

-- the word of a verb
abbrev pub verb_word : Verb → List ℕ
verb_word Takes = codes "takes"
verb_word Gives = codes "gives"
verb_word Sends = codes "sends"
verb_word Replies = codes "replies"

-- a line that trusts the task to do so with no right: `trust T VERB none`
abbrev pub trust_line : Limitation → List ℕ
trust_line l =
    codes "trust " ++ (string_bytes l.task
    ++ (codes " " ++ (verb_word l.verb ++ codes " none")))

-- the lines that a change adds
abbrev pub added_lines : Change → List (List ℕ)
added_lines (Remove line) = []
added_lines (Narrow line) = []
added_lines (Restrict r) = admit_lines r r.classes.items
added_lines (Limit l) = trust_line l ∷ []

-- a line, with its end
abbrev pub ended : List ℕ → List ℕ
ended line = line ++ codes "\n"

-- what a change leaves of the line of this number: nothing if it leaves the line out, and the new
-- text if it narrows the line
abbrev pub changed_line : ℕ → List ℕ → Change → List ℕ
changed_line n line (Remove number) = if number == n then [] else line
changed_line n line (Narrow c) = if c.number == n then string_bytes c.text else line
changed_line n line (Restrict r) = line
changed_line n line (Limit l) = line

-- what changes leave of the line of this number
abbrev pub line_left : List Change → ℕ → List ℕ → List ℕ
line_left changes n line = fold (changed_line n) line changes

-- what changes leave of lines, of which the first has this number: all keep their numbers
abbrev pub lines_left : List Change → ℕ → List (List ℕ) → List ℕ
lines_left changes n [] = []
lines_left changes n (line ∷ rest) =
    ended (line_left changes n line) ++ lines_left changes (n + 1) rest

-- the lines that changes add
abbrev pub all_added : List Change → List (List ℕ)
all_added changes = flat_map added_lines changes

-- the text of a wiring with the changes: what is left of its lines, and behind them what is added
abbrev pub mended : List ℕ → List Change → List ℕ
mended wiring changes =
    lines_left changes 1 (lines wiring) ++ flat_map ended (all_added changes)
