-- Believe. The lines that a wide line stands for, what is known after it, and the first line that
-- is refused. This profile's own choice.
use Rattle.std.specs.Prelude.{ℕ, ◌+◌, Bool, true, false, ◌||◌, not, ◌&&◌, nat_le, nat_lt, bytes_eq}
use Rattle.std.specs.Prelude.{List, [], ◌∷◌, ◌++◌, map, length, Option, Some, None, Result, Ok, Err}
use Rattle.std.specs.Prelude.{◌≡◌, fold, if◌then◌else◌}
use Rattle.std.specs.List.{list_any}
use Rattle.mrc_base.specs.Limits.{limit_of_kinds}
use Rattle.mrc_base.specs.Reading.{◌>>=◌, Refuses}
use Rattle.mrc_base.specs.declared.memory.OrMemory.{OrMemory}
use Rattle.mrc_base.specs.declared.memory.OrMemory.TheVariants.{Fault, Memory}
use Rattle.mrc_base.specs.declared.PortRight.{PortRight}
use Rattle.mrc_base.specs.declared.PortRight.TheVariants as right
use Rattle.mrc_wiring_text.specs.declared.items.Item.{Item}
use Rattle.mrc_wiring_text.specs.declared.policy.ClassName.{ClassName}
use Rattle.mrc_wiring_text.specs.declared.policy.ClassName.TheVariants as class
use Rattle.mrc_wiring_text.specs.declared.reading.Line.{Line}
use Rattle.mrc_wiring_text.specs.declared.wiring.WiringSays.{WiringSays}
use Rattle.mrc_wiring_text.specs.declared.wiring.WiringSays.TheVariants as core
use Rattle.mrc_wiring_text.specs.declared.trust.TrustVerb.{TrustVerb}
use Rattle.mrc_wiring_text.specs.declared.trust.TrustVerb.TheVariants as verb
use Rattle.mrc_stand_for.specs.declared.faults.StandFault.{StandFault}
use Rattle.mrc_stand_for.specs.declared.faults.StandFault.TheVariants.{BadLine, UnknownName, Late}
use Rattle.mrc_stand_for.specs.declared.faults.StandFault.TheVariants.{TwiceNamed, TooMany}
use Rattle.mrc_stand_for.specs.declared.known.Known.{Known}
use Rattle.mrc_stand_for.specs.declared.known.KnownBirths.{KnownBirths}
use Rattle.mrc_stand_for.specs.declared.lists.Found.{Found}
use Rattle.mrc_stand_for.specs.declared.standing.Standing.{Standing}
use Rattle.mrc_stand_for.specs.declared.standing.StandsFor.{StandsFor}
use Rattle.mrc_stand_for.specs.declared.wide.Place.{Place}
use Rattle.mrc_stand_for.specs.declared.wide.Place.TheVariants as place
use Rattle.mrc_stand_for.specs.declared.wide.SlotName.{SlotName}
use Rattle.mrc_stand_for.specs.declared.wide.Tasks.{Tasks}
use Rattle.mrc_stand_for.specs.declared.wide.Tasks.TheVariants as tasks
use Rattle.mrc_stand_for.specs.declared.wide.WideClass.{WideClass}
use Rattle.mrc_stand_for.specs.declared.wide.WideClass.TheVariants as wide
use Rattle.mrc_stand_for.specs.declared.wide.WideSays.{WideSays}
use Rattle.mrc_stand_for.specs.declared.wide.WideSays.TheVariants as says
use Rattle.mrc_stand_for.specs.declared.wide.Whom.{Whom}
use Rattle.mrc_stand_for.specs.declared.wide.Whom.TheVariants as whom
use Rattle.mrc_stand_for.specs.Once.{with_each, is_among, same_class, same_slot, same_verb}
use Rattle.mrc_stand_for.specs.Once.{same_right}
use Rattle.mrc_stand_for.specs.Known.{no_lines, has_group, has_set, births_said, has_kind}
use Rattle.mrc_stand_for.specs.Known.{has_member, has_named}
use Rattle.mrc_stand_for.specs.Lists.{tasks_of, classes_of, places_of, ports_of}
use Rattle.mrc_stand_for.specs.Expected.{expected_classes}
use Rattle.mrc_stand_for.specs.Products.{births_lines, replies_lines, send_line, once_lines}
use Rattle.mrc_stand_for.specs.Products.{admit_lines, admit_none, verb_of, trust_lines, none_lines}
use Rattle.mrc_stand_for.specs.Steps.{each}

-- lines of a text, at most
abbrev pub limit_of_lines_stood_for : ℕ
limit_of_lines_stood_for = 1048576

-- a line's list names all tasks, so that there are no more
abbrev pub names_all : Tasks → Bool
names_all tasks.All = true
names_all (tasks.AllBut names) = true
names_all (tasks.Listed names) = false

-- the same of WHOM
abbrev pub whom_names_all : Whom → Bool
whom_names_all (whom.Who name) = false
whom_names_all whom.All = true
whom_names_all (whom.AllBut name) = true
whom_names_all whom.Other = true

-- the same of CLASS
abbrev pub class_names_all : WideClass → Bool
class_names_all (wide.Port port) = false
class_names_all (wide.Task whom) = whom_names_all whom
class_names_all (wide.Births whom kinds) = whom_names_all whom
class_names_all (wide.Set name) = false

-- the same of PLACE
abbrev pub place_names_all : Place → Bool
place_names_all (place.Port port) = false
place_names_all (place.Task whom) = whom_names_all whom

-- there are no more tasks, if a list names all
abbrev pub closing : Bool → Known → Known
closing all known = record known { closed = known.closed || all }

-- what the classes that a list names close: the kinds of tasks, and the ports that are births
abbrev pub naming : Found → Known → Known
naming found known = record known {
  closed_kinds = with_each bytes_eq known.closed_kinds found.closed;
  named = with_each same_class known.named found.classes;
}

-- what is known, and the lines that are stood for
pub record Stands : Type 0 where
  pub known : Known
  pub lines : List WiringSays

-- lines, and what is known with them
abbrev pub stood_so_far : Known → List WiringSays → Stands
stood_so_far known lines = record { known = known; lines = lines }

-- the same as an answer
abbrev pub stands : Known → List WiringSays → Result Stands StandFault
stands known lines = Ok (stood_so_far known lines)

-- one group more, of a new name
abbrev pub add_group : Known → ℕ → List ℕ → List (List ℕ) → Result Known StandFault
add_group known n name tasks =
    if is_among name known.tasks || has_group known name then Err (TwiceNamed n)
    else Ok (record known { groups = known.groups ++ record { name = name; tasks = tasks } ∷ [] })

-- one set more, of a new name
abbrev pub add_set : Known → ℕ → List ℕ → Found → List ClassName → Result Known StandFault
add_set known n name found bare =
    if has_set known name then Err (TwiceNamed n)
    else Ok (record known {
      sets = known.sets
          ++ record { name = name; classes = found.classes; bare = bare } ∷ [];
    })

-- what the births that a line names accept, or nothing
abbrev pub accepts_said : Option KnownBirths → List Item
accepts_said (Some births) = births.accepts
accepts_said None = []

-- a port that is of the births of a task, which are there and are not closed
abbrev pub add_member : Known → ℕ → List ℕ → List ℕ → ℕ → Result Known StandFault
add_member known n port task kind =
    if not (is_among task known.tasks && has_kind known task kind) then Err (UnknownName n)
    else if has_named known (class.Births task kind) then Err (Late n)
    else Ok (record known {
      members = known.members ++ record { port = port; task = task; kind = kind } ∷ [];
    })

-- the send rights of a holder
abbrev pub add_sends : Known → ℕ → List Place → List WiringSays → List ℕ
    → Result (List WiringSays) StandFault
add_sends known n places lines holder =
    places_of known n (Some holder) places >>= λ found. Ok (lines ++ map (send_line holder) found)

-- what a trusted task may do by each verb
abbrev pub add_trusts : ℕ → List TrustVerb → List PortRight → List WideClass → Stands → List ℕ
    → Result Stands StandFault
add_trusts n verbs rights classes so_far task =
    classes_of so_far.known n (Some task) classes >>= λ found.
    stands (naming found so_far.known)
    (so_far.lines ++ trust_lines task verbs rights found.classes)

-- `group G TASKS`
abbrev pub group_stands : Known → ℕ → List ℕ → Tasks → Result Stands StandFault
group_stands known n group tasks = do
  listed ← tasks_of known n tasks
  more ← add_group known n group listed
  stands (closing (names_all tasks) more) []

-- `set S CLASSES`
abbrev pub set_stands : Known → ℕ → List ℕ → List WideClass → Result Stands StandFault
set_stands known n set classes = do
  found ← classes_of known n None classes
  bare ← expected_classes known n None classes
  more ← add_set known n set found bare
  stands (closing (list_any class_names_all classes) (naming found more)) []

-- `port P of births T K`
abbrev pub member_stands : Known → ℕ → List ℕ → List ℕ → ℕ → Result Stands StandFault
member_stands known n port task kind = do
  more ← add_member known n port task kind
  stands more (core.Port port task (accepts_said (births_said known task kind)) ∷ [])

-- `births TASKS K accepts ITEMS`
abbrev pub births_stands : Known → ℕ → Tasks → ℕ → List Item → Result Stands StandFault
births_stands known n tasks kind accepts = do
  listed ← tasks_of known n tasks
  stands (closing (names_all tasks) known) (births_lines listed kind accepts)

-- `births TASKS K replies I, I ..`
abbrev pub replies_stands : Known → ℕ → Tasks → ℕ → List (List ℕ) → Result Stands StandFault
replies_stands known n tasks kind subsystems =
    if nat_lt limit_of_kinds (kind + length subsystems) then Err (BadLine n)
    else tasks_of known n tasks >>= λ listed.
    stands (closing (names_all tasks) known) (replies_lines listed kind subsystems)

-- `hold TASKS send PLACE, PLACE ..`
abbrev pub send_stands : Known → ℕ → Tasks → List Place → Result Stands StandFault
send_stands known n tasks places = do
  listed ← tasks_of known n tasks
  lines ← each (add_sends known n places) [] listed
  stands (closing (names_all tasks || list_any place_names_all places) known) lines

-- `hold TASKS once port P, port P ..`
abbrev pub once_stands : Known → ℕ → Tasks → List (List ℕ) → Result Stands StandFault
once_stands known n tasks ports = do
  listed ← tasks_of known n tasks
  found ← ports_of known n ports
  stands (closing (names_all tasks) known) (once_lines listed found)

-- `admit SLOT, SLOT .. CLASSES`
abbrev pub admit_stands : Known → ℕ → List SlotName → List WideClass → Result Stands StandFault
admit_stands known n slots classes = do
  found ← classes_of known n None classes
  stands (closing (list_any class_names_all classes) (naming found known))
      (admit_lines (with_each same_slot [] slots) found.classes)

-- `trust TASKS VERB, VERB .. RIGHTS CLASSES`
abbrev pub trust_stands : Known → ℕ → Tasks → List TrustVerb → List PortRight → List WideClass
    → Result Stands StandFault
trust_stands known n tasks verbs rights classes = do
  listed ← tasks_of known n tasks
  each (add_trusts n (with_each same_verb [] verbs) (with_each same_right [] rights) classes)
      (stood_so_far (closing (names_all tasks || list_any class_names_all classes) known) []) listed

-- `trust TASKS VERB, VERB .. none`
abbrev pub none_stands : Known → ℕ → Tasks → List TrustVerb → Result Stands StandFault
none_stands known n tasks verbs = do
  listed ← tasks_of known n tasks
  stands (closing (names_all tasks) known) (none_lines listed (with_each same_verb [] verbs))

-- the lines that a line stands for, one case for each line
abbrev pub line_stands : Known → ℕ → WideSays → Result Stands StandFault
line_stands known n (says.Task names) = stands known (map core.Task names)
line_stands known n (says.Group group tasks) = group_stands known n group tasks
line_stands known n (says.Set set classes) = set_stands known n set classes
line_stands known n (says.Port port receiver accepts) =
    stands known (core.Port port receiver accepts ∷ [])
line_stands known n (says.PortOf port task kind) = member_stands known n port task kind
line_stands known n (says.Births tasks kind accepts) = births_stands known n tasks kind accepts
line_stands known n (says.Replies tasks kind subsystems) =
    replies_stands known n tasks kind subsystems
line_stands known n (says.HoldSend tasks places) = send_stands known n tasks places
line_stands known n (says.HoldOnce tasks ports) = once_stands known n tasks ports
line_stands known n (says.Admit slots (Some classes)) = admit_stands known n slots classes
line_stands known n (says.Admit slots None) =
    stands known (map admit_none (with_each same_slot [] slots))
line_stands known n (says.Trust tasks verbs rights classes) =
    trust_stands known n tasks (map verb_of verbs) rights classes
line_stands known n (says.TrustReplies tasks classes) =
    trust_stands known n tasks (verb.Replies ∷ []) (right.SendOnce ∷ []) classes
line_stands known n (says.TrustNone tasks verbs) = none_stands known n tasks verbs
line_stands known n says.RepliesFit = stands known (core.RepliesFit ∷ [])

-- a line that is stood for adds to what a line above has closed
abbrev pub is_late : Known → WiringSays → Bool
is_late known (core.Task name) = known.closed
is_late known (core.Births task kind accepts) =
    is_among task known.closed_kinds || has_member known task kind
is_late known _ = false

-- it names a task as a group
abbrev pub is_group : Known → WiringSays → Bool
is_group known (core.Task name) = has_group known name
is_group known _ = false

-- what is known after it
abbrev pub known_after : Known → WiringSays → Known
known_after known (core.Task name) =
    record known { tasks = with_each bytes_eq known.tasks (name ∷ []) }
known_after known (core.Port port receiver accepts) =
    record known { ports = known.ports ++ port ∷ [] }
known_after known (core.Births task kind accepts) = record known {
  births = known.births ++ record { task = task; kind = kind; accepts = accepts } ∷ [];
}
known_after known _ = known

-- the same of a line of a text
abbrev pub known_with : Known → Line WiringSays → Known
known_with known line = known_after known line.says

-- what is known after the lines of a text of an older version
abbrev pub known_of : List (Line WiringSays) → Known
known_of lines = fold known_with no_lines lines

-- the lines in front of the first that is refused, and why it is
abbrev pub stopped : Standing → StandFault → StandsFor
stopped so_far fault = record { lines = so_far.lines; end = Err fault }

-- one line more that is stood for
abbrev pub add_part : ℕ → Standing → WiringSays → Result Standing StandsFor
add_part n so_far says =
    if is_late so_far.known says then Err (stopped so_far (Late n))
    else if is_group so_far.known says then Err (stopped so_far (TwiceNamed n))
    else if nat_le limit_of_lines_stood_for (length so_far.lines)
    then Err (stopped so_far (TooMany n))
    else Ok (record {
      known = known_after so_far.known says;
      lines = so_far.lines ++ record { number = n; says = says } ∷ [];
    })

-- the lines that a line stands for, or the refusal of the line
abbrev pub add_parts : Standing → ℕ → Result Stands StandFault → Result Standing StandsFor
add_parts so_far n (Ok stands) =
    each (add_part n) (record so_far { known = stands.known }) stands.lines
add_parts so_far n (Err fault) = Err (stopped so_far fault)

-- one wide line more
abbrev pub add_line : Standing → Line WideSays → Result Standing StandsFor
add_line so_far line =
    add_parts so_far line.number (line_stands so_far.known line.number line.says)

-- no line yet
abbrev pub nothing_stands : Standing
nothing_stands = record { known = no_lines; lines = [] }

-- all lines, or those in front of the first that is refused
abbrev pub all_or_front : Result Standing StandsFor → StandsFor
all_or_front (Ok so_far) = record { lines = so_far.lines; end = Ok so_far.known }
all_or_front (Err front) = front

-- what the wide lines stand for
abbrev pub stand_for : List (Line WideSays) → StandsFor
stand_for lines = all_or_front (each add_line nothing_stands lines)

-- what a line stands for and what is known after it, as a call left them, unless memory ran out
abbrev pub IsStood : Result (List WiringSays) (OrMemory StandFault) → Known
    → Result Stands StandFault → Type 0
IsStood (Ok lines) known said = said ≡ stands known lines
IsStood (Err refusal) known said = Refuses refusal said

-- the lines so far, as a call left them, unless memory ran out
abbrev pub Stood : Result (Unit {0}) (OrMemory StandFault) → Standing → Result Standing StandsFor
    → Type 0
Stood (Ok done) new said = said ≡ Ok new
Stood (Err (Fault fault)) new said = said ≡ Err (stopped new fault)
Stood (Err Memory) new said = Unit {0}
