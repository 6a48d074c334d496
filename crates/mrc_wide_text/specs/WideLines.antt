-- Believe. What a line of a wiring of version 4 says: one case a line, by its first word. This
-- profile's own choice.
use Rattle.std.specs.Prelude.{ℕ, ◌+◌, nat_le, bytes_eq, codes, List, [], ◌∷◌, length}
use Rattle.std.specs.Prelude.{Option, Some, None, if◌then◌else◌}
use Rattle.std.specs.Option.{option_map}
use Rattle.mrc_base.specs.Limits.{limit_of_kinds}
use Rattle.mrc_base.specs.declared.PortRight.{PortRight}
use Rattle.mrc_wiring_text.specs.declared.items.Item.{Item}
use Rattle.mrc_wiring_text.specs.declared.reading.Edition.{Edition}
use Rattle.mrc_wiring_text.specs.declared.trust.TrustVerb.{TrustVerb}
use Rattle.mrc_wiring_text.specs.Names.{name_of}
use Rattle.mrc_wiring_text.specs.Kinds.{kind_of}
use Rattle.mrc_wiring_text.specs.Wiring.{verb_of}
use Rattle.mrc_stand_for.specs.declared.wide.Place.{Place}
use Rattle.mrc_stand_for.specs.declared.wide.RightVerb.{RightVerb}
use Rattle.mrc_stand_for.specs.declared.wide.SlotName.{SlotName}
use Rattle.mrc_stand_for.specs.declared.wide.Tasks.{Tasks}
use Rattle.mrc_stand_for.specs.declared.wide.WideClass.{WideClass}
use Rattle.mrc_stand_for.specs.declared.wide.WideSays.{WideSays}
use Rattle.mrc_stand_for.specs.declared.wide.WideSays.TheVariants.{Task, Group, Set, Port, PortOf}
use Rattle.mrc_stand_for.specs.declared.wide.WideSays.TheVariants.{Births, Replies, HoldSend}
use Rattle.mrc_stand_for.specs.declared.wide.WideSays.TheVariants.{HoldOnce, Admit, Trust}
use Rattle.mrc_stand_for.specs.declared.wide.WideSays.TheVariants.{TrustReplies, TrustNone}
use Rattle.mrc_stand_for.specs.declared.wide.WideSays.TheVariants.{RepliesFit}
use Rattle.mrc_wide_text.specs.WideWords.{free_name, one, is_alone, separated, in_front, behind}
use Rattle.mrc_wide_text.specs.WideWords.{names_of, tasks_in_front, tasks_behind, tasks_of}
use Rattle.mrc_wide_text.specs.WideWords.{class_of, fixed_class, place_of, port_of}
use Rattle.mrc_wide_text.specs.WideWords.{slot_word, rights_of, right_verb}
use Rattle.mrc_wide_text.specs.WideItems.{items_of}

-- ---- `task`, `group`, `set`

-- the words after `task` in `task T, T ..`
abbrev pub task_line : List (List ℕ) → Option WideSays
task_line words = option_map Task (names_of words)

-- a group, if its name and its tasks are there
abbrev pub group_named : Option (List ℕ) → Option Tasks → Option WideSays
group_named (Some group) (Some tasks) = Some (Group group tasks)
group_named _ _ = None

-- the words after `group` in `group G TASKS`
unfoldable pub group_line : List (List ℕ) → Option WideSays
group_line (group ∷ tasks) = group_named (free_name group) (tasks_of tasks)
group_line [] = None

-- a set, if its name and its classes are there
abbrev pub set_named : Option (List ℕ) → Option (List WideClass) → Option WideSays
set_named (Some set) (Some classes) = Some (Set set classes)
set_named _ _ = None

-- the words after `set` in `set S CLASSES`
unfoldable pub set_line : List (List ℕ) → Option WideSays
set_line (set ∷ classes) = set_named (free_name set) (separated fixed_class classes)
set_line [] = None

-- ---- `port`

-- a port, if both names and what it accepts are there
abbrev pub port_named : Option (List ℕ) → Option (List ℕ) → Option (List Item) → Option WideSays
port_named (Some port) (Some receiver) (Some accepts) = Some (Port port receiver accepts)
port_named _ _ _ = None

-- the words after `receiver` in `port P receiver T accepts ITEMS`
unfoldable pub received_port : List ℕ → List (List ℕ) → Option WideSays
received_port port (task ∷ accepts ∷ items) =
    if bytes_eq accepts (codes "accepts")
    then port_named (name_of port) (free_name task) (items_of items)
    else None
received_port port words = None

-- a port that is births, if both names and the kind are there
abbrev pub port_of_named : Option (List ℕ) → Option (List ℕ) → Option ℕ → Option WideSays
port_of_named (Some port) (Some task) (Some kind) = Some (PortOf port task kind)
port_of_named _ _ _ = None

-- the words after `of` in `port P of births T K`
unfoldable pub born_port : List ℕ → List (List ℕ) → Option WideSays
born_port port (births ∷ task ∷ kind ∷ []) =
    if bytes_eq births (codes "births")
    then port_of_named (name_of port) (free_name task) (kind_of kind)
    else None
born_port port words = None

-- the words after `port`
unfoldable pub port_line : List (List ℕ) → Option WideSays
port_line (port ∷ key ∷ words) =
    if bytes_eq key (codes "receiver") then received_port port words
    else (if bytes_eq key (codes "of") then born_port port words else None)
port_line words = None

-- ---- `births`

-- births that accept items, if the tasks, the kind and the items are there
unfoldable pub births_named : Option Tasks → Option ℕ → Option (List Item) → Option WideSays
births_named (Some tasks) (Some kind) (Some accepts) = Some (Births tasks kind accepts)
births_named _ _ _ = None

-- births by kinds that count up from the first and accept replies, if the last kind is one
abbrev pub counted_replies : Tasks → ℕ → List (List ℕ) → Option WideSays
counted_replies tasks kind subsystems =
    if nat_le (kind + length subsystems) limit_of_kinds
    then Some (Replies tasks kind subsystems)
    else None

-- the same, if the tasks, the first kind and the subsystems are there
unfoldable pub replies_named : Option Tasks → Option ℕ → Option (List (List ℕ)) → Option WideSays
replies_named (Some tasks) (Some kind) (Some subsystems) = counted_replies tasks kind subsystems
replies_named _ _ _ = None

-- what births of tasks say, by the word after their kind
unfoldable pub births_by : Option Tasks → Option ℕ → List ℕ → List (List ℕ) → Option WideSays
births_by tasks kind verb words =
    if bytes_eq verb (codes "accepts") then births_named tasks kind (items_of words)
    else (if bytes_eq verb (codes "replies")
    then replies_named tasks kind (separated (one name_of) words)
    else None)

-- the words after TASKS in `births TASKS K accepts ITEMS` and `births TASKS K replies I, I ..`
unfoldable pub births_say : Option Tasks → List (List ℕ) → Option WideSays
births_say tasks (kind ∷ verb ∷ words) = births_by tasks (kind_of kind) verb words
births_say tasks words = None

-- the words after `births`
abbrev pub births_line : List (List ℕ) → Option WideSays
births_line words =
    births_say (tasks_of (tasks_in_front words)) (tasks_behind words)

-- ---- `hold`

-- send rights of tasks, if the tasks and the places are there
abbrev pub sends_named : Option Tasks → Option (List Place) → Option WideSays
sends_named (Some tasks) (Some places) = Some (HoldSend tasks places)
sends_named _ _ = None

-- send-once rights of tasks, if the tasks and the ports are there
abbrev pub onces_named : Option Tasks → Option (List (List ℕ)) → Option WideSays
onces_named (Some tasks) (Some ports) = Some (HoldOnce tasks ports)
onces_named _ _ = None

-- the words after TASKS in `hold TASKS send PLACE, PLACE ..` and
-- `hold TASKS once port P, port P ..`
unfoldable pub hold_says : Option Tasks → List (List ℕ) → Option WideSays
hold_says tasks (right ∷ words) =
    if bytes_eq right (codes "send") then sends_named tasks (separated place_of words)
    else (if bytes_eq right (codes "once") then onces_named tasks (separated port_of words)
    else None)
hold_says tasks [] = None

-- the words after `hold`
abbrev pub hold_line : List (List ℕ) → Option WideSays
hold_line words =
    hold_says (tasks_of (tasks_in_front words)) (tasks_behind words)

-- ---- `admit`

-- what slots admit, if the slots and what they admit are there
abbrev pub admit_named : Option (List SlotName) → Option (Option (List WideClass))
    → Option WideSays
admit_named (Some slots) (Some classes) = Some (Admit slots classes)
admit_named _ _ = None

-- CLASSES or `none`, in a line without a holder
unfoldable pub admitted : List (List ℕ) → Option (Option (List WideClass))
admitted words =
    if is_alone (codes "none") words then Some None
    else option_map Some (separated fixed_class words)

-- the words after `admit` in `admit SLOT, SLOT .. CLASSES` and `admit SLOT, SLOT .. none`
abbrev pub admit_line : List (List ℕ) → Option WideSays
admit_line words =
    admit_named (separated (one slot_word) (in_front words)) (admitted (behind words))

-- ---- `trust`

-- what tasks may do by verbs, if the tasks, the verbs, the rights and the classes are there
abbrev pub trust_named : Option Tasks → Option (List RightVerb) → Option (List PortRight)
    → Option (List WideClass) → Option WideSays
trust_named (Some tasks) (Some verbs) (Some rights) (Some classes) =
    Some (Trust tasks verbs rights classes)
trust_named _ _ _ _ = None

-- of which classes tasks may name reply ports, if both are there
abbrev pub trust_replies_named : Option Tasks → Option (List WideClass) → Option WideSays
trust_replies_named (Some tasks) (Some classes) = Some (TrustReplies tasks classes)
trust_replies_named _ _ = None

-- nothing by verbs, if the tasks and the verbs are there
abbrev pub trust_none_named : Option Tasks → Option (List TrustVerb) → Option WideSays
trust_none_named (Some tasks) (Some verbs) = Some (TrustNone tasks verbs)
trust_none_named _ _ = None

-- RIGHTS CLASSES, after VERB, VERB ..
abbrev pub trust_rights : Option Tasks → List (List ℕ) → List (List ℕ) → Option WideSays
trust_rights tasks verbs words =
    trust_named tasks (separated (one right_verb) verbs) (rights_of (in_front words))
    (separated class_of (behind words))

-- the words after VERB, VERB ..: `none`, CLASSES after `replies` alone, or RIGHTS CLASSES
unfoldable pub trust_by : Option Tasks → List (List ℕ) → List (List ℕ) → Option WideSays
trust_by tasks verbs words =
    if is_alone (codes "none") words
    then trust_none_named tasks (separated (one verb_of) verbs)
    else (if is_alone (codes "replies") verbs
    then trust_replies_named tasks (separated class_of words)
    else trust_rights tasks verbs words)

-- the words after TASKS
abbrev pub trust_says : Option Tasks → List (List ℕ) → Option WideSays
trust_says tasks words = trust_by tasks (in_front words) (behind words)

-- the words after `trust` in `trust TASKS VERB, VERB .. RIGHTS CLASSES`,
-- `trust TASKS replies CLASSES` and `trust TASKS VERB, VERB .. none`
abbrev pub trust_line : List (List ℕ) → Option WideSays
trust_line words =
    trust_says (tasks_of (tasks_in_front words)) (tasks_behind words)

-- ---- a line

-- the words after `replies` in `replies fit`
abbrev pub fit_line : List (List ℕ) → Option WideSays
fit_line words = if is_alone (codes "fit") words then Some RepliesFit else None

-- what words say about what tasks hold at first, what slots admit and what trusted tasks may do, by
-- the first of them
unfoldable pub limits_say : List ℕ → List (List ℕ) → Option WideSays
limits_say key words =
    if bytes_eq key (codes "hold") then hold_line words
    else (if bytes_eq key (codes "admit") then admit_line words
    else (if bytes_eq key (codes "trust") then trust_line words
    else (if bytes_eq key (codes "replies") then fit_line words else None)))

-- what the words of a line say, by the first of them
unfoldable pub wide_says : List (List ℕ) → Option WideSays
wide_says (key ∷ words) =
    if bytes_eq key (codes "task") then task_line words
    else (if bytes_eq key (codes "group") then group_line words
    else (if bytes_eq key (codes "set") then set_line words
    else (if bytes_eq key (codes "port") then port_line words
    else (if bytes_eq key (codes "births") then births_line words
    else limits_say key words))))
wide_says [] = None

-- the same as what words say in each edition of older texts, by which lines are read one by one
abbrev pub meaning : Edition → List (List ℕ) → Option WideSays
meaning edition words = wide_says words
