-- Believe. The words of the lists of a line of version 4: what stands between commas, each part for
-- itself, and the words of tasks, classes, places and slots. This profile's own choice.
use Rattle.std.specs.Prelude.{ℕ, ◌+◌, Bool, true, false, ◌&&◌, ◌||◌, bytes_eq, codes, List, []}
use Rattle.std.specs.Prelude.{◌∷◌, take, drop, Option, Some, None, if◌then◌else◌}
use Rattle.std.specs.List.{before_first, after_first, slice_split}
use Rattle.std.specs.Option.{option_map}
use Rattle.mrc_base.specs.declared.PortRight.{PortRight}
use Rattle.mrc_base.specs.declared.PortRight.TheVariants as right
use Rattle.mrc_wiring_text.specs.Lexis.{is_comma, is_dot}
use Rattle.mrc_wiring_text.specs.Names.{name_of}
use Rattle.mrc_wiring_text.specs.Kinds.{kind_of}
use Rattle.mrc_wiring_text.specs.Items.{all_of}
use Rattle.mrc_wiring_text.specs.Policy.{right_of}
use Rattle.mrc_stand_for.specs.declared.wide.Kinds.{Kinds}
use Rattle.mrc_stand_for.specs.declared.wide.Kinds.TheVariants as kinds
use Rattle.mrc_stand_for.specs.declared.wide.Place.{Place}
use Rattle.mrc_stand_for.specs.declared.wide.Place.TheVariants as place
use Rattle.mrc_stand_for.specs.declared.wide.RightVerb.{RightVerb}
use Rattle.mrc_stand_for.specs.declared.wide.RightVerb.TheVariants as verb
use Rattle.mrc_stand_for.specs.declared.wide.SlotName.{SlotName}
use Rattle.mrc_stand_for.specs.declared.wide.Tasks.{Tasks}
use Rattle.mrc_stand_for.specs.declared.wide.Tasks.TheVariants as tasks
use Rattle.mrc_stand_for.specs.declared.wide.Whom.{Whom}
use Rattle.mrc_stand_for.specs.declared.wide.Whom.TheVariants as whom
use Rattle.mrc_stand_for.specs.declared.wide.WideClass.{WideClass}
use Rattle.mrc_stand_for.specs.declared.wide.WideClass.TheVariants as class

-- ---- words

-- words that name no task, no group and no set
unfoldable pub is_reserved : List ℕ → Bool
is_reserved word =
    bytes_eq word (codes "all") || (bytes_eq word (codes "any")
    || (bytes_eq word (codes "births") || (bytes_eq word (codes "but")
    || (bytes_eq word (codes "none") || (bytes_eq word (codes "other")
    || (bytes_eq word (codes "port") || bytes_eq word (codes "task")))))))

-- the name of a task, a group or a set
unfoldable pub free_name : List ℕ → Option (List ℕ)
free_name word = if is_reserved word then None else name_of word

-- what a word says that is alone
abbrev pub one : {X : Type 0} → (List ℕ → Option X) → List (List ℕ) → Option X
one says (word ∷ []) = says word
one says words = None

-- the words are this one alone
abbrev pub is_alone : List ℕ → List (List ℕ) → Bool
is_alone wanted (word ∷ []) = bytes_eq word wanted
is_alone wanted words = false

-- ---- lists

-- what stands between commas, where each part says something
unfoldable pub separated : {X : Type 0} → (List (List ℕ) → Option X) → List (List ℕ)
    → Option (List X)
separated says words = all_of says (slice_split is_comma words)

-- the first of the words is a comma
abbrev pub begins_with_comma : List (List ℕ) → Bool
begins_with_comma [] = false
begins_with_comma (word ∷ words) = is_comma word

-- how many words the list in front has: it ends where two words stand side by side with no comma
-- between them
unfoldable pub list_len : List (List ℕ) → ℕ
list_len [] = 0
list_len (word ∷ words) =
    if is_comma word || begins_with_comma words then 1 + list_len words else 1

-- the words of the list in front
unfoldable pub in_front : List (List ℕ) → List (List ℕ)
in_front words = take (list_len words) words

-- the words behind it
unfoldable pub behind : List (List ℕ) → List (List ℕ)
behind words = drop (list_len words) words

-- `T, T ..`: names of tasks or groups
abbrev pub names_of : List (List ℕ) → Option (List (List ℕ))
names_of words = separated (one free_name) words

-- ---- TASKS

-- words begin with `all but`
abbrev pub is_all_but : List (List ℕ) → Bool
is_all_but (all ∷ but ∷ words) = bytes_eq all (codes "all") && bytes_eq but (codes "but")
is_all_but words = false

-- how many words the TASKS in front have
unfoldable pub tasks_len : List (List ℕ) → ℕ
tasks_len words = if is_all_but words then 2 + list_len (drop 2 words) else list_len words

-- the words of the TASKS in front
unfoldable pub tasks_in_front : List (List ℕ) → List (List ℕ)
tasks_in_front words = take (tasks_len words) words

-- the words behind them
unfoldable pub tasks_behind : List (List ℕ) → List (List ℕ)
tasks_behind words = drop (tasks_len words) words

-- TASKS: `all`, `all but WHO, WHO ..` or `WHO, WHO ..`
unfoldable pub tasks_of : List (List ℕ) → Option Tasks
tasks_of words =
    if is_alone (codes "all") words then Some tasks.All
    else (if is_all_but words then option_map tasks.AllBut (names_of (drop 2 words))
    else option_map tasks.Listed (names_of words))

-- ---- CLASS

-- WHOM of one word
unfoldable pub whom_word : List ℕ → Option Whom
whom_word word =
    if bytes_eq word (codes "other") then Some whom.Other
    else (if bytes_eq word (codes "all") then Some whom.All
    else option_map whom.Who (free_name word))

-- WHOM of three words: `all but WHO`
unfoldable pub all_but_who : List ℕ → List ℕ → List ℕ → Option Whom
all_but_who all but who =
    if bytes_eq all (codes "all") && bytes_eq but (codes "but")
    then option_map whom.AllBut (free_name who)
    else None

-- WHOM
unfoldable pub whom_of : List (List ℕ) → Option Whom
whom_of (word ∷ []) = whom_word word
whom_of (all ∷ but ∷ who ∷ []) = all_but_who all but who
whom_of words = None

-- which births: `any` or a kind
unfoldable pub kinds_word : List ℕ → Option Kinds
kinds_word word =
    if bytes_eq word (codes "any") then Some kinds.Any else option_map kinds.One (kind_of word)

-- births of tasks, if the tasks and the kinds are there
abbrev pub births_named : Option Whom → Option Kinds → Option WideClass
births_named (Some whom) (Some kinds) = Some (class.Births whom kinds)
births_named _ _ = None

-- the words after `births` in CLASS: WHOM, and the kind, or nothing for kind 0
unfoldable pub births_class : List (List ℕ) → Option WideClass
births_class (who ∷ []) = births_named (whom_word who) (Some (kinds.One 0))
births_class (who ∷ kind ∷ []) = births_named (whom_word who) (kinds_word kind)
births_class (all ∷ but ∷ who ∷ []) =
    births_named (all_but_who all but who) (Some (kinds.One 0))
births_class (all ∷ but ∷ who ∷ kind ∷ []) =
    births_named (all_but_who all but who) (kinds_word kind)
births_class words = None

-- CLASS of several words, by the first of them
unfoldable pub keyed_class : List ℕ → List (List ℕ) → Option WideClass
keyed_class key words =
    if bytes_eq key (codes "port") then option_map class.Port (one name_of words)
    else (if bytes_eq key (codes "task") then option_map class.Task (whom_of words)
    else (if bytes_eq key (codes "births") then births_class words else None))

-- CLASS: one word is the name of a set
unfoldable pub class_of : List (List ℕ) → Option WideClass
class_of [] = None
class_of (set ∷ []) = option_map class.Set (free_name set)
class_of (key ∷ words) = keyed_class key words

-- WHOM is `other`, which there is only for a holder
abbrev pub is_other : Whom → Bool
is_other (whom.Who name) = false
is_other whom.All = false
is_other (whom.AllBut name) = false
is_other whom.Other = true

-- the class has `other`
abbrev pub has_other : WideClass → Bool
has_other (class.Port port) = false
has_other (class.Task whom) = is_other whom
has_other (class.Births whom kinds) = is_other whom
has_other (class.Set name) = false

-- a class that is the same for each task
abbrev pub unless_other : Option WideClass → Option WideClass
unless_other (Some class) = if has_other class then None else Some class
unless_other None = None

-- CLASS in a line without a holder
abbrev pub fixed_class : List (List ℕ) → Option WideClass
fixed_class words = unless_other (class_of words)

-- ---- PLACE, port, SLOT

-- PLACE, by the first of its words
unfoldable pub keyed_place : List ℕ → List (List ℕ) → Option Place
keyed_place key words =
    if bytes_eq key (codes "port") then option_map place.Port (one name_of words)
    else (if bytes_eq key (codes "task") then option_map place.Task (whom_of words) else None)

-- PLACE
unfoldable pub place_of : List (List ℕ) → Option Place
place_of [] = None
place_of (key ∷ words) = keyed_place key words

-- `port P`
unfoldable pub port_of : List (List ℕ) → Option (List ℕ)
port_of (key ∷ port ∷ []) = if bytes_eq key (codes "port") then name_of port else None
port_of words = None

-- a slot, if both names are there
abbrev pub slot_named : Option (List ℕ) → Option (List ℕ) → Option SlotName
slot_named (Some subsystem) (Some type) =
    Some (record { subsystem = subsystem; type_name = type })
slot_named _ _ = None

-- SLOT: a name before the first dot and a name after it
unfoldable pub slot_word : List ℕ → Option SlotName
slot_word word =
    slot_named (name_of (before_first is_dot word)) (name_of (after_first is_dot word))

-- ---- RIGHTS, VERB

-- `any` right
abbrev pub all_rights : List PortRight
all_rights = right.Send ∷ right.Receive ∷ right.SendOnce ∷ []

-- RIGHTS: `any`, or rights
unfoldable pub rights_of : List (List ℕ) → Option (List PortRight)
rights_of words =
    if is_alone (codes "any") words then Some all_rights else separated (one right_of) words

-- VERB that goes with rights
unfoldable pub right_verb : List ℕ → Option RightVerb
right_verb word =
    if bytes_eq word (codes "takes") then Some verb.Takes
    else (if bytes_eq word (codes "gives") then Some verb.Gives
    else (if bytes_eq word (codes "sends") then Some verb.Sends else None))
