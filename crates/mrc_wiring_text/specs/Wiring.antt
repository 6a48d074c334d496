-- Believe. What a wiring's line says. What the lines of a wiring say: the tasks of a system and its
-- wired ports, what a class accepts, what the tasks hold at first, which classes a slot admits, and
-- what trusted tasks may do. The grammar is this profile's own choice.
use Rattle.std.specs.Prelude.{ℕ, ◌&&◌, bytes_eq, codes, List, [], ◌∷◌, Option, Some, None, Result}
use Rattle.std.specs.Prelude.{if◌then◌else◌}
use Rattle.std.specs.List.{before_first, after_first}
use Rattle.std.specs.Option.{option_map}
use Rattle.mrc_base.specs.declared.PortRight.{PortRight}
use Rattle.mrc_base.specs.declared.PortRight.TheVariants as rights
use Rattle.mrc_wiring_text.specs.declared.faults.TextFault.{TextFault}
use Rattle.mrc_wiring_text.specs.declared.items.Item.{Item}
use Rattle.mrc_wiring_text.specs.declared.policy.ClassName.{ClassName}
use Rattle.mrc_wiring_text.specs.declared.reading.Edition.{Edition}
use Rattle.mrc_wiring_text.specs.declared.reading.Edition.TheVariants as editions
use Rattle.mrc_wiring_text.specs.declared.reading.Line.{Line}
use Rattle.mrc_wiring_text.specs.declared.reading.TextKind.TheVariants as kinds
use Rattle.mrc_wiring_text.specs.declared.wiring.HeldRight.{HeldRight}
use Rattle.mrc_wiring_text.specs.declared.wiring.HeldRight.TheVariants.{Send, SendOnce}
use Rattle.mrc_wiring_text.specs.declared.wiring.WiringSays.{WiringSays}
use Rattle.mrc_wiring_text.specs.declared.wiring.WiringSays.TheVariants.{Task, Port, Births}
use Rattle.mrc_wiring_text.specs.declared.wiring.WiringSays.TheVariants.{HoldPort, HoldTask, Admit}
use Rattle.mrc_wiring_text.specs.declared.wiring.WiringSays.TheVariants.{Trust, RepliesFit}
use Rattle.mrc_wiring_text.specs.declared.trust.TrustVerb.{TrustVerb}
use Rattle.mrc_wiring_text.specs.declared.trust.TrustVerb.TheVariants.{Takes, Gives, Sends, Replies}
use Rattle.mrc_wiring_text.specs.declared.trust.TrustedRight.{TrustedRight}
use Rattle.mrc_wiring_text.specs.Lexis.{is_dot}
use Rattle.mrc_wiring_text.specs.Names.{name_of}
use Rattle.mrc_wiring_text.specs.Kinds.{kind_of}
use Rattle.mrc_wiring_text.specs.Items.{items_of}
use Rattle.mrc_wiring_text.specs.Policy.{class_of, right_of}
use Rattle.mrc_wiring_text.specs.Reading.{text_edition, text_of}

-- the words after `task` in `task T`
unfoldable pub task_line : List (List ℕ) → Option WiringSays
task_line (task ∷ []) = option_map Task (name_of task)
task_line words = None

-- a port, if both names and what it accepts are there
abbrev pub port_named : Option (List ℕ) → Option (List ℕ) → Option (List Item) → Option WiringSays
port_named (Some port) (Some receiver) (Some accepts) = Some (Port port receiver accepts)
port_named _ _ _ = None

-- the words after `port` in `port P receiver T accepts ITEMS`
unfoldable pub port_line : List (List ℕ) → Option WiringSays
port_line (port ∷ receiver ∷ task ∷ accepts ∷ items) =
    if bytes_eq receiver (codes "receiver") && bytes_eq accepts (codes "accepts")
    then port_named (name_of port) (name_of task) (items_of items)
    else None
port_line words = None

-- the births of a task by their kind, if its name, the kind and what they accept are there
abbrev pub births_named : Option (List ℕ) → Option ℕ → Option (List Item) → Option WiringSays
births_named (Some task) (Some kind) (Some accepts) = Some (Births task kind accepts)
births_named _ _ _ = None

-- the words after `births` in `births T accepts ITEMS`, which are births of kind 0
unfoldable pub plain_births : List (List ℕ) → Option WiringSays
plain_births (task ∷ accepts ∷ items) =
    if bytes_eq accepts (codes "accepts")
    then births_named (name_of task) (Some 0) (items_of items)
    else None
plain_births words = None

-- the words after `births` in `births T K accepts ITEMS`
unfoldable pub kind_births : List (List ℕ) → Option WiringSays
kind_births (task ∷ kind ∷ accepts ∷ items) =
    if bytes_eq accepts (codes "accepts")
    then births_named (name_of task) (kind_of kind) (items_of items)
    else None
kind_births words = None

-- the words after `births`: kinds have words from version 2 on, and there always
abbrev pub births_line : Edition → List (List ℕ) → Option WiringSays
births_line editions.First words = plain_births words
births_line editions.Second words = kind_births words
births_line editions.Third words = kind_births words

-- the right on a port that a word names
unfoldable pub held_right : List ℕ → Option HeldRight
held_right word =
    if bytes_eq word (codes "send") then Some Send
    else (if bytes_eq word (codes "once") then Some SendOnce else None)

-- a task holds a right on a port, if both names and the right are there
abbrev pub hold_port_named : Option (List ℕ) → Option HeldRight → Option (List ℕ)
    → Option WiringSays
hold_port_named (Some holder) (Some right) (Some port) = Some (HoldPort holder right port)
hold_port_named _ _ _ = None

-- a task holds a send right to the kernel port of another, if both names are there
abbrev pub hold_task_named : Option (List ℕ) → Option (List ℕ) → Option WiringSays
hold_task_named (Some holder) (Some task) = Some (HoldTask holder task)
hold_task_named _ _ = None

-- what a task holds: `T send port P`, `T once port P` or `T send task U`
unfoldable pub held : List ℕ → List ℕ → List ℕ → List ℕ → Option WiringSays
held holder right kind name =
    if bytes_eq kind (codes "port")
    then hold_port_named (name_of holder) (held_right right) (name_of name)
    else (if bytes_eq kind (codes "task") && bytes_eq right (codes "send")
    then hold_task_named (name_of holder) (name_of name)
    else None)

-- the words after `hold`: four
unfoldable pub hold_line : List (List ℕ) → Option WiringSays
hold_line (holder ∷ right ∷ kind ∷ name ∷ []) = held holder right kind name
hold_line words = None

-- what words say that a slot admits: no class of this line, by `none`, or the class that they name
unfoldable pub admitted : Edition → List (List ℕ) → Option (Option ClassName)
admitted edition (word ∷ []) = if bytes_eq word (codes "none") then Some None else None
admitted edition words = option_map Some (class_of edition words)

-- what a type's slots admit, if both names of the type and what is admitted are there
abbrev pub admit_named : Option (List ℕ) → Option (List ℕ) → Option (Option ClassName)
    → Option WiringSays
admit_named (Some subsystem) (Some type) (Some class) = Some (Admit subsystem type class)
admit_named _ _ _ = None

-- the words after `admit` in `admit S.type CLASS` and `admit S.type none`: one word that has a name
-- before its first dot and a name after it, and the class
unfoldable pub admit_line : Edition → List (List ℕ) → Option WiringSays
admit_line edition (slot ∷ class) =
    admit_named (name_of (before_first is_dot slot)) (name_of (after_first is_dot slot))
    (admitted edition class)
admit_line edition [] = None

-- the verb that a word names
unfoldable pub verb_of : List ℕ → Option TrustVerb
verb_of word =
    if bytes_eq word (codes "takes") then Some Takes
    else (if bytes_eq word (codes "gives") then Some Gives
    else (if bytes_eq word (codes "sends") then Some Sends
    else (if bytes_eq word (codes "replies") then Some Replies else None)))

-- the right on a class that a line names, if both are there
abbrev pub right_on : Option PortRight → Option ClassName → Option (Option TrustedRight)
right_on (Some right) (Some class) = Some (Some (record { right = right; class = class }))
right_on _ _ = None

-- what words name of the rights: none, by `none`, or the right on the class
unfoldable pub trusted_right : Edition → List (List ℕ) → Option (Option TrustedRight)
trusted_right edition (word ∷ []) = if bytes_eq word (codes "none") then Some None else None
trusted_right edition (right ∷ class) = right_on (right_of right) (class_of edition class)
trusted_right edition [] = None

-- the send-once right on a class, or none
abbrev pub once_on : Option ClassName → Option TrustedRight
once_on None = None
once_on (Some class) = Some (record { right = rights.SendOnce; class = class })

-- the same after a verb: `replies` names a class alone, or `none`
abbrev pub trusted : Edition → TrustVerb → List (List ℕ) → Option (Option TrustedRight)
trusted edition Takes words = trusted_right edition words
trusted edition Gives words = trusted_right edition words
trusted edition Sends words = trusted_right edition words
trusted edition Replies words = option_map once_on (admitted edition words)

-- what a trusted task may do by a verb, if its name and the right are there
abbrev pub trust_named : Option (List ℕ) → TrustVerb → Option (Option TrustedRight)
    → Option WiringSays
trust_named (Some task) verb (Some right) = Some (Trust task verb right)
trust_named _ verb _ = None

-- the same, if the verb is there
abbrev pub trust_by : Edition → List ℕ → Option TrustVerb → List (List ℕ) → Option WiringSays
trust_by edition task (Some verb) words =
    trust_named (name_of task) verb (trusted edition verb words)
trust_by edition task None words = None

-- the words after `trust` in `trust T VERB RIGHT CLASS`, `trust T replies CLASS` and
-- `trust T VERB none`
unfoldable pub trust_line : Edition → List (List ℕ) → Option WiringSays
trust_line edition (task ∷ verb ∷ words) = trust_by edition task (verb_of verb) words
trust_line edition words = None

-- the words after `replies` in `replies fit`
unfoldable pub fit_line : List (List ℕ) → Option WiringSays
fit_line (word ∷ []) = if bytes_eq word (codes "fit") then Some RepliesFit else None
fit_line words = None

-- what words of version 3 alone say, by the first of them
abbrev pub third_says : Edition → List ℕ → List (List ℕ) → Option WiringSays
third_says editions.First key words = None
third_says editions.Second key words = None
third_says editions.Third key words =
    if bytes_eq key (codes "trust") then trust_line editions.Third words
    else (if bytes_eq key (codes "replies") then fit_line words else None)

-- what the words of a line say, by the first of them
unfoldable pub wiring_says : Edition → List (List ℕ) → Option WiringSays
wiring_says edition (key ∷ words) =
    if bytes_eq key (codes "task") then task_line words
    else (if bytes_eq key (codes "port") then port_line words
    else (if bytes_eq key (codes "births") then births_line edition words
    else (if bytes_eq key (codes "hold") then hold_line words
    else (if bytes_eq key (codes "admit") then admit_line edition words
    else third_says edition key words))))
wiring_says edition [] = None

-- the edition of a wiring
abbrev pub wiring_edition : List ℕ → Result Edition TextFault
wiring_edition bytes = text_edition kinds.Wiring bytes

-- what a wiring says
abbrev pub wiring_of : List ℕ → Result (List (Line WiringSays)) TextFault
wiring_of bytes = text_of kinds.Wiring wiring_says bytes
