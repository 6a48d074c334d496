-- Believe. What a policy's line says. The grammar is this profile's own choice.
use Rattle.std.specs.Prelude.{ℕ, bytes_eq, codes, List, [], ◌∷◌, Option, Some, None, Result}
use Rattle.std.specs.Prelude.{if◌then◌else◌}
use Rattle.mrc_base.specs.declared.PortRight.{PortRight}
use Rattle.mrc_base.specs.declared.PortRight.TheVariants.{Send, Receive, SendOnce}
use Rattle.mrc_wiring_text.specs.declared.faults.TextFault.{TextFault}
use Rattle.mrc_wiring_text.specs.declared.reading.Edition.{Edition}
use Rattle.mrc_wiring_text.specs.declared.reading.Edition.TheVariants as editions
use Rattle.mrc_wiring_text.specs.declared.reading.Line.{Line}
use Rattle.mrc_wiring_text.specs.declared.reading.TextKind.TheVariants as kinds
use Rattle.mrc_wiring_text.specs.declared.policy.ClassName.{ClassName}
use Rattle.mrc_wiring_text.specs.declared.policy.ClassName.TheVariants.{Port, Task, Births}
use Rattle.mrc_wiring_text.specs.declared.policy.Forbid.{Forbid}
use Rattle.mrc_wiring_text.specs.Names.{name_of}
use Rattle.mrc_wiring_text.specs.Kinds.{kind_of}
use Rattle.mrc_wiring_text.specs.Reading.{text_of}

-- the right that a word names
unfoldable pub right_of : List ℕ → Option PortRight
right_of word =
    if bytes_eq word (codes "send") then Some Send
    else (if bytes_eq word (codes "receive") then Some Receive
    else (if bytes_eq word (codes "once") then Some SendOnce else None))

-- the class of a kind, if there is a name
abbrev pub named : (List ℕ → ClassName) → Option (List ℕ) → Option ClassName
named kind (Some name) = Some (kind name)
named kind None = None

-- the births of a task by their kind, if both are there
abbrev pub births_of : Option (List ℕ) → Option ℕ → Option ClassName
births_of (Some task) (Some kind) = Some (Births task kind)
births_of _ _ = None

-- the class that two words name: `port P`, `task U` or `births U`, which are those of kind 0
unfoldable pub plain_class : List ℕ → List ℕ → Option ClassName
plain_class key name =
    if bytes_eq key (codes "port") then named Port (name_of name)
    else (if bytes_eq key (codes "task") then named Task (name_of name)
    else (if bytes_eq key (codes "births") then births_of (name_of name) (Some 0) else None))

-- the class that three words name: `births U K`
unfoldable pub births_with_kind : List ℕ → List ℕ → List ℕ → Option ClassName
births_with_kind key name kind =
    if bytes_eq key (codes "births") then births_of (name_of name) (kind_of kind) else None

-- the class that words name: kinds have words from version 2 on
unfoldable pub class_of : Edition → List (List ℕ) → Option ClassName
class_of edition (key ∷ name ∷ []) = plain_class key name
class_of editions.Second (key ∷ name ∷ kind ∷ []) = births_with_kind key name kind
class_of editions.Third (key ∷ name ∷ kind ∷ []) = births_with_kind key name kind
class_of edition words = None

-- `forbid T RIGHT CLASS`
abbrev pub forbid_line : Option (List ℕ) → Option PortRight → Option ClassName → Option Forbid
forbid_line (Some task) (Some right) (Some class) =
    Some (record { task = task; right = right; class = class })
forbid_line _ _ _ = None

-- what the words of a line say
unfoldable pub policy_says : Edition → List (List ℕ) → Option Forbid
policy_says edition (key ∷ task ∷ right ∷ class) =
    if bytes_eq key (codes "forbid") then forbid_line (name_of task) (right_of right)
    (class_of edition class) else None
policy_says edition words = None

-- what a policy says
abbrev pub policy_of : List ℕ → Result (List (Line Forbid)) TextFault
policy_of bytes = text_of kinds.Policy policy_says bytes
