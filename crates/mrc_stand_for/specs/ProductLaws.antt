-- Law. A line stands for the product of its lists: a line of version 3 is among those of a wide
-- line exactly if each of its parts is in the list of that part.
use Rattle.std.specs.Prelude.{◌≡◌, ◌+◌, ◌↔◌, ℕ, List, [], ◌∷◌, Contains, Some, slice_get}
use Rattle.mrc_base.specs.declared.PortRight.{PortRight}
use Rattle.mrc_wiring_text.specs.declared.items.Item.{Item}
use Rattle.mrc_wiring_text.specs.declared.items.Item.TheVariants as item
use Rattle.mrc_wiring_text.specs.declared.policy.ClassName.{ClassName}
use Rattle.mrc_wiring_text.specs.declared.trust.TrustVerb.{TrustVerb}
use Rattle.mrc_wiring_text.specs.declared.wiring.WiringSays.{WiringSays}
use Rattle.mrc_wiring_text.specs.declared.wiring.WiringSays.TheVariants as core
use Rattle.mrc_stand_for.specs.declared.wide.SlotName.{SlotName}
use Rattle.mrc_stand_for.specs.Products.{births_lines, reply_lines, replies_lines, once_line}
use Rattle.mrc_stand_for.specs.Products.{once_lines, admit_line, admit_lines, trust_line}
use Rattle.mrc_stand_for.specs.Products.{trust_lines, trust_none, none_lines}

-- births: a line for each of the tasks
abbrev pub BirthsAreOfEachTask : Type 0
BirthsAreOfEachTask =
    (tasks : List (List ℕ)) (kind : ℕ) (accepts : List Item) (says : WiringSays)
    → Contains (births_lines tasks kind accepts) says
    ↔ ((task : List ℕ) × Contains tasks task × (says ≡ core.Births task kind accepts))

-- replies: a line for each of the tasks and each of the subsystems
abbrev pub RepliesAreOfEachTask : Type 0
RepliesAreOfEachTask =
    (tasks : List (List ℕ)) (kind : ℕ) (subsystems : List (List ℕ)) (says : WiringSays)
    → Contains (replies_lines tasks kind subsystems) says
    ↔ ((task : List ℕ) × Contains tasks task × Contains (reply_lines task kind subsystems) says)

-- replies of the subsystem at place i: those of the kind that is i more
abbrev pub KindsCountUp : Type 0
KindsCountUp =
    (task : List ℕ) (kind : ℕ) (subsystems : List (List ℕ)) (i : ℕ) (subsystem : List ℕ)
    → slice_get subsystems i ≡ Some subsystem
    → slice_get (reply_lines task kind subsystems) i
    ≡ Some (core.Births task (kind + i) (item.Reply subsystem ∷ []))

-- send-once rights: a line for each of the tasks and each of the ports
abbrev pub OncesAreProducts : Type 0
OncesAreProducts =
    (tasks ports : List (List ℕ)) (says : WiringSays)
    → Contains (once_lines tasks ports) says
    ↔ ((task : List ℕ) × (port : List ℕ) × Contains tasks task × Contains ports port
    × (says ≡ once_line task port))

-- what slots admit: a line for each of the slots and each of the classes
abbrev pub AdmitsAreProducts : Type 0
AdmitsAreProducts =
    (slots : List SlotName) (classes : List ClassName) (says : WiringSays)
    → Contains (admit_lines slots classes) says
    ↔ ((slot : SlotName) × (class : ClassName) × Contains slots slot × Contains classes class
    × (says ≡ admit_line slot class))

-- what a trusted task may do: a line for each of the verbs, the rights and the classes
abbrev pub TrustsAreProducts : Type 0
TrustsAreProducts =
    (task : List ℕ) (verbs : List TrustVerb) (rights : List PortRight) (classes : List ClassName)
    (says : WiringSays)
    → Contains (trust_lines task verbs rights classes) says
    ↔ ((verb : TrustVerb) × (right : PortRight) × (class : ClassName) × Contains verbs verb
    × Contains rights right × Contains classes class × (says ≡ trust_line task verb right class))

-- what trusted tasks may not do at all: a line for each of the tasks and each of the verbs
abbrev pub NonesAreProducts : Type 0
NonesAreProducts =
    (tasks : List (List ℕ)) (verbs : List TrustVerb) (says : WiringSays)
    → Contains (none_lines tasks verbs) says
    ↔ ((task : List ℕ) × (verb : TrustVerb) × Contains tasks task × Contains verbs verb
    × (says ≡ trust_none task verb))
