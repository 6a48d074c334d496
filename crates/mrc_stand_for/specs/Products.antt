-- Believe. The lines of version 3 that the parts of a line stand for together: their product, in
-- which what is more to the right varies first. This profile's own choice.
use Rattle.std.specs.Prelude.{ℕ, ◌+◌, List, [], ◌∷◌, map, Some, None}
use Rattle.std.specs.List.{flat_map}
use Rattle.mrc_base.specs.declared.PortRight.{PortRight}
use Rattle.mrc_wiring_text.specs.declared.items.Item.{Item}
use Rattle.mrc_wiring_text.specs.declared.items.Item.TheVariants as item
use Rattle.mrc_wiring_text.specs.declared.policy.ClassName.{ClassName}
use Rattle.mrc_wiring_text.specs.declared.wiring.HeldRight.TheVariants as held
use Rattle.mrc_wiring_text.specs.declared.wiring.WiringSays.{WiringSays}
use Rattle.mrc_wiring_text.specs.declared.wiring.WiringSays.TheVariants as core
use Rattle.mrc_wiring_text.specs.declared.trust.TrustVerb.{TrustVerb}
use Rattle.mrc_wiring_text.specs.declared.trust.TrustVerb.TheVariants as verb
use Rattle.mrc_stand_for.specs.declared.wide.PlaceName.{PlaceName}
use Rattle.mrc_stand_for.specs.declared.wide.PlaceName.TheVariants as place
use Rattle.mrc_stand_for.specs.declared.wide.RightVerb.{RightVerb}
use Rattle.mrc_stand_for.specs.declared.wide.RightVerb.TheVariants as right
use Rattle.mrc_stand_for.specs.declared.wide.SlotName.{SlotName}

-- births of a kind, of each of the tasks
abbrev pub births_lines : List (List ℕ) → ℕ → List Item → List WiringSays
births_lines tasks kind accepts = map (λ task. core.Births task kind accepts) tasks

-- replies of each of the subsystems, by kinds that count up
abbrev pub reply_lines : List ℕ → ℕ → List (List ℕ) → List WiringSays
reply_lines task kind [] = []
reply_lines task kind (subsystem ∷ rest) =
    core.Births task kind (item.Reply subsystem ∷ []) ∷ reply_lines task (kind + 1) rest

-- the same for each of the tasks
abbrev pub replies_lines : List (List ℕ) → ℕ → List (List ℕ) → List WiringSays
replies_lines tasks kind subsystems = flat_map (λ task. reply_lines task kind subsystems) tasks

-- a send right of a task
abbrev pub send_line : List ℕ → PlaceName → WiringSays
send_line holder (place.Port port) = core.HoldPort holder held.Send port
send_line holder (place.Task task) = core.HoldTask holder task

-- a send-once right of a task
abbrev pub once_line : List ℕ → List ℕ → WiringSays
once_line holder port = core.HoldPort holder held.SendOnce port

-- send-once rights of each of the tasks, on each of the ports
abbrev pub once_lines : List (List ℕ) → List (List ℕ) → List WiringSays
once_lines tasks ports = flat_map (λ holder. map (once_line holder) ports) tasks

-- a slot admits a class
abbrev pub admit_line : SlotName → ClassName → WiringSays
admit_line slot class = core.Admit slot.subsystem slot.type_name (Some class)

-- each of the slots admits each of the classes
abbrev pub admit_lines : List SlotName → List ClassName → List WiringSays
admit_lines slots classes = flat_map (λ slot. map (admit_line slot) classes) slots

-- a slot admits no class of this line
abbrev pub admit_none : SlotName → WiringSays
admit_none slot = core.Admit slot.subsystem slot.type_name None

-- the verb of a line of version 3
abbrev pub verb_of : RightVerb → TrustVerb
verb_of right.Takes = verb.Takes
verb_of right.Gives = verb.Gives
verb_of right.Sends = verb.Sends

-- a task may do this by a verb with a right on a class
abbrev pub trust_line : List ℕ → TrustVerb → PortRight → ClassName → WiringSays
trust_line task verb right class =
    core.Trust task verb (Some (record { right = right; class = class }))

-- by a verb with each of the rights on each of the classes
abbrev pub verb_lines : List ℕ → List PortRight → List ClassName → TrustVerb → List WiringSays
verb_lines task rights classes verb =
    flat_map (λ right. map (trust_line task verb right) classes) rights

-- by each of the verbs
abbrev pub trust_lines : List ℕ → List TrustVerb → List PortRight → List ClassName
    → List WiringSays
trust_lines task verbs rights classes = flat_map (verb_lines task rights classes) verbs

-- a task may do nothing of this line by a verb
abbrev pub trust_none : List ℕ → TrustVerb → WiringSays
trust_none task verb = core.Trust task verb None

-- the same of each of the tasks by each of the verbs
abbrev pub none_lines : List (List ℕ) → List TrustVerb → List WiringSays
none_lines tasks verbs = flat_map (λ task. map (trust_none task) verbs) tasks
