-- Believe. Lists in which nothing is twice. This profile's own choice.
use Rattle.std.specs.Prelude.{ℕ, Bool, true, false, ◌&&◌, nat_eq, bytes_eq, List, [], ◌∷◌, ◌++◌}
use Rattle.std.specs.Prelude.{fold, if◌then◌else◌}
use Rattle.std.specs.List.{list_any}
use Rattle.mrc_base.specs.declared.PortRight.{PortRight}
use Rattle.mrc_base.specs.declared.PortRight.TheVariants.{Send, Receive, SendOnce}
use Rattle.mrc_wiring_text.specs.declared.policy.ClassName.{ClassName}
use Rattle.mrc_wiring_text.specs.declared.policy.ClassName.TheVariants.{Port, Task, Births}
use Rattle.mrc_wiring_text.specs.declared.trust.TrustVerb.{TrustVerb}
use Rattle.mrc_wiring_text.specs.declared.trust.TrustVerb.TheVariants.{Takes, Gives, Sends, Replies}
use Rattle.mrc_stand_for.specs.declared.wide.PlaceName.{PlaceName}
use Rattle.mrc_stand_for.specs.declared.wide.PlaceName.TheVariants as place
use Rattle.mrc_stand_for.specs.declared.wide.SlotName.{SlotName}

-- one more at the end, if it is not there yet
abbrev pub with_once : {X : Type 0} → (X → X → Bool) → List X → X → List X
with_once same xs x = if list_any (same x) xs then xs else xs ++ x ∷ []

-- more at the end, of what is twice the first
abbrev pub with_each : {X : Type 0} → (X → X → Bool) → List X → List X → List X
with_each same xs more = fold (with_once same) xs more

-- the name is among these
abbrev pub is_among : List ℕ → List (List ℕ) → Bool
is_among name names = list_any (bytes_eq name) names

-- two classes are one
abbrev pub same_class : ClassName → ClassName → Bool
same_class (Port p) (Port q) = bytes_eq p q
same_class (Task t) (Task u) = bytes_eq t u
same_class (Births t k) (Births u j) = bytes_eq t u && nat_eq k j
same_class _ _ = false

-- two places are one
abbrev pub same_place : PlaceName → PlaceName → Bool
same_place (place.Port p) (place.Port q) = bytes_eq p q
same_place (place.Task t) (place.Task u) = bytes_eq t u
same_place _ _ = false

-- two slots are one
abbrev pub same_slot : SlotName → SlotName → Bool
same_slot a b = bytes_eq a.subsystem b.subsystem && bytes_eq a.type_name b.type_name

-- two verbs are one
abbrev pub same_verb : TrustVerb → TrustVerb → Bool
same_verb Takes Takes = true
same_verb Gives Gives = true
same_verb Sends Sends = true
same_verb Replies Replies = true
same_verb _ _ = false

-- two rights are one
abbrev pub same_right : PortRight → PortRight → Bool
same_right Send Send = true
same_right Receive Receive = true
same_right SendOnce SendOnce = true
same_right _ _ = false
