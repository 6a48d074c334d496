-- Believe. Which demands of a policy a set of facts gives cause to tell, and whether it meets them.
-- This profile's own choice.
use Rattle.std.specs.Prelude.{◌≡◌, ℕ, ◌==◌, ◌&&◌, Bool, true, false, not, List, filter}
use Rattle.std.specs.List.{list_any}
use Rattle.mrc_base.specs.declared.Fact.{Fact}
use Rattle.mrc_model.specs.Rules.{IsLeast}
use Rattle.mrc_stand_for.specs.Once.{same_right}
use Rattle.mrc_wide_policy.specs.declared.asked.Stance.{Stance}
use Rattle.mrc_wide_policy.specs.declared.asked.Stance.TheVariants.{Forbidden, Waived, Expected}
use Rattle.mrc_wiring.specs.declared.claim.ForbiddenLine.{ForbiddenLine}
use Rattle.mrc_wiring.specs.Table.{wiring_of}
use Rattle.mrc_check.specs.declared.demands.Demand.{Demand}
use Rattle.mrc_check.specs.Texts.{Stated}
use Rattle.mrc_why.specs.Broken.{forbidden_fact}

-- what is forbidden or waived is told if it is there, and what is expected if it is not
abbrev pub is_told_by : Stance → Bool → Bool
is_told_by Forbidden there = there
is_told_by (Waived n) there = there
is_told_by Expected there = not there

abbrev pub is_told : (Fact → Bool) → Demand → Bool
is_told set demand = is_told_by demand.stance (set (forbidden_fact demand.holding))

-- the demands that are told, in their order
abbrev pub told : (Fact → Bool) → List Demand → List Demand
told set demands = filter (is_told set) demands

-- those that are told of the least set of a system
abbrev pub AreTold : Stated → List Demand → Type 0
AreTold stated demands = (set : Fact → Bool) → IsLeast (wiring_of stated.claim.table) set
    → demands ≡ told set stated.demands

-- the holding is expected
abbrev pub expects : Stance → Bool
expects Forbidden = false
expects (Waived n) = false
expects Expected = true

abbrev pub is_expected : Demand → Bool
is_expected demand = expects demand.stance

-- none that is told is expected
abbrev pub are_met : List Demand → Bool
are_met told = not (list_any is_expected told)

-- whether what is expected is in the least set of a system
abbrev pub IsMet : Stated → Bool → Type 0
IsMet stated answer = (set : Fact → Bool) → IsLeast (wiring_of stated.claim.table) set
    → are_met (told set stated.demands) ≡ answer

-- the holding is waived
abbrev pub waives : Stance → Bool
waives Forbidden = false
waives (Waived n) = true
waives Expected = false

abbrev pub is_waived : Demand → Bool
is_waived demand = waives demand.stance

-- two lines that forbid are one
abbrev pub same_line : ForbiddenLine → ForbiddenLine → Bool
same_line a b =
    a.line == b.line && (a.task == b.task && (a.class == b.class && same_right a.right b.right))

-- the demand waives what the line forbids
abbrev pub waives_line : ForbiddenLine → Demand → Bool
waives_line line demand = is_waived demand && same_line demand.holding line

-- one of them does
abbrev pub is_waived_line : List Demand → ForbiddenLine → Bool
is_waived_line demands line = list_any (waives_line line) demands

-- the demand is of the line of this number
abbrev pub is_of_line : ℕ → Demand → Bool
is_of_line n demand = demand.holding.line == n

-- one of them is of that line
abbrev pub has_line : List Demand → ℕ → Bool
has_line demands n = list_any (is_of_line n) demands
