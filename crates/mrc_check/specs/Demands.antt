-- Believe. What a policy demands of the holdings that it names, and what it forbids. This profile's
-- own choice.
use Rattle.std.specs.Prelude.{Bool, true, false, not, List, [], ◌∷◌, map, filter, Result, Ok}
use Rattle.mrc_base.specs.Reading.{◌>>=◌}
use Rattle.mrc_wide_policy.specs.declared.asked.Asked.{Asked}
use Rattle.mrc_wide_policy.specs.declared.asked.Stance.{Stance}
use Rattle.mrc_wide_policy.specs.declared.asked.Stance.TheVariants.{Forbidden, Waived, Expected}
use Rattle.mrc_wiring.specs.declared.claim.ForbiddenLine.{ForbiddenLine}
use Rattle.mrc_wiring.specs.declared.faults.ClaimFault.{ClaimFault}
use Rattle.mrc_wiring.specs.Claims.{forbidden}
use Rattle.mrc_wiring.specs.Table.{Table}
use Rattle.mrc_check.specs.declared.demands.Demand.{Demand}

-- what is demanded of a holding that is asked for by its names
abbrev pub demand_of : Table → Asked → Result Demand ClaimFault
demand_of table asked =
    forbidden table asked.line.number asked.line.says
    >>= λ holding. Ok (record { holding = holding; stance = asked.stance })

-- the same of each, in order
abbrev pub demands_of : Table → List Asked → Result (List Demand) ClaimFault
demands_of table [] = Ok []
demands_of table (asked ∷ others) = do
  first ← demand_of table asked
  rest ← demands_of table others
  Ok (first ∷ rest)

-- a holding is forbidden; one that is waived is so unless it is let pass
abbrev pub is_forbidden_by : Bool → Stance → Bool
is_forbidden_by waives Forbidden = true
is_forbidden_by waives (Waived n) = not waives
is_forbidden_by waives Expected = false

abbrev pub is_forbidden : Bool → Demand → Bool
is_forbidden waives demand = is_forbidden_by waives demand.stance

-- the holding of a demand
abbrev pub holding_in : Demand → ForbiddenLine
holding_in demand = demand.holding

-- the holdings that are forbidden, in order
abbrev pub forbidden_in : Bool → List Demand → List ForbiddenLine
forbidden_in waives demands = map holding_in (filter (is_forbidden waives) demands)
