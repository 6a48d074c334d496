-- Believe. Only `started` and `IsGuarded`: the machine of what was accepted. This profile's own
-- choice.
use Rattle.std.specs.Prelude.{ℕ, ◌<◌, IsSome}
use Rattle.mrc_check.specs.Verdict.{Case}
use Rattle.mrc_facts.specs.Sets.{has}
use Rattle.mrc_model.specs.Breach.{Breach}
use Rattle.mrc_model.specs.Covers.{Covers, IsWellFormed}
use Rattle.mrc_model.specs.First.{first}
use Rattle.mrc_model.specs.Map.{get}
use Rattle.mrc_model.specs.Rules.{Has}
use Rattle.mrc_model.specs.Wiring.{Wiring, numbers_of}
use Rattle.mrc_model.specs.World.{World}
use Rattle.mrc_wiring.specs.Claims.{policy_of}
use Rattle.mrc_wiring.specs.Table.{wiring_of}

-- a case that was accepted, and the world that the machine has come to
pub record Guard : Type 0 where
  pub confined : Case
  pub world : World

-- the wiring of a case
abbrev pub wiring_in : Case → Wiring
wiring_in case = wiring_of case.claim.table

-- the machine of an accepted case before any call
abbrev pub started : Case → Guard
started case = record { confined = case; world = first (wiring_in case) }

-- The world is well formed, the draft's facts cover it, it has no breach of the claim's policy, and
-- it has all tasks of the wiring, alive or ended.
pub record IsGuarded (case : Case) (w : World) : Type 0 where
  pub well_formed : IsWellFormed (numbers_of (wiring_in case)) w
  pub covered : Covers (Has (has case.draft.facts)) w
  pub safe : Breach (wiring_in case) w (policy_of case.claim) → ⊥
  pub wired : (t : ℕ) → t < (wiring_in case).tasks → IsSome (get w.tasks t)
