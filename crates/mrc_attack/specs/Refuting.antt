-- Law. What a leak means for every certificate: the line is broken by each closed set of facts.
-- This profile's own choice.
use Rattle.std.specs.Prelude.{ℕ, List, [], ◌∷◌, IsTrue}
use Rattle.mrc_base.specs.declared.Fact.TheVariants.{Hold}
use Rattle.mrc_confine.specs.Safety.{HaveNoYes, LeadsTo}
use Rattle.mrc_model.specs.Breach.{Breach, Forbid}
use Rattle.mrc_model.specs.First.{first, is_sound}
use Rattle.mrc_model.specs.IsIn.{IsIn}
use Rattle.mrc_model.specs.Rules.{Least}
use Rattle.mrc_model.specs.Runs.{Event, Run}
use Rattle.mrc_model.specs.Wiring.{Wiring}
use Rattle.mrc_model.specs.World.{World}
use Rattle.mrc_wiring.specs.Claims.{Claimed, holding_of, policy_of}
use Rattle.mrc_wiring.specs.declared.claim.ForbiddenLine.{ForbiddenLine}
use Rattle.mrc_wiring.specs.Table.{Table, wiring_of}
use Rattle.mrc_attack.specs.Leaks.{IsLeak}

-- the fact that the line forbids is in every closed set
abbrev pub IsForced : Wiring → Forbid → Type 0
IsForced W line = Least W (Hold line.task line.class line.right)

-- Where events lead from the first state to a world in which a line is broken, what the line
-- forbids is in every closed set.
abbrev pub BreachesAreForced : Type 0
BreachesAreForced =
    (W : Wiring) (line : Forbid) (events : List Event) (w : World) → IsTrue (is_sound W)
    → Run W (first W) events w → Breach W w (line ∷ []) → IsForced W line

-- So is what a line forbids for which a text leaks.
abbrev pub LeaksAreForced : Table → Type 0
LeaksAreForced table =
    (line : Forbid) (text : List ℕ) → IsLeak table line text → IsForced (wiring_of table) line

-- events lead to a world in which a line of the claim's policy is broken
pub record HasBreach (claim : Claimed) : Type 0 where
  pub line : Forbid
  pub among : IsIn line (policy_of claim)
  pub events : List Event
  pub world : World
  pub leads : LeadsTo claim events world
  pub breach : Breach (wiring_of claim.table) world (line ∷ [])

-- a text leaks for a line of the claim
pub record HasLeak (claim : Claimed) : Type 0 where
  pub line : ForbiddenLine
  pub among : IsIn line claim.lines
  pub text : List ℕ
  pub leak : IsLeak claim.table (holding_of line) text

-- no certificate is accepted for bytes that mean a claim of either kind
abbrev pub BreachesHaveNoYes : Type 0
BreachesHaveNoYes = HaveNoYes HasBreach

abbrev pub LeaksHaveNoYes : Type 0
LeaksHaveNoYes = HaveNoYes HasLeak
