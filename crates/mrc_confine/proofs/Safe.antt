-- The checker's yes is the premise of the headline, and so is that of a least set.
use Rattle.std.proofs.Common.{◌≡◌, ◌∙◌, ℕ, Bool, false, List, [], ◌∷◌, IsTrue, ap, inl, inr}
use Rattle.std.proofs.Common.{sym}
use Rattle.std.proofs.lemmas.Bool.{false≢true}
use Rattle.mrc_base.specs.declared.Fact.{Fact}
use Rattle.mrc_base.specs.declared.Fact.TheVariants.{Hold}
use Rattle.mrc_check.specs.Texts.{MeanClaim, Policy}
use Rattle.mrc_cover.proofs.Laws.{runs_are_safe}
use Rattle.mrc_facts.specs.Sets.{has}
use Rattle.mrc_model.proofs.FirstHeld.{in_cons}
use Rattle.mrc_model.specs.Breach.{Forbid}
use Rattle.mrc_model.specs.First.{is_sound}
use Rattle.mrc_model.specs.IsIn.{IsIn}
use Rattle.mrc_model.specs.Rules.{SaysYes}
use Rattle.mrc_wiring.proofs.Resolved.{resolved_is_table}
use Rattle.mrc_wiring.proofs.Sound.{table_is_sound}
use Rattle.mrc_wiring.specs.Claims.{Claimed, policy_of}
use Rattle.mrc_wiring.specs.Table.{wiring_of}
use Rattle.mrc_confine.specs.Safety.{AcceptedIsSafe, LackedIsNeverHeld, VerifiedIsSafe, YesIsSafe}

-- what an accepted claim and draft say is the checker's yes
pub accepted_safe : AcceptedIsSafe
accepted_safe claim draft sound accepted events w run =
    runs_are_safe (wiring_of claim.table) (policy_of claim)
    (has draft.facts) sound accepted.yes events w run

-- a wiring that its text means has a first state
pub sound_of : (defs : List (List ℕ)) (wiring : List ℕ) (policy : Policy) (claim : Claimed)
    → MeanClaim defs wiring policy claim → IsTrue (is_sound (wiring_of claim.table))
sound_of defs wiring policy claim mean =
    let system = mean.system in
    table_is_sound claim.table
    (resolved_is_table system.edition system.interfaces mean.lines claim.table
    system.is_table)

pub yes_safe : YesIsSafe
yes_safe defs wiring policy certificate case says =
    accepted_safe case.claim case.draft (sound_of defs wiring policy case.claim says.means)
    says.accepted

-- the least set needs no certificate
pub verified_safe : VerifiedIsSafe
verified_safe defs wiring policy claim set mean least events w run =
    runs_are_safe (wiring_of claim.table) (policy_of claim) set
    (sound_of defs wiring policy claim mean) least.says events w run

-- a holding that a closed set lacks is one that it may be asked to lack
pub lacked_never : LackedIsNeverHeld
lacked_never defs wiring policy claim set holding events w mean closed lacks run breach =
    let W = wiring_of claim.table in
    let says : SaysYes W (holding ∷ []) set = record {
      closed = closed;
      allowed = λ line among held. only set holding line among lacks held;
    } in
    (runs_are_safe W (holding ∷ []) set (sound_of defs wiring policy claim mean) says events w
    run).1 breach
  where
    only : (set : Fact → Bool) (holding line : Forbid)
        → IsIn line (holding ∷ [])
        → set (Hold holding.task holding.class holding.right) ≡ false
        → IsTrue (set (Hold line.task line.class line.right))
        → ⊥
    only set holding line among lacks held = elim (in_cons line holding [] among) [
      | inl same ↦ false≢true (sym lacks
          ∙ ap (λ (l : Forbid). set (Hold l.task l.class l.right)) (sym same) ∙ held)
      | inr none ↦ elim none [ ]
    ]
