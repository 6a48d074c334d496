-- Law. What the answers of `verify` and `attack` mean for the machine and for certificates. This
-- profile's own choice.
use Rattle.std.specs.Prelude.{◌≡◌, Bool, true, false, ℕ, List, [], ◌∷◌, Option}
use Rattle.mrc_base.specs.declared.Fact.{Fact}
use Rattle.mrc_model.specs.Breach.{Breach}
use Rattle.mrc_model.specs.IsIn.{IsIn}
use Rattle.mrc_model.specs.Runs.{Event}
use Rattle.mrc_model.specs.World.{World}
use Rattle.mrc_wiring.specs.Claims.{Claimed, holding_of}
use Rattle.mrc_wiring.specs.Table.{wiring_of}
use Rattle.mrc_check.specs.declared.demands.Demand.{Demand}
use Rattle.mrc_check.specs.Texts.{MeanClaim}
use Rattle.mrc_confine.specs.Safety.{IsSafeBy, LeadsTo, NoneIsAccepted}
use Rattle.mrc_why.specs.Answered.{is_expected}
use Rattle.mrc_why.specs.Broken.{is_yes}
use Rattle.mrc_answer.specs.declared.answers.Answer.TheVariants.{Yes, Broken, Waived, Attacks}
use Rattle.mrc_answer.specs.declared.answers.Attacked.{Attacked}
use Rattle.mrc_answer.specs.declared.answers.JudgedPolicy.{JudgedPolicy}
use Rattle.mrc_answer.specs.Files.{Files, Texts, asked_policy}
use Rattle.mrc_answer.specs.Notices.{Notices}
use Rattle.mrc_answer.specs.Verified.{IsVerified, IsAttacked}

-- The texts mean a claim, and there is a set of facts that covers each world which calls lead to
-- from the first state of the wiring. No such world has a breach of the policy.
pub record AreSafe (texts : Texts) : Type 0 where
  pub claim : Claimed
  pub mean : MeanClaim texts.defs texts.wiring (asked_policy texts) claim
  pub set : Fact → Bool
  pub safe : IsSafeBy claim set

-- no certificate is accepted for the texts
abbrev pub HaveNoYes : Texts → Type 0
HaveNoYes texts = NoneIsAccepted texts.defs texts.wiring (asked_policy texts)

-- if `verify` answers yes, the texts are safe
abbrev pub AllowedIsSafe : Type 0
AllowedIsSafe = (line : Option ℕ) (files : Files) (notices : Notices)
    → IsVerified line files Yes notices → AreSafe files.texts

-- the same if it answers yes besides what is waived
abbrev pub WaivedIsSafe : Type 0
WaivedIsSafe = (line : Option ℕ) (files : Files) (notices : Notices) (b : JudgedPolicy)
    → IsVerified line files (Waived b) notices → AreSafe files.texts

-- if it answers what is exposed and broken, no certificate is accepted for the texts
abbrev pub BrokenHasNoYes : Type 0
BrokenHasNoYes = (line : Option ℕ) (files : Files) (notices : Notices) (b : JudgedPolicy)
    → IsVerified line files (Broken b) notices
    → is_yes b.verdict.exposed b.verdict.broken.items ≡ false
    → HaveNoYes files.texts

-- if it answers that what is expected is lacking, no list of calls leads to it
abbrev pub UnmetIsNeverHeld : Type 0
UnmetIsNeverHeld = (line : Option ℕ) (files : Files) (notices : Notices) (b : JudgedPolicy)
    (demand : Demand) (events : List Event) (w : World)
    → IsVerified line files (Broken b) notices
    → IsIn demand b.told.items → is_expected demand ≡ true
    → LeadsTo b.stated.claim events w
    → Breach (wiring_of b.stated.claim.table) w (holding_of demand.holding ∷ []) → ⊥

-- if `attack` answers yes, the texts are safe
abbrev pub UnattackedIsSafe : Type 0
UnattackedIsSafe = (line : Option ℕ) (files : Files) (notices : Notices)
    → IsAttacked line files Yes notices → AreSafe files.texts

-- if it answers attacks, no certificate is accepted for the texts
abbrev pub AttackedHasNoYes : Type 0
AttackedHasNoYes = (line : Option ℕ) (files : Files) (notices : Notices) (a : Attacked)
    → IsAttacked line files (Attacks a) notices → HaveNoYes files.texts
