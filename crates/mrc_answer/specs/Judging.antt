-- Step. What is found of a system and its policy, and the replies that are made of it. This
-- profile's own choice.
use Rattle.std.specs.Prelude.{◌≡◌, ◌&&◌, ℕ, Bool, true, false, Option, IfSome, All}
use Rattle.mrc_facts.specs.Sets.{has}
use Rattle.mrc_model.specs.Rules.{IsLeast}
use Rattle.mrc_wiring.specs.Table.{wiring_of}
use Rattle.mrc_check.specs.Texts.{Stated}
use Rattle.mrc_why.specs.Answered.{AreTold, are_met, has_line, told}
use Rattle.mrc_why.specs.Broken.{AreBroken, IsDerived, IsExposedOf, IsReached, HasYes, HasNoYes}
use Rattle.mrc_why.specs.Broken.{is_yes}
use Rattle.mrc_answer.specs.declared.answers.Answer.TheVariants.{Yes, Waived, Broken}
use Rattle.mrc_answer.specs.declared.answers.JudgedPolicy.{JudgedPolicy}
use Rattle.mrc_answer.specs.declared.answers.Reply.{Reply}
use Rattle.mrc_answer.specs.declared.judging.Judgement.{Judgement}
use Rattle.mrc_answer.specs.Files.{Files}
use Rattle.mrc_answer.specs.Verified.{IsAllowed, IsWaived, IsBroken}

-- nothing is objected to, and nothing that is expected is lacking
abbrev pub is_passed : Judgement → Bool
is_passed found =
    is_yes found.verdict.exposed found.verdict.broken.items && are_met found.told.items

-- This is what is found of a system.
pub record IsJudged (stated : Stated) (found : Judgement) : Type 0 where
  pub least : IsLeast (wiring_of stated.claim.table) (has found.verdict.facts)
  pub first : IsExposedOf stated.claim found.verdict.exposed
  pub reached : IfSome found.verdict.exposed (IsReached stated.claim.table)
  pub are : AreBroken stated.claim found.verdict.broken.items
  pub chains : All (IsDerived stated.claim) found.verdict.broken.items
  pub yes : is_yes found.verdict.exposed found.verdict.broken.items ≡ true → HasYes stated.claim
  pub no : is_yes found.verdict.exposed found.verdict.broken.items ≡ false → HasNoYes stated.claim
  pub told_are : found.told.items ≡ told (has found.verdict.facts) stated.demands

-- the line that is asked for is this one, and of it a demand is told
pub record IsShownLine (line : Option ℕ) (only : Option ℕ) (found : Judgement) : Type 0 where
  pub same : only ≡ line
  pub has : IfSome line (λ n. has_line found.told.items n ≡ true)

-- that the policy is broken is answered
pub record IsBrokenReply (line : Option ℕ) (files : Files) (reply : Reply) : Type 0 where
  pub policy : JudgedPolicy
  pub is : reply.answer ≡ Broken policy
  pub right : IsBroken line files reply.notices policy

-- a yes is answered besides what is waived
pub record IsWaivedReply (line : Option ℕ) (files : Files) (reply : Reply) : Type 0 where
  pub policy : JudgedPolicy
  pub is : reply.answer ≡ Waived policy
  pub right : IsWaived line files reply.notices policy

-- a yes is answered
pub record IsYesReply (files : Files) (reply : Reply) : Type 0 where
  pub is : reply.answer ≡ Yes
  pub right : IsAllowed files reply.notices
