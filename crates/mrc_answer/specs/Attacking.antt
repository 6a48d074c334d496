-- Step. What `attack` answers by a verdict that is no yes. This profile's own choice.
use Rattle.std.specs.Prelude.{◌≡◌, ℕ, List, Option, All, map}
use Rattle.mrc_check.specs.Texts.{Stated}
use Rattle.mrc_check.specs.declared.demands.Demand.{Demand}
use Rattle.mrc_why.specs.declared.judging.Verdict.{Verdict}
use Rattle.mrc_attack.specs.Attacks.{IsAttack, aim_of, aims}
use Rattle.mrc_answer.specs.declared.answers.Answer.TheVariants.{Attacks}
use Rattle.mrc_answer.specs.declared.answers.Attacked.{Attacked}
use Rattle.mrc_answer.specs.declared.answers.Reply.{Reply}
use Rattle.mrc_answer.specs.declared.judging.Judgement.{Judgement}
use Rattle.mrc_answer.specs.Files.{Files}
use Rattle.mrc_answer.specs.Notices.{AreNotices}
use Rattle.mrc_answer.specs.Verified.{form_of, searched}

-- the same is found, without the broken lines that are waived
pub record IsSearched (told : List Demand) (verdict left : Verdict) : Type 0 where
  pub facts : left.facts ≡ verdict.facts
  pub exposed : left.exposed ≡ verdict.exposed
  pub broken : left.broken.items ≡ searched told verdict.broken.items

-- Attacks on a system are answered: on what is found of it and is not waived, or on that of one
-- line. Each script, as it is printed, leads to what its line forbids.
pub record AreAttacksOn (only : Option ℕ) (files : Files) (stated : Stated) (found : Judgement)
    (reply : Reply) : Type 0 where
  pub attacked : Attacked
  pub is : reply.answer ≡ Attacks attacked
  pub of : attacked.stated ≡ stated
  pub only_is : attacked.only ≡ only
  pub told_is : attacked.told.items ≡ found.told.items
  pub lines : map aim_of attacked.found.items
      ≡ aims only found.verdict.exposed (searched found.told.items found.verdict.broken.items)
  pub leaks : All (IsAttack (form_of only) stated.claim.table) attacked.found.items
  pub are_notices : AreNotices files stated reply.notices
