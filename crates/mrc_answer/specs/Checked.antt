-- Believe. What is right of a certificate: that the checker accepts it, or the first reason why
-- not. This profile's own choice.
use Rattle.std.specs.Prelude.{◌≡◌, Ok, Err}
use Rattle.mrc_certificate.specs.Spelling.{content}
use Rattle.mrc_check.specs.declared.confined.Refused.{Refused as RefusedCase}
use Rattle.mrc_check.specs.declared.verdict.Why.{Why}
use Rattle.mrc_check.specs.Texts.{meaningless}
use Rattle.mrc_check.specs.Verdict.{Case, IsWhy}
use Rattle.mrc_answer.specs.declared.answers.Answer.{Answer}
use Rattle.mrc_answer.specs.declared.answers.Answer.TheVariants.{Yes, Refused, Fault}
use Rattle.mrc_answer.specs.declared.faults.Fault.{Fault as Failure}
use Rattle.mrc_answer.specs.declared.faults.Fault.TheVariants.{Meaning}
use Rattle.mrc_answer.specs.Files.{Files}
use Rattle.mrc_answer.specs.Notices.{Notices, no_notices, left_out_alone, left_out_and_trusted}
use Rattle.mrc_answer.specs.Texts.{AreAccepted, case}

-- the checker accepts the texts; and these are the notices
pub record IsAccepted (files : Files) (notices : Notices) : Type 0 where
  pub judged : Case
  pub says : AreAccepted files.texts judged
  pub are_notices : notices ≡ left_out_and_trusted files judged.claim.table

-- The texts have a meaning, together they are this case for the checker, and this is the reason by
-- which the checker refuses it.
pub record IsRefused (files : Files) (r : RefusedCase Why) : Type 0 where
  pub says : case files.texts ≡ Ok (record { claim = r.claim; draft = content r.draft })
  pub is_why : IsWhy r.claim (content r.draft) r.why

-- why there is no answer
abbrev pub IsUnchecked : Files → Failure → Type 0
IsUnchecked files (Meaning fault) = case files.texts ≡ Err (meaningless fault)
IsUnchecked files fault = ⊥

-- what `check` answers, with its notices
abbrev pub IsChecked : Files → Answer → Notices → Type 0
IsChecked files Yes notices = IsAccepted files notices
IsChecked files (Refused r) notices = IsRefused files r × (notices ≡ left_out_alone files)
IsChecked files (Fault fault) notices = IsUnchecked files fault × (notices ≡ no_notices)
IsChecked files answer notices = ⊥
