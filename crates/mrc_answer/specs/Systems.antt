-- Believe. What is right of the slots of a system, of its lines that trust tasks, and of all lines. This
-- profile's own choice.
use Rattle.std.specs.Prelude.{◌≡◌, Ok, Err}
use Rattle.std.specs.Result.{result_ok}
use Rattle.mrc_wiring_text.specs.Wiring.{wiring_edition}
use Rattle.mrc_check.specs.Texts.{meaningless}
use Rattle.mrc_answer.specs.declared.answers.Answer.{Answer}
use Rattle.mrc_answer.specs.declared.answers.Answer.TheVariants.{Slots, Promises, Expanded}
use Rattle.mrc_answer.specs.declared.answers.Answer.TheVariants.{Fault}
use Rattle.mrc_answer.specs.declared.faults.Fault.{Fault as Failure}
use Rattle.mrc_answer.specs.declared.faults.Fault.TheVariants.{Meaning}
use Rattle.mrc_answer.specs.Files.{Files}
use Rattle.mrc_answer.specs.Texts.{system}

-- why there is no answer: a text has no meaning
abbrev pub IsNoSystem : Files → Failure → Type 0
IsNoSystem files (Meaning fault) = system files.texts ≡ Err (meaningless fault)
IsNoSystem files fault = ⊥

-- what `slots` answers: the system that the texts mean
abbrev pub AreSlots : Files → Answer → Type 0
AreSlots files (Slots meant) = system files.texts ≡ Ok meant
AreSlots files (Fault fault) = IsNoSystem files fault
AreSlots files answer = ⊥

-- what `promises` answers: the same
abbrev pub ArePromises : Files → Answer → Type 0
ArePromises files (Promises meant) = system files.texts ≡ Ok meant
ArePromises files (Fault fault) = IsNoSystem files fault
ArePromises files answer = ⊥

-- what `expand` answers: the same, and the edition that the version of an older wiring names
abbrev pub IsExpanded : Files → Answer → Type 0
IsExpanded files (Expanded expanded) =
    (system files.texts ≡ Ok expanded.system)
    × (expanded.older ≡ result_ok (wiring_edition files.texts.wiring))
IsExpanded files (Fault fault) = IsNoSystem files fault
IsExpanded files answer = ⊥
