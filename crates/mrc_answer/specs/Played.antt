-- Believe. What is right of a script: of its replay, and of its run by tasks as threads. This
-- profile's own choice.
use Rattle.std.specs.Prelude.{◌≡◌, ◌⊎◌, true, false, List, Result, Ok, Err}
use Rattle.mrc_base.specs.Reading.{◌>>=◌}
use Rattle.mrc_wiring_text.specs.declared.reading.Line.{Line}
use Rattle.mrc_wiring.specs.Table.{Table}
use Rattle.mrc_check.specs.Verdict.{Case}
use Rattle.mrc_check.specs.Texts.{Meaningless, meaningless}
use Rattle.mrc_report.specs.Halts.{IsHalted}
use Rattle.mrc_report.specs.Journal.{IsLive}
use Rattle.mrc_report.specs.declared.script.TaskCall.{TaskCall}
use Rattle.mrc_answer.specs.declared.answers.Answer.{Answer}
use Rattle.mrc_answer.specs.declared.answers.Answer.TheVariants.{Replay, Journal, Waits, Refused}
use Rattle.mrc_answer.specs.declared.answers.Answer.TheVariants.{Fault}
use Rattle.mrc_answer.specs.declared.answers.WiredScript.{WiredScript}
use Rattle.mrc_answer.specs.declared.faults.Fault.{Fault as Failure}
use Rattle.mrc_answer.specs.declared.faults.Fault.TheVariants.{Meaning, Unserved}
use Rattle.mrc_answer.specs.Checked.{IsRefused}
use Rattle.mrc_answer.specs.Files.{Texts, Files}
use Rattle.mrc_answer.specs.Texts.{system, case, script, AreAccepted}

-- the wiring and the script that texts mean, or the first text that has no meaning
abbrev pub scripted : Texts → Result WiredScript Meaningless
scripted texts = do
  meant ← system texts
  lines ← script false meant.table texts
  Ok (record { wired = meant.table; script = lines })

-- why there is no replay
abbrev pub IsUnplayed : Files → Failure → Type 0
IsUnplayed files (Meaning fault) = scripted files.texts ≡ Err (meaningless fault)
IsUnplayed files fault = ⊥

-- what `replay` answers: the wiring and the script that the texts mean
abbrev pub IsReplayed : Files → Answer → Type 0
IsReplayed files (Replay both) = scripted files.texts ≡ Ok both
IsReplayed files (Fault fault) = IsUnplayed files fault
IsReplayed files answer = ⊥

-- this holds of a script: the checker accepts the texts, and the script has a meaning
pub record OfScript (Holds : Table → List (Line TaskCall) → Type 0) (texts : Texts) : Type 0 where
  pub judged : Case
  pub accepted : AreAccepted texts judged
  pub lines : List (Line TaskCall)
  pub says : script true judged.claim.table texts ≡ Ok lines
  pub holds : Holds judged.claim.table lines

-- the checker accepts the texts, and the script has this fault
pub record IsFaultOfScript (files : Files) (made : Meaningless) : Type 0 where
  pub judged : Case
  pub accepted : AreAccepted files.texts judged
  pub says : script true judged.claim.table files.texts ≡ Err made

-- why a script was not run: a text that the checker reads has no meaning, or the script; or it was
-- not run to its end, though the checker accepts the texts
abbrev pub IsUnserved : Files → Failure → Type 0
IsUnserved files (Meaning fault) =
    (case files.texts ≡ Err (meaningless fault)) ⊎ IsFaultOfScript files (meaningless fault)
IsUnserved files (Unserved fault) = (judged : Case) × AreAccepted files.texts judged
IsUnserved files fault = ⊥

-- what `live` answers: the journal of a run from the first state in which each task makes the calls
-- of its lines; or that of a run after which no task can go on, with the lines that wait
abbrev pub IsRun : Files → Answer → Type 0
IsRun files (Journal ran) = OfScript (λ table lines. IsLive table lines ran) files.texts
IsRun files (Waits waiting) =
    OfScript (λ table lines. IsHalted table lines waiting.lines.items waiting.ran) files.texts
IsRun files (Refused r) = IsRefused files r
IsRun files (Fault fault) = IsUnserved files fault
IsRun files answer = ⊥
