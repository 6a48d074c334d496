-- Believe. What the texts of files mean together, stage by stage. This profile's own choice.
use Rattle.std.specs.Prelude.{Bool, List, ℕ, Result}
use Rattle.mrc_base.specs.Reading.{◌>>=◌}
use Rattle.mrc_interface.specs.Reading.{step}
use Rattle.mrc_wiring_text.specs.declared.reading.Line.{Line}
use Rattle.mrc_wiring_text.specs.Reading.{utf8_text}
use Rattle.mrc_wiring.specs.Table.{Table}
use Rattle.mrc_check.specs.Verdict.{Case}
use Rattle.mrc_check.specs.Texts.{Meant, Stated, Meaningless, SayYes, system_of, stated_of, case_of}
use Rattle.mrc_check.specs.Texts.{InScript}
use Rattle.mrc_report.specs.declared.script.TaskCall.{TaskCall}
use Rattle.mrc_report.specs.Scripts.{script_of}
use Rattle.mrc_answer.specs.Files.{Texts, asked_policy, given}

-- the system that MIG files and wiring mean, or the first text that has no meaning
abbrev pub system : Texts → Result Meant Meaningless
system texts = system_of texts.defs texts.wiring

-- the same, and what the policy forbids in it
abbrev pub stated : Texts → Result Stated Meaningless
stated texts = stated_of texts.defs texts.wiring (asked_policy texts)

-- the same, and what the certificate answers
abbrev pub case : Texts → Result Case Meaningless
case texts = case_of texts.defs texts.wiring (asked_policy texts) (given texts.certificate)

-- the checker's yes to the texts
abbrev pub AreAccepted : Texts → Case → Type 0
AreAccepted texts case =
    SayYes texts.defs texts.wiring (asked_policy texts) (given texts.certificate) case

-- what the script says to the tasks of a wiring, which run as threads (`live`) or do not
abbrev pub script : Bool → Table → Texts → Result (List (Line TaskCall)) Meaningless
script live table texts = step InScript (do
  text ← utf8_text (given texts.script)
  script_of live table.names text)
