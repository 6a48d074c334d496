-- Believe. What came of a script of threads. This profile's own choice.
use Rattle.std.specs.Prelude.{List}
use Rattle.mrc_report.specs.Halts.{IsHalted}
use Rattle.mrc_report.specs.Journal.{IsLive}
use Rattle.mrc_report.specs.declared.script.TaskCall.{TaskCall}
use Rattle.mrc_report.specs.declared.serving.Served.{Served}
use Rattle.mrc_report.specs.declared.serving.Served.TheVariants.{Whole, AllWait}
use Rattle.mrc_wiring.specs.Table.{Table}
use Rattle.mrc_wiring_text.specs.declared.reading.Line.{Line}

-- a journal of all lines of all tasks, or of the first of them where no task can go on
abbrev pub IsServed : Table → List (Line TaskCall) → Served → Type 0
IsServed table script (Whole ran) = IsLive table script ran
IsServed table script (AllWait ran lines) = IsHalted table script lines.items ran
