-- Believe. Which texts are scripts, and the first fault. Lines and words are those of wirings;
-- there is no heading, and a script may have no line of words. This profile's own choice.
use Rattle.std.specs.Prelude.{ℕ, Bool, ◌≤◌, List, length, Result}
use Rattle.mrc_base.specs.Limits.{limit_of_lines}
use Rattle.mrc_wiring_text.specs.declared.faults.TextFault.{TextFault}
use Rattle.mrc_wiring_text.specs.declared.reading.Line.{Line}
use Rattle.mrc_wiring_text.specs.Lexis.{lines}
use Rattle.mrc_wiring_text.specs.Reading.{body}
use Rattle.mrc_wiring_text.specs.Texts.{Say}
use Rattle.mrc_report.specs.declared.script.TaskCall.{TaskCall}
use Rattle.mrc_report.specs.Calls.{line_says}

-- a text that is a script of tasks with these names, which run as threads (`live`) or do not, and
-- what it says
pub record IsScript (live : Bool) (tasks : List (List ℕ)) (text : List ℕ)
    (says : List (Line TaskCall)) : Type 0 where
  pub few : length (lines text) ≤ limit_of_lines
  pub said : Say (line_says live tasks) 1 (lines text) says

-- what a text says, read line by line
abbrev pub script_of : Bool → List (List ℕ) → List ℕ → Result (List (Line TaskCall)) TextFault
script_of live tasks text = body (line_says live tasks) 1 (lines text)
