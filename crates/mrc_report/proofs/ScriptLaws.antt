-- What was read is a script that says so, and what a script says is read.
use Rattle.std.proofs.Common.{◌≡◌, ℕ, Bool, List, Result, Ok, arith}
use Rattle.std.specs.Prelude.{IfOk}
use Rattle.mrc_base.specs.declared.memory.OrMemory.{OrMemory}
use Rattle.mrc_base.specs.Reading.{Gives}
use Rattle.mrc_base.proofs.Steps.{gives_ok, gives_same}
use Rattle.mrc_wiring_text.specs.declared.faults.TextFault.{TextFault}
use Rattle.mrc_wiring_text.specs.declared.reading.Line.{Line}
use Rattle.mrc_wiring_text.specs.Lexis.{lines}
use Rattle.mrc_wiring_text.proofs.TextLaws.{body_says, says_body}
use Rattle.mrc_report.specs.declared.script.TaskCall.{TaskCall}
use Rattle.mrc_report.specs.Calls.{line_says}
use Rattle.mrc_report.specs.Scripts.{IsScript, script_of}

-- what was read is said by the text
script_found : (live : Bool) (tasks : List (List ℕ)) (text : List ℕ) (says : List (Line TaskCall))
    → script_of live tasks text ≡ Ok says → IsScript live tasks text says
script_found live tasks text says e =
    let read = body_says (line_says live tasks) 1 (lines text) says (omega arith) e in
    record { few = omega (arith, read.1); said = read.0 }

-- what a text says is read
script_read : (live : Bool) (tasks : List (List ℕ)) (text : List ℕ) (says : List (Line TaskCall))
    → IsScript live tasks text says → script_of live tasks text ≡ Ok says
script_read live tasks text says is =
    says_body (line_says live tasks) 1 (lines text) says (omega (arith, is.few)) is.said

pub found_in : {A : Type 0} (view : A → List (Line TaskCall)) (live : Bool) (tasks : List (List ℕ))
    (text : List ℕ) (r : Result A (OrMemory TextFault))
    → Gives view r (script_of live tasks text)
    → IfOk r (λ script. IsScript live tasks text (view script))
found_in view live tasks text r gives =
    gives_ok (IsScript live tasks text) view r (script_of live tasks text)
    (script_found live tasks text) gives

pub read_by : {A : Type 0} (view : A → List (Line TaskCall)) (live : Bool) (tasks : List (List ℕ))
    (text : List ℕ) (r : Result A (OrMemory TextFault)) (says : List (Line TaskCall))
    → Gives view r (script_of live tasks text)
    → IsScript live tasks text says
    → Gives view r (Ok says)
read_by view live tasks text r says gives is =
    gives_same view r (script_of live tasks text) (Ok says)
    (script_read live tasks text says is) gives
