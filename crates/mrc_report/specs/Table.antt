-- Believe. The calls that a line of a script may have, and the kinds of their parameters in order.
-- The calls are those of Mach 3 Kernel Interfaces; how they are written is this profile's own
-- choice.
use Rattle.std.specs.Prelude.{ℕ, Bool, true, false, bytes_eq, codes, List, [], ◌∷◌, ◌++◌, length}
use Rattle.std.specs.Prelude.{Option, Some, None, if◌then◌else◌}
use Rattle.mrc_report.specs.declared.parameters.Parameter.{Parameter}
use Rattle.mrc_report.specs.declared.parameters.Parameter.TheVariants.{Number, HeldRight}
use Rattle.mrc_report.specs.declared.parameters.Parameter.TheVariants.{Disposition, Delta}
use Rattle.mrc_report.specs.declared.table.CallName.{CallName}
use Rattle.mrc_report.specs.declared.table.CallName.TheVariants as call

-- the word of a call: Mach's name without `mach_port_`, or `receive`, or `wait`
abbrev pub call_text : CallName → List ℕ
call_text call.Send = codes "send"
call_text call.Allocate = codes "allocate"
call_text call.GetRefs = codes "get_refs"
call_text call.InsertRight = codes "insert_right"
call_text call.ExtractRight = codes "extract_right"
call_text call.SetQlimit = codes "set_qlimit"
call_text call.PortType = codes "type"
call_text call.Names = codes "names"
call_text call.Rename = codes "rename"
call_text call.Deallocate = codes "deallocate"
call_text call.Destroy = codes "destroy"
call_text call.ModRefs = codes "mod_refs"
call_text call.MoveMember = codes "move_member"
call_text call.RequestNotification = codes "request_notification"
call_text call.TaskCreate = codes "task_create"
call_text call.TaskTerminate = codes "task_terminate"
call_text call.Receive = codes "receive"
call_text call.Wait = codes "wait"

-- two numbers, and then others
abbrev pub numbers_2 : List Parameter → List Parameter
numbers_2 others = Number ∷ Number ∷ others

-- the kinds of its parameters, except HEX
abbrev pub parameters : CallName → List Parameter
parameters call.Send = []
parameters call.Allocate = Number ∷ HeldRight ∷ Number ∷ []
parameters call.GetRefs = numbers_2 (HeldRight ∷ [])
parameters call.InsertRight = numbers_2 (Number ∷ Disposition ∷ [])
parameters call.ExtractRight = numbers_2 (Disposition ∷ [])
parameters call.SetQlimit = numbers_2 (Number ∷ [])
parameters call.PortType = numbers_2 []
parameters call.Names = Number ∷ []
parameters call.Rename = numbers_2 (Number ∷ [])
parameters call.Deallocate = numbers_2 []
parameters call.Destroy = numbers_2 []
parameters call.ModRefs = numbers_2 (HeldRight ∷ Delta ∷ [])
parameters call.MoveMember = numbers_2 (Number ∷ [])
parameters call.RequestNotification = numbers_2 (numbers_2 (Number ∷ Disposition ∷ []))
parameters call.TaskCreate = Number ∷ []
parameters call.TaskTerminate = Number ∷ []
parameters call.Receive = numbers_2 []
parameters call.Wait = numbers_2 []

-- how many of them there have to be: `allocate TASK RIGHT` is of kind 0
abbrev pub least : CallName → ℕ
least call.Allocate = 2
least other = length (parameters other)

-- the call waits for a message
abbrev pub is_wait : CallName → Bool
is_wait call.Wait = true
is_wait other = false

-- the calls of a replay
abbrev pub replay_calls : List CallName
replay_calls =
    call.Send ∷ call.Allocate ∷ call.GetRefs ∷ call.InsertRight ∷ call.ExtractRight
    ∷ call.SetQlimit ∷ call.PortType ∷ call.Names ∷ call.Rename ∷ call.Deallocate ∷ call.Destroy
    ∷ call.ModRefs ∷ call.MoveMember ∷ call.RequestNotification ∷ call.TaskCreate
    ∷ call.TaskTerminate ∷ call.Receive ∷ []

-- the calls of a script that tasks run as threads (`live`), or of a replay
abbrev pub calls : Bool → List CallName
calls true = replay_calls ++ call.Wait ∷ []
calls false = replay_calls

-- the first of these calls that has this word
abbrev pub call_among : List CallName → List ℕ → Option CallName
call_among [] word = None
call_among (name ∷ others) word =
    if bytes_eq word (call_text name) then Some name else call_among others word

-- the call of a word
abbrev pub call_named : Bool → List ℕ → Option CallName
call_named live word = call_among (calls live) word
