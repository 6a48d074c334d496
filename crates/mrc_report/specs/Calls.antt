-- Believe. What a line of a script says: a task, a call, and the call's parameters in order. A task
-- is one of the wiring by its name, or in a replay one that a call makes by its number. If tasks
-- run as threads, `wait NAME LIMIT` is a receive that waits for a message. The calls are those of
-- Mach 3 Kernel Interfaces; how they are written is this profile's own choice.
use Rattle.std.specs.Prelude.{ℕ, Bool, true, false, List, [], ◌∷◌, length, nat_le, nat_lt, ◌==◌}
use Rattle.std.specs.Prelude.{Option, Some, None, if◌then◌else◌}
use Rattle.mrc_wiring.specs.Names.{number_of}
use Rattle.mrc_words.specs.Numbers.{number_of_word}
use Rattle.mrc_words.specs.Reading.{◌>>=◌}
use Rattle.mrc_machine.specs.declared.call.Call.{Call}
use Rattle.mrc_machine.specs.declared.call.Call.TheVariants.{Allocate, GetRefs, InsertRight}
use Rattle.mrc_machine.specs.declared.call.Call.TheVariants.{ExtractRight, SetQlimit, PortType}
use Rattle.mrc_machine.specs.declared.call.Call.TheVariants.{Names, Rename, Receive, Send}
use Rattle.mrc_machine.specs.declared.call.Call.TheVariants.{MoveMember, RequestNotification}
use Rattle.mrc_machine.specs.declared.call.Call.TheVariants.{Deallocate, Destroy, ModRefs}
use Rattle.mrc_machine.specs.declared.call.Call.TheVariants.{Terminate, CreateTask}
use Rattle.mrc_report.specs.declared.parameters.Value.{Value}
use Rattle.mrc_report.specs.declared.script.TaskCall.{TaskCall}
use Rattle.mrc_report.specs.declared.table.CallName.{CallName}
use Rattle.mrc_report.specs.declared.table.CallName.TheVariants as call
use Rattle.mrc_report.specs.Parameters.{values_of, number_at, right_at, disp_at, delta_at}
use Rattle.mrc_report.specs.Parameters.{message_of_words}
use Rattle.mrc_report.specs.Table.{parameters, least, is_wait, call_named}

-- A call whose parameters are numbers, with their values.
unfoldable pub numbers_made : CallName → List Value → Option Call
-- NAME LIMIT
numbers_made call.Receive vs = Some (Receive (number_at vs 0) (number_at vs 1))
-- NAME LIMIT
numbers_made call.Wait vs = Some (Receive (number_at vs 0) (number_at vs 1))
-- TASK NAME LIMIT
numbers_made call.SetQlimit vs =
    Some (SetQlimit (number_at vs 0) (number_at vs 1) (number_at vs 2))
-- TASK NAME
numbers_made call.PortType vs = Some (PortType (number_at vs 0) (number_at vs 1))
-- TASK
numbers_made call.Names vs = Some (Names (number_at vs 0))
-- TASK OLD NEW
numbers_made call.Rename vs = Some (Rename (number_at vs 0) (number_at vs 1) (number_at vs 2))
-- TASK NAME
numbers_made call.Deallocate vs = Some (Deallocate (number_at vs 0) (number_at vs 1))
-- TASK NAME
numbers_made call.Destroy vs = Some (Destroy (number_at vs 0) (number_at vs 1))
-- TASK MEMBER SET
numbers_made call.MoveMember vs =
    Some (MoveMember (number_at vs 0) (number_at vs 1) (number_at vs 2))
-- TASK
numbers_made call.TaskCreate vs = Some (CreateTask (number_at vs 0))
-- TASK
numbers_made call.TaskTerminate vs = Some (Terminate (number_at vs 0))
numbers_made other vs = None

-- A call with the values of its parameters. The comment is how a line has them; RIGHT of
-- `insert_right` and NOTIFY are names of the caller. HEX of `send` is no value.
unfoldable pub made : CallName → List Value → Option Call
-- TASK RIGHT [KIND], where KIND is 0 if it is missing
made call.Allocate vs = Some (Allocate (number_at vs 0) (right_at vs 1) (number_at vs 2))
-- TASK NAME RIGHT
made call.GetRefs vs = Some (GetRefs (number_at vs 0) (number_at vs 1) (right_at vs 2))
-- TASK NAME RIGHT DISP
made call.InsertRight vs =
    Some (InsertRight (number_at vs 0) (number_at vs 1) (number_at vs 2) (disp_at vs 3))
-- TASK NAME DISP
made call.ExtractRight vs = Some (ExtractRight (number_at vs 0) (number_at vs 1) (disp_at vs 2))
-- TASK NAME RIGHT DELTA
made call.ModRefs vs =
    Some (ModRefs (number_at vs 0) (number_at vs 1) (right_at vs 2) (delta_at vs 3))
-- TASK NAME ID SYNC NOTIFY DISP
made call.RequestNotification vs =
    Some (RequestNotification (number_at vs 0) (number_at vs 1) (number_at vs 2) (number_at vs 3)
    (number_at vs 4) (disp_at vs 5))
made other vs = numbers_made other vs

-- `send HEX`, the bytes of the message, where blanks may stand anywhere
unfoldable pub send : List (List ℕ) → Option Call
send words = do
  message ← message_of_words words
  Some (Send message)

-- a call but sending, with the words of its parameters
unfoldable pub port_call : CallName → List (List ℕ) → Option Call
port_call name words =
    if nat_le (least name) (length words) then values_of (parameters name) words >>= made name
    else None

-- a call with the words of its parameters
abbrev pub call_of : CallName → List (List ℕ) → Option Call
call_of call.Send words = send words
call_of name words = port_call name words

-- the task of these digits, where it is none of so many wired ones
unfoldable pub child_of_word : ℕ → List ℕ → Option ℕ
child_of_word wired digits = do
  n ← number_of_word digits
  if nat_lt n wired then None else Some n

-- who calls in a replay: the task that has this one of the names, or `@N`, the task of the number
-- N, which is not wired
unfoldable pub caller_of_word : List (List ℕ) → List ℕ → Option ℕ
caller_of_word tasks [] = None
caller_of_word tasks (byte ∷ digits) =
    if byte == 64 then child_of_word (length tasks) digits else number_of tasks (byte ∷ digits)

-- who calls: where tasks run as threads (`live`) a wired one alone
abbrev pub caller : Bool → List (List ℕ) → List ℕ → Option ℕ
caller true tasks word = number_of tasks word
caller false tasks word = caller_of_word tasks word

-- the call of this name by this task, with the words of its parameters
unfoldable pub said_by : Option ℕ → Option CallName → List (List ℕ) → Option TaskCall
said_by task name parameters = do
  t ← task
  n ← name
  call ← call_of n parameters
  Some (record { task = t; call = call; waits = is_wait n })

-- what the words of a line say, where tasks run as threads and where they do not
abbrev pub line_says : Bool → List (List ℕ) → List (List ℕ) → Option TaskCall
line_says live tasks (task ∷ name ∷ parameters) =
    said_by (caller live tasks task) (call_named live name) parameters
line_says live tasks words = None
