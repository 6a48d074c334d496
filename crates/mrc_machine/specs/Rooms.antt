-- Step. How much room the reply of a call takes: how many names it has, and how many bytes. This
-- profile's own choice.
use Rattle.std.specs.Prelude.{ℕ, ◌≤◌, length, Option, Some, None, Ok, Err, if◌then◌else◌}
use Rattle.mrc_model.specs.Map.{get, len}
use Rattle.mrc_model.specs.World.{World, space}
use Rattle.mrc_model.specs.Reply.{Try}
use Rattle.mrc_model.specs.Target.{is_alive}
use Rattle.mrc_transit.specs.Receiving.{next_size}
use Rattle.mrc_machine.specs.declared.call.Call.{Call}
use Rattle.mrc_machine.specs.declared.call.Call.TheVariants.{Names, Receive}
use Rattle.mrc_machine.specs.declared.reply.Reply.{Reply}
use Rattle.mrc_machine.specs.declared.reply.Reply.TheVariants as told
use Rattle.mrc_machine.specs.Housing.{target_of}

-- a number of names, and a number of bytes
pub record Size : Type 0 where
  pub names : ℕ
  pub bytes : ℕ

-- no name and no byte
abbrev pub no_size : Size
no_size = record { names = 0; bytes = 0 }

-- how many names a task has; 0 if there is no task
abbrev pub count_of_names : World → Option ℕ → ℕ
count_of_names w None = 0
count_of_names w (Some u) = len (space w.store u)

-- the number that a step gives; 0 if it is refused
abbrev pub or_none : Try ℕ → ℕ
or_none (Ok n) = n
or_none (Err e) = 0

-- how many bytes a task receives by a name; that the rights may have no room is not asked
abbrev pub count_of_bytes : World → ℕ → ℕ → ℕ → ℕ
count_of_bytes w t name limit = or_none (next_size w.store t name limit)

-- the size of what a live task is answered: of the names that it asks for, or of the message that
-- it receives; all other replies have neither names nor bytes
abbrev pub size_of_live : World → ℕ → Call → Size
size_of_live w t (Names task) =
    record { names = count_of_names w (target_of w t task); bytes = 0 }
size_of_live w t (Receive name limit) =
    record { names = 0; bytes = count_of_bytes w t name limit }
size_of_live w t call = no_size

-- the size of what a task is answered in the world w; nothing if it is no task or has ended
abbrev pub size_of_call : World → ℕ → Call → Size
size_of_call w t call = if is_alive (get w.tasks t) then size_of_live w t call else no_size

-- the reply has no more names and no more bytes
abbrev pub Fits : Size → Reply → Type 0
Fits size (told.Names names) = length names ≤ size.names
Fits size (told.Message bytes) = length bytes ≤ size.bytes
Fits size reply = Unit {0}
