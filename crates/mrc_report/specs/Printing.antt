-- Believe. Codes, replies and events as they are printed. Codes have Mach's names (Mach 3 Kernel
-- Interfaces, kern_return_t and mach_msg_return_t), but for the last, which is this profile's own,
-- as the forms are.
use Rattle.std.specs.Prelude.{ℕ, ◌+◌, ◌/◌, ◌%◌, nat_lt, List, [], ◌∷◌, ◌++◌, codes, decimal}
use Rattle.std.specs.Prelude.{flat_map, if◌then◌else◌}
use Rattle.mrc_model.specs.declared.Code.{Code}
use Rattle.mrc_model.specs.declared.Code.TheVariants as code
use Rattle.mrc_model.specs.declared.Denied.{Denied}
use Rattle.mrc_model.specs.declared.Denied.TheVariants.{NoSuchId, WrongShape, WrongDisposition}
use Rattle.mrc_model.specs.declared.Denied.TheVariants.{ReplySlot, NotAdmitted, NotDestroyed}
use Rattle.mrc_model.specs.declared.Denied.TheVariants.{NotTaken, NotGiven, NotSent, NotForReply}
use Rattle.mrc_model.specs.Reply.{Reply, Done, Name, Refs, Mask, Names, Bytes, TooLarge, Refused}
use Rattle.mrc_model.specs.Reply.{Created, DeniedBy, DeadTask}
use Rattle.mrc_wiring.specs.Table.{Table}
use Rattle.mrc_words.specs.Words.{◌␣◌, task_word}

-- a code by its name
abbrev pub code_word : Code → List ℕ
code_word code.KernInvalidTask = codes "KERN_INVALID_TASK"
code_word code.KernInvalidArgument = codes "KERN_INVALID_ARGUMENT"
code_word code.KernInvalidName = codes "KERN_INVALID_NAME"
code_word code.KernInvalidRight = codes "KERN_INVALID_RIGHT"
code_word code.KernInvalidValue = codes "KERN_INVALID_VALUE"
code_word code.KernInvalidCapability = codes "KERN_INVALID_CAPABILITY"
code_word code.KernNameExists = codes "KERN_NAME_EXISTS"
code_word code.KernRightExists = codes "KERN_RIGHT_EXISTS"
code_word code.KernUrefsOverflow = codes "KERN_UREFS_OVERFLOW"
code_word code.KernNotInSet = codes "KERN_NOT_IN_SET"
code_word code.KernNoSpace = codes "KERN_NO_SPACE"
code_word code.KernResourceShortage = codes "KERN_RESOURCE_SHORTAGE"
code_word code.MachSendInvalidDest = codes "MACH_SEND_INVALID_DEST"
code_word code.MachSendInvalidReply = codes "MACH_SEND_INVALID_REPLY"
code_word code.MachSendInvalidRight = codes "MACH_SEND_INVALID_RIGHT"
code_word code.MachSendTimedOut = codes "MACH_SEND_TIMED_OUT"
code_word code.MachRcvInvalidName = codes "MACH_RCV_INVALID_NAME"
code_word code.MachRcvInSet = codes "MACH_RCV_IN_SET"
code_word code.MachRcvTimedOut = codes "MACH_RCV_TIMED_OUT"
code_word code.ProfileNoSpace = codes "PROFILE_NO_SPACE"

-- why the filter, or a line about a trusted task, refuses, with the argument's number if there is
-- one
abbrev pub denied_words : Denied → List ℕ
denied_words NoSuchId = codes "NoSuchId"
denied_words (WrongShape n) = codes "WrongShape" ␣ decimal n
denied_words (WrongDisposition n) = codes "WrongDisposition" ␣ decimal n
denied_words ReplySlot = codes "ReplySlot"
denied_words (NotAdmitted n) = codes "NotAdmitted" ␣ decimal n
denied_words NotDestroyed = codes "NotDestroyed"
denied_words NotTaken = codes "NotTaken"
denied_words NotGiven = codes "NotGiven"
denied_words (NotSent n) = codes "NotSent" ␣ decimal n
denied_words NotForReply = codes "NotForReply"

-- the digit of a number below 16, in small letters
abbrev pub hex_digit : ℕ → ℕ
hex_digit n = if nat_lt n 10 then 48 + n else 87 + n

-- two digits for each byte
abbrev pub hex : List ℕ → List ℕ
hex bytes = flat_map (λ b. hex_digit (b / 16) ∷ hex_digit (b % 16) ∷ []) bytes

-- ` N:MASK`, for a name and the mask of its rights
abbrev pub named_word : ℕ × ℕ → List ℕ
named_word named = codes " " ++ (decimal named.0 ++ (codes ":" ++ decimal named.1))

-- a reply
abbrev pub reply_text : Reply → List ℕ
reply_text Done = codes "done"
reply_text (Name name) = codes "name" ␣ decimal name
reply_text (Refs refs) = codes "refs" ␣ decimal refs
reply_text (Mask mask) = codes "type" ␣ decimal mask
reply_text (Names names) = codes "names" ++ flat_map named_word names
reply_text (Created task name) =
    codes "task" ␣ decimal task ␣ codes "name" ␣ decimal name
reply_text (Bytes bytes) = codes "message" ␣ hex bytes
reply_text (TooLarge size) = codes "too large" ␣ decimal size
reply_text (Refused c) = codes "refused" ␣ code_word c
reply_text (DeniedBy denied) = codes "denied" ␣ denied_words denied
reply_text DeadTask = codes "dead task"

-- the line of an event: its number, the task by its name or as `@N`, and the reply
abbrev pub event_line : Table → ℕ → ℕ → Reply → List ℕ
event_line table number task reply =
    decimal number ␣ task_word table task ␣ (reply_text reply ++ codes "\n")

-- the last line: how many events there were, and how many ports are live
abbrev pub end_line : ℕ → ℕ → List ℕ
end_line events ports =
    codes "end events" ␣ decimal events ␣ codes "ports" ␣ (decimal ports ++ codes "\n")

-- that all tasks that have lines left wait for messages, with the numbers of those lines
abbrev pub waits_text : List ℕ → List ℕ
waits_text lines = codes "AllWait" ++ flat_map (λ line. codes " " ++ decimal line) lines
