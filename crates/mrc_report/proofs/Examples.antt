-- Scripts and what they say, and printed events, by computation.
use Rattle.std.proofs.Common.{◌≡◌, ℕ, List, [], ◌∷◌, ◌++◌, Ok, Err, Some, None, refl, false, true}
use Rattle.std.specs.Prelude.{codes}
use Rattle.std.specs.Fmt.{digits}
use Rattle.mrc_base.specs.declared.Disp.TheVariants.{CopySend}
use Rattle.mrc_model.specs.declared.Code.TheVariants.{KernNoSpace}
use Rattle.mrc_model.specs.declared.Denied.TheVariants.{NoSuchId, NotAdmitted}
use Rattle.mrc_model.specs.Reply.{Names, Created, Bytes, TooLarge, Refused, DeniedBy, DeadTask}
use Rattle.mrc_wiring_text.specs.declared.faults.TextFault.TheVariants.{BadLine}
use Rattle.mrc_wiring_text.specs.declared.reading.Line.{Line}
use Rattle.mrc_wiring_text.specs.Lexis.{is_blank, words, between_blanks}
use Rattle.mrc_wiring_text.specs.Reading.{line_of, body}
use Rattle.mrc_wiring.specs.Table.{Table}
use Rattle.mrc_machine.specs.declared.call.Call.{Call}
use Rattle.mrc_machine.specs.declared.call.Call.TheVariants as call
use Rattle.mrc_report.specs.declared.script.TaskCall.{TaskCall}
use Rattle.mrc_words.specs.Numbers.{number_of_word}
use Rattle.mrc_report.specs.Parameters.{byte_of, bytes_of_digits}
use Rattle.mrc_report.specs.Calls.{numbers_made, made, port_call, child_of_word, caller_of_word}
use Rattle.mrc_report.specs.Calls.{said_by}
use Rattle.mrc_report.specs.Scripts.{script_of}
use Rattle.mrc_report.specs.Printing.{reply_text, event_line, end_line}

-- lines, each with its line feed
abbrev text : List (List ℕ) → List ℕ
text [] = []
text (line ∷ rest) = line ++ 10 ∷ text rest

abbrev tasks : List (List ℕ)
tasks = codes "l" ∷ codes "f" ∷ []

abbrev at : ℕ → ℕ → Call → Line TaskCall
at n task call = record { number = n; says = record { task = task; call = call; waits = false } }

-- two calls
two_calls : script_of false tasks (text (
    codes "l insert_right 2 009 1 19" ∷ [] ∷ codes "f names 1 #" ∷ []))
    ≡ Ok (at 1 0 (call.InsertRight 2 9 1 CopySend) ∷ at 3 1 (call.Names 1) ∷ [])
unfolding body line_of words between_blanks is_blank caller_of_word said_by port_call made
    numbers_made number_of_word
two_calls = refl

-- a task that is not wired calls by its number, with zeros in front or not; a wired one, and each
-- where tasks run as threads, by its name alone
child : script_of false tasks (codes "@002 names 1") ≡ Ok (at 1 2 (call.Names 1) ∷ [])
unfolding body line_of words between_blanks is_blank caller_of_word child_of_word said_by port_call
    made numbers_made number_of_word
child = refl

wired_by_number : script_of false tasks (codes "@1 names 1") ≡ Err (BadLine 1)
unfolding body line_of words between_blanks is_blank caller_of_word child_of_word said_by port_call
    made numbers_made number_of_word
wired_by_number = refl

child_as_thread : script_of true tasks (codes "@2 names 1") ≡ Err (BadLine 1)
unfolding body line_of words between_blanks is_blank said_by
child_as_thread = refl

-- a line that waits, where tasks run as threads; and the same in a replay
waiting : script_of true tasks (codes "f wait 2 24")
    ≡ Ok (record {
      number = 1;
      says = record { task = 1; call = call.Receive 2 24; waits = true };
    } ∷ [])
unfolding body line_of words between_blanks is_blank said_by port_call made numbers_made
    number_of_word
waiting = refl

no_waiting : script_of false tasks (codes "f wait 2 24") ≡ Err (BadLine 1)
unfolding body line_of words between_blanks is_blank caller_of_word said_by
no_waiting = refl

-- a text without words
nothing : script_of false tasks (codes "  # nothing") ≡ Ok []
unfolding body line_of words between_blanks is_blank
nothing = refl

-- the first wrong line is told
another_task : script_of false tasks (text (codes "f names 1" ∷ codes "g names 1" ∷ codes "f" ∷ []))
    ≡ Err (BadLine 2)
unfolding body line_of words between_blanks is_blank caller_of_word said_by port_call made
    numbers_made number_of_word
another_task = refl

-- digits of either case; one that is over spells no byte
whole_bytes : bytes_of_digits (codes "0aF1") ≡ Some (10 ∷ 241 ∷ [])
unfolding byte_of
whole_bytes = refl

half_byte : bytes_of_digits (codes "0aF") ≡ None
unfolding byte_of
half_byte = refl

abbrev table : Table
table = record {
  names = tasks;
  births = [];
  ports = [];
  accepts = [];
  lines = [];
  admits = [];
  trusts = [];
  fits = false;
  interfaces = [];
}

-- the line of an event
listed : event_line table 1 1 (Names ((1, 65536) ∷ (9, 65536) ∷ []))
    ≡ codes "1 f names 1:65536 9:65536\n"
unfolding digits
listed = refl

listed_child : event_line table 9 2 DeadTask ≡ codes "9 @2 dead task\n"
unfolding digits
listed_child = refl

created : reply_text (Created 2 3) ≡ codes "task 2 name 3"
unfolding digits
created = refl

ends : end_line 2 2 ≡ codes "end events 2 ports 2\n"
unfolding digits
ends = refl

refused : reply_text (Refused KernNoSpace) ≡ codes "refused KERN_NO_SPACE"
refused = refl

denied : reply_text (DeniedBy (NotAdmitted 0)) ≡ codes "denied NotAdmitted 0"
unfolding digits
denied = refl

denied_id : reply_text (DeniedBy NoSuchId) ≡ codes "denied NoSuchId"
denied_id = refl

bytes : reply_text (Bytes (0 ∷ 18 ∷ 208 ∷ 175 ∷ [])) ≡ codes "message 0012d0af"
bytes = refl

too_large : reply_text (TooLarge 32) ≡ codes "too large 32"
unfolding digits
too_large = refl
