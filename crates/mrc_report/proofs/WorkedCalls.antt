-- Each call of a script by its words, by computation: the values were worked out by hand.
use Rattle.std.proofs.Common.{◌≡◌, ℕ, Bool, true, false, List, [], ◌∷◌, Option, Some, None, refl}
use Rattle.std.specs.Prelude.{codes, pos, neg_ℤ}
use Rattle.mrc_base.specs.declared.Disp.TheVariants.{MoveReceive, MoveSend, MakeSendOnce}
use Rattle.mrc_base.specs.declared.Right.TheVariants.{Receive, SendOnce, PortSet, DeadName}
use Rattle.mrc_desc.specs.Reading.{message_at, args_at}
use Rattle.mrc_machine.specs.declared.call.Call.{Call}
use Rattle.mrc_machine.specs.declared.call.Call.TheVariants as call
use Rattle.mrc_words.specs.Numbers.{number_of_word, delta_of_word, delta_below}
use Rattle.mrc_wiring_text.specs.Lexis.{is_blank, words, between_blanks}
use Rattle.mrc_report.specs.declared.script.TaskCall.{TaskCall}
use Rattle.mrc_report.specs.Parameters.{right_of_word, byte_of, message_of_words}
use Rattle.mrc_report.specs.Calls.{numbers_made, made, send, port_call, said_by, line_says}

-- what a line of the tasks l and f says, which run as threads
abbrev says : List ℕ → Option TaskCall
says line = line_says true (codes "l" ∷ codes "f" ∷ []) (words line)

-- f makes a call, and it waits or does not
abbrev f_calls : Call → Bool → Option TaskCall
f_calls call waits = Some (record { task = 1; call = call; waits = waits })

-- `send HEX`, with blanks between the digits
sent : says (codes "f send 1300 000018000000 0300000000000000 00000000d0070000")
    ≡ f_calls (call.Send (record {
      remote_disp = 19;
      local_disp = 0;
      remote = 3;
      local = 0;
      seqno = 0;
      id = 2000;
      args = [];
    })) false
unfolding words between_blanks is_blank said_by send message_of_words byte_of message_at args_at
sent = refl

allocate : says (codes "f allocate 1 receive 2") ≡ f_calls (call.Allocate 1 Receive 2) false
unfolding words between_blanks is_blank said_by port_call made number_of_word right_of_word
allocate = refl

allocate_without_kind : says (codes "f allocate 1 set") ≡ f_calls (call.Allocate 1 PortSet 0) false
unfolding words between_blanks is_blank said_by port_call made number_of_word right_of_word
allocate_without_kind = refl

get_refs : says (codes "f get_refs 1 2 once") ≡ f_calls (call.GetRefs 1 2 SendOnce) false
unfolding words between_blanks is_blank said_by port_call made number_of_word right_of_word
get_refs = refl

insert_right : says (codes "f insert_right 1 2 3 17")
    ≡ f_calls (call.InsertRight 1 2 3 MoveSend) false
unfolding words between_blanks is_blank said_by port_call made numbers_made number_of_word
insert_right = refl

extract_right : says (codes "f extract_right 1 2 16")
    ≡ f_calls (call.ExtractRight 1 2 MoveReceive) false
unfolding words between_blanks is_blank said_by port_call made numbers_made number_of_word
extract_right = refl

set_qlimit : says (codes "f set_qlimit 1 2 3") ≡ f_calls (call.SetQlimit 1 2 3) false
unfolding words between_blanks is_blank said_by port_call made numbers_made number_of_word
set_qlimit = refl

port_type : says (codes "f type 1 2") ≡ f_calls (call.PortType 1 2) false
unfolding words between_blanks is_blank said_by port_call made numbers_made number_of_word
port_type = refl

names : says (codes "f names 1") ≡ f_calls (call.Names 1) false
unfolding words between_blanks is_blank said_by port_call made numbers_made number_of_word
names = refl

rename : says (codes "f rename 1 2 3") ≡ f_calls (call.Rename 1 2 3) false
unfolding words between_blanks is_blank said_by port_call made numbers_made number_of_word
rename = refl

deallocate : says (codes "f deallocate 1 2") ≡ f_calls (call.Deallocate 1 2) false
unfolding words between_blanks is_blank said_by port_call made numbers_made number_of_word
deallocate = refl

destroy : says (codes "f destroy 1 2") ≡ f_calls (call.Destroy 1 2) false
unfolding words between_blanks is_blank said_by port_call made numbers_made number_of_word
destroy = refl

mod_refs : says (codes "f mod_refs 1 2 dead -3")
    ≡ f_calls (call.ModRefs 1 2 DeadName (neg_ℤ (pos 3))) false
unfolding words between_blanks is_blank said_by port_call made number_of_word right_of_word
    delta_of_word delta_below
mod_refs = refl

move_member : says (codes "f move_member 1 2 3") ≡ f_calls (call.MoveMember 1 2 3) false
unfolding words between_blanks is_blank said_by port_call made numbers_made number_of_word
move_member = refl

request_notification : says (codes "f request_notification 1 2 70 4 5 21")
    ≡ f_calls (call.RequestNotification 1 2 70 4 5 MakeSendOnce) false
unfolding words between_blanks is_blank said_by port_call made numbers_made number_of_word
request_notification = refl

task_create : says (codes "f task_create 1") ≡ f_calls (call.CreateTask 1) false
unfolding words between_blanks is_blank said_by port_call made numbers_made number_of_word
task_create = refl

task_terminate : says (codes "f task_terminate 1") ≡ f_calls (call.Terminate 1) false
unfolding words between_blanks is_blank said_by port_call made numbers_made number_of_word
task_terminate = refl

receive : says (codes "f receive 1 24") ≡ f_calls (call.Receive 1 24) false
unfolding words between_blanks is_blank said_by port_call made numbers_made number_of_word
receive = refl

waits : says (codes "f wait 1 24") ≡ f_calls (call.Receive 1 24) true
unfolding words between_blanks is_blank said_by port_call made numbers_made number_of_word
waits = refl

-- a word that is missing, one that is too many, and one that is none of its kind
missing : says (codes "f type 1") ≡ None
unfolding words between_blanks is_blank said_by port_call
missing = refl

too_many : says (codes "f allocate 1 set 0 0") ≡ None
unfolding words between_blanks is_blank said_by port_call made number_of_word right_of_word
too_many = refl

no_kind : says (codes "f get_refs 1 2 reply") ≡ None
unfolding words between_blanks is_blank said_by port_call made number_of_word right_of_word
no_kind = refl

-- a word that is no call
no_call : says (codes "f mach_port_names 1") ≡ None
unfolding words between_blanks is_blank said_by
no_call = refl
