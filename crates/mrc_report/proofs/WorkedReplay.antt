-- Whole replays, from the texts to what is printed, by computation: a loader puts its own kernel
-- port into the space of the task that it loads; and it makes a task like that one.
use Rattle.std.proofs.Common.{ℕ, List, [], ◌∷◌, false, refl}
use Rattle.std.specs.Prelude.{codes}
use Rattle.std.specs.Fmt.{digits}
use Rattle.mrc_base.specs.declared.PortRight.TheVariants.{Send}
use Rattle.mrc_base.specs.declared.Disp.TheVariants.{CopySend}
use Rattle.mrc_model.specs.declared.FirstLine.TheVariants.{Task, Hold}
use Rattle.mrc_model.specs.Map.{empty, get, insert, alter_all, len, keys, next_key}
use Rattle.mrc_model.specs.World.{World}
use Rattle.mrc_model.specs.Reply.{Call, Created, Done, Names, CreateTask, InsertRight, ListNames}
use Rattle.mrc_model.specs.Reply.{◌>>=◌, ◌>>◌, check, refuse_if, or_refuse}
use Rattle.mrc_model.specs.Space.{restart, take, unused, entry_of, give_item, insert_at}
use Rattle.mrc_model.specs.Target.{target, entry_at}
use Rattle.mrc_model.specs.Wiring.{may}
use Rattle.mrc_model.specs.CallSend.{take_item}
use Rattle.mrc_model.specs.CallCreateTask.{call_create_task}
use Rattle.mrc_model.specs.CallNames.{call_names}
use Rattle.mrc_model.specs.CallInsertRight.{call_insert_right}
use Rattle.mrc_model.specs.Step.{step}
use Rattle.mrc_model.specs.First.{first}
use Rattle.mrc_wiring_text.specs.declared.reading.Line.{Line}
use Rattle.mrc_wiring.specs.Births.{new_row}
use Rattle.mrc_wiring.specs.Table.{Table, wiring_of}
use Rattle.mrc_machine.specs.declared.call.Call.TheVariants as call
use Rattle.mrc_report.specs.declared.script.TaskCall.{TaskCall}
use Rattle.mrc_report.specs.Replay.{IsReplay}

-- `task l`, `task f`, `hold l send task f`
abbrev loader : Table
loader = record {
  names = codes "l" ∷ codes "f" ∷ [];
  births = new_row 0 0 ∷ new_row 1 0 ∷ [];
  ports = [];
  accepts = [];
  lines = Task ∷ Task ∷ Hold 0 1 Send ∷ [];
  admits = [];
  trusts = [];
  fits = false;
  interfaces = [];
}

-- `l insert_right 2 9 1 19`, `f names 1`
abbrev script : List (Line TaskCall)
script =
    record {
      number = 1;
      says = record { task = 0; call = call.InsertRight 2 9 1 CopySend; waits = false };
    }
    ∷ record { number = 2; says = record { task = 1; call = call.Names 1; waits = false } } ∷ []

abbrev after : World → ℕ → Call → World
after world task call = (step (wiring_of loader) world task call).0

pub worked : IsReplay loader script
    (codes "0 l done\n1 f names 1:65536 9:65536\nend events 2 ports 2\n")
unfolding ◌>>=◌ ◌>>◌ check refuse_if or_refuse empty get insert alter_all len keys restart take
    unused entry_of give_item insert_at target entry_at take_item may call_names call_insert_right
    step first digits
worked = record {
  events = record { task = 0; call = InsertRight 2 9 1 CopySend; reply = Done }
      ∷ record { task = 1; call = ListNames 1; reply = Names ((1, 65536) ∷ (9, 65536) ∷ []) } ∷ [];
  world = after (after (first (wiring_of loader)) 0 (InsertRight 2 9 1 CopySend)) 1 (ListNames 1);
  calls = refl;
  run = (refl, (refl, refl));
  printed = refl;
}

-- `l task_create 2`, `@2 names 1`
abbrev child_script : List (Line TaskCall)
child_script =
    record { number = 1; says = record { task = 0; call = call.CreateTask 2; waits = false } }
    ∷ record { number = 2; says = record { task = 2; call = call.Names 1; waits = false } } ∷ []

pub worked_child : IsReplay loader child_script
    (codes "0 l task 2 name 3\n1 @2 names 1:65536\nend events 2 ports 3\n")
unfolding ◌>>=◌ ◌>>◌ check refuse_if or_refuse empty get insert alter_all len keys next_key restart
    take unused entry_of give_item insert_at target entry_at take_item call_names call_create_task
    step first digits
worked_child = record {
  events = record { task = 0; call = CreateTask 2; reply = Created 2 3 }
      ∷ record { task = 2; call = ListNames 1; reply = Names ((1, 65536) ∷ []) } ∷ [];
  world = after (after (first (wiring_of loader)) 0 (CreateTask 2)) 2 (ListNames 1);
  calls = refl;
  run = (refl, (refl, refl));
  printed = refl;
}
