-- Believe. Making tasks. From Mach 3 Kernel Interfaces, task_create. The classes of a new task,
-- that it is given no other right, the limits and the order of refusals are this profile's own
-- choice.
use Rattle.mrc_base.specs.Limits.{limit_of_ports, limit_of_births}
use Rattle.std.specs.Prelude.{ℕ, ◌+◌, ◌^◌, Bool, true, ◌||◌, Ok, nat_le}
use Rattle.mrc_base.specs.declared.PortRight.TheVariants.{Send}
use Rattle.mrc_model.specs.declared.Entry.TheVariants.{Send as SendEntry}
use Rattle.mrc_model.specs.declared.Item.TheVariants.{Right as RightItem}
use Rattle.mrc_model.specs.declared.Code.TheVariants.{KernInvalidArgument, KernNoSpace}
use Rattle.mrc_model.specs.declared.Code.TheVariants.{KernResourceShortage}
use Rattle.mrc_model.specs.Map.{empty, get, insert, len, next_key}
use Rattle.mrc_model.specs.World.{Task, World, space, class_of}
use Rattle.mrc_model.specs.Reply.{Reply, Created, Refused, Try, ◌>>=◌, ◌>>◌, refuse_if, or_refuse}
use Rattle.mrc_model.specs.Space.{give_item, is_full}
use Rattle.mrc_model.specs.Target.{with_store, target}
use Rattle.mrc_model.specs.CallAllocate.{new_port}

-- how many tasks there may have been: their numbers have 32 bits
abbrev pub limit_of_task_numbers : ℕ
limit_of_task_numbers = 2 ^ 32

-- there are as many live ports, or as many births or tasks have been, as there may be
abbrev pub is_short_of_tasks : World → Bool
is_short_of_tasks w =
    nat_le limit_of_ports (len w.store.ports) || nat_le limit_of_births w.store.next
    || nat_le limit_of_task_numbers (next_key w.tasks)

-- The world with one live task more, of this number and class. Its kernel port is new, of the class
-- `kernel`; its space has a send right to it under name 1, and nothing else.
abbrev pub with_task : World → (number class kernel : ℕ) → World
with_task w number class kernel =
    let s = w.store in
    let task : Task = record { alive = true; kernel = s.next; class = class } in
    record {
      tasks = insert w.tasks number task;
      store = record {
        next = s.next + 1;
        spaces = insert s.spaces number (insert empty 1 (SendEntry s.next 1));
        ports = insert s.ports s.next (new_port kernel);
      };
    }

-- A new task, of u's class, and its kernel port of the class of u's; the caller is given a send
-- right to that port.
unfoldable pub call_create_task : World → ℕ → ℕ → Try (World × Reply)
call_create_task w t task = do
  u ← target w t task KernInvalidArgument
  x ← or_refuse (get w.tasks u) (Refused KernInvalidArgument)
  kernel ← or_refuse (class_of w.store x.kernel) (Refused KernInvalidArgument)
  refuse_if (is_full (space w.store t)) (Refused KernNoSpace)
  refuse_if (is_short_of_tasks w) (Refused KernResourceShortage)
  let number = next_key w.tasks
  let made = with_task w number x.class kernel
  let got = give_item made.store t (RightItem w.store.next Send)
  Ok (with_store made got.0, Created number got.1)
