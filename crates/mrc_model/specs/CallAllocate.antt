-- Believe. Making ports, sets and dead names. From Mach 3 Kernel Interfaces, mach_port_allocate.
-- The class of a new port, the kinds of births, the limits and the order of refusals are this
-- profile's own choice.
use Rattle.mrc_base.specs.Limits.{limit_of_ports, limit_of_births, first_limit_of_queue}
use Rattle.std.specs.Prelude.{ℕ, ◌+◌, ◌||◌, [], Option, None, Ok, Err, ◌==◌, nat_le}
use Rattle.mrc_base.specs.declared.Right.{Right}
use Rattle.mrc_model.specs.declared.Entry.{Entry}
use Rattle.mrc_model.specs.declared.Entry.TheVariants.{Receive as ReceiveEntry, PortSet as SetEntry}
use Rattle.mrc_model.specs.declared.Entry.TheVariants.{DeadName as DeadEntry}
use Rattle.mrc_model.specs.declared.Backup.TheVariants.{Absent as NoBackup}
use Rattle.mrc_model.specs.declared.Code.TheVariants.{KernInvalidTask, KernInvalidValue}
use Rattle.mrc_model.specs.declared.Code.TheVariants.{KernNoSpace, KernResourceShortage}
use Rattle.mrc_model.specs.Map.{insert, len}
use Rattle.mrc_model.specs.Wiring.{Wiring, births_class}
use Rattle.mrc_model.specs.World.{Port, Store, World, space, task_class}
use Rattle.mrc_model.specs.Reply.{Reply, Name, Refused, Try, ◌>>=◌, ◌>>◌, check, refuse_if}
use Rattle.mrc_model.specs.Reply.{or_refuse}
use Rattle.mrc_model.specs.Space.{unused, is_full}
use Rattle.mrc_model.specs.Target.{with_store, with_space, target}
use Rattle.mrc_base.specs.declared.Right.TheVariants as named

-- a new port of this class
abbrev pub new_port : ℕ → Port
new_port c =
    record { class = c; queue = []; backup = NoBackup; limit = first_limit_of_queue; receipts = 0 }

-- a new port of this class, whose receive right the task gets
abbrev pub birth : Store → ℕ → ℕ → Store
birth s t c = record {
  next = s.next + 1;
  spaces = insert s.spaces t (insert (space s t) (unused (space s t)) (ReceiveEntry s.next 0 None));
  ports = insert s.ports s.next (new_port c);
}

-- the refusals of a new port, in order, and then the port
abbrev pub allocate_port : World → ℕ → Option ℕ → Try (World × Reply)
allocate_port w u class = do
  c ← or_refuse class (Refused KernInvalidValue)
  refuse_if (is_full (space w.store u)) (Refused KernNoSpace)
  refuse_if (nat_le limit_of_ports (len w.store.ports) || nat_le limit_of_births w.store.next)
      (Refused KernResourceShortage)
  Ok (with_store w (birth w.store u c), Name (unused (space w.store u)))

-- a new entry that is no port's; it has kind 0 alone
abbrev pub allocate_entry : World → ℕ → ℕ → Entry → Try (World × Reply)
allocate_entry w u kind e = do
  check (kind == 0) (Refused KernInvalidValue)
  refuse_if (is_full (space w.store u)) (Refused KernNoSpace)
  let n = unused (space w.store u)
  Ok (with_space w u (insert (space w.store u) n e), Name n)

-- what the right asks for is made in u's space
abbrev pub allocate_in : Wiring → World → ℕ → Right → ℕ → Try (World × Reply)
allocate_in W w u named.Send kind = Err (Refused KernInvalidValue)
allocate_in W w u named.SendOnce kind = Err (Refused KernInvalidValue)
allocate_in W w u named.Receive kind = allocate_port w u (births_class W (task_class w u) kind)
allocate_in W w u named.PortSet kind = allocate_entry w u kind SetEntry
allocate_in W w u named.DeadName kind = allocate_entry w u kind (DeadEntry 1)

-- A new name of u: a receive right of a new port of u's births of the kind, an empty set, or a dead
-- name.
unfoldable pub call_allocate : Wiring → World → ℕ → ℕ → Right → ℕ → Try (World × Reply)
call_allocate W w t task right kind = do
  u ← target w t task KernInvalidTask
  allocate_in W w u right kind
