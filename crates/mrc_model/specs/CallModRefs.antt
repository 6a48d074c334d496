-- Believe. Changing the references of a name. From Mach 3 Kernel Interfaces, mach_port_mod_refs.
-- Refusing a delta other than 0 and -1 for a right that is there once, and the order of refusals,
-- are this profile's own choice.
use Rattle.mrc_base.specs.Limits.{limit_of_references}
use Rattle.std.specs.Prelude.{ℕ, ◌+◌, ◌-◌, Option, Some, None, Ok, Err, ◌==◌}
use Rattle.std.specs.Prelude.{nat_lt, if◌then◌else◌, ℤ, pos, negsuc}
use Rattle.mrc_base.specs.declared.Right.{Right}
use Rattle.mrc_model.specs.declared.Entry.{Entry}
use Rattle.mrc_model.specs.declared.Entry.TheVariants.{Receive as ReceiveEntry, Send as SendEntry}
use Rattle.mrc_model.specs.declared.Entry.TheVariants.{SendOnce as OnceEntry, PortSet as SetEntry}
use Rattle.mrc_model.specs.declared.Entry.TheVariants.{DeadName as DeadEntry}
use Rattle.mrc_model.specs.declared.Code.TheVariants.{KernInvalidTask, KernInvalidValue}
use Rattle.mrc_model.specs.declared.Code.TheVariants.{KernUrefsOverflow}
use Rattle.mrc_model.specs.World.{World}
use Rattle.mrc_model.specs.Reply.{Reply, Done, Refused, Try, ◌>>=◌, ◌>>◌, check}
use Rattle.mrc_model.specs.Space.{send_entry, dead_entry}
use Rattle.mrc_model.specs.Target.{with_store, target, wrong_right, entry_at}
use Rattle.mrc_model.specs.CallDeallocate.{Change, Remains, DestroysReceive, DestroysEntry, changed}
use Rattle.mrc_base.specs.declared.Right.TheVariants as named

-- n and a signed number: below 0, or the sum
abbrev pub plus : ℕ → ℤ → Option ℕ
plus n (pos k) = Some (n + k)
plus n (negsuc k) = if nat_lt n (k + 1) then None else Some (n - (k + 1))

-- a right that is there once: 0 keeps the entry, -1 destroys the right
abbrev pub by_one : ℤ → Entry → Change → Try Change
by_one (pos k) e c = if k == 0 then Ok (Remains (Some e)) else Err (Refused KernInvalidValue)
by_one (negsuc k) e c = if k == 0 then Ok c else Err (Refused KernInvalidValue)

-- the new number of references, which has a limit
abbrev pub new_refs : Option ℕ → Try ℕ
new_refs None = Err (Refused KernInvalidValue)
new_refs (Some k) = if nat_lt limit_of_references k then Err (Refused KernUrefsOverflow) else Ok k

-- the references of a dead name
abbrev pub changed_refs : ℕ → ℤ → Try Change
changed_refs k delta = do
  n ← new_refs (plus k delta)
  Ok (Remains (dead_entry n))

-- the send references of a receive entry; where it has none, it lacks the right
abbrev pub changed_beside : ℕ → ℕ → Option ℕ → ℤ → Try Change
changed_beside p k i delta = do
  check (nat_lt 0 k) wrong_right
  n ← new_refs (plus k delta)
  Ok (Remains (Some (ReceiveEntry p n i)))

-- the references of a send entry
abbrev pub changed_sends : ℕ → ℕ → ℤ → Try Change
changed_sends p k delta = do
  n ← new_refs (plus k delta)
  Ok (Remains (send_entry p n))

-- what becomes of the entry; the rights that it lacks are refused
abbrev pub change_refs : Entry → Right → ℤ → Try Change
change_refs (ReceiveEntry p k i) named.Send delta = changed_beside p k i delta
change_refs (ReceiveEntry p k i) named.Receive delta =
    by_one delta (ReceiveEntry p k i) DestroysReceive
change_refs (SendEntry p k) named.Send delta = changed_sends p k delta
change_refs (OnceEntry p) named.SendOnce delta = by_one delta (OnceEntry p) DestroysEntry
change_refs SetEntry named.PortSet delta = by_one delta SetEntry DestroysEntry
change_refs (DeadEntry k) named.DeadName delta = changed_refs k delta
change_refs e right delta = Err wrong_right

-- the references of a right of the name are changed by delta
unfoldable pub call_mod_refs : World → ℕ → ℕ → ℕ → Right → ℤ → Try (World × Reply)
call_mod_refs w t task name right delta = do
  u ← target w t task KernInvalidTask
  e ← entry_at w u name
  c ← change_refs e right delta
  Ok (with_store w (changed w.store u name c), Done)
