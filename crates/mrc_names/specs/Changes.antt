-- Believe. Only `drop_refs`, `drop_reference`, `without`, `move_member`, for one space. From Mach 3
-- Kernel Interfaces, mach_port_mod_refs, mach_port_deallocate, mach_port_destroy and
-- mach_port_move_member.
use Rattle.std.specs.Prelude.{ℕ, ℤ, Option, Some, None, Ok, ◌==◌, if◌then◌else◌, ⊤}
use Rattle.mrc_base.specs.declared.Right.{Right}
use Rattle.mrc_model.specs.declared.Entry.{Entry}
use Rattle.mrc_model.specs.declared.Entry.TheVariants.{Receive as ReceiveEntry, Send as SendEntry}
use Rattle.mrc_model.specs.declared.Entry.TheVariants.{SendOnce as OnceEntry, PortSet as SetEntry}
use Rattle.mrc_model.specs.declared.Entry.TheVariants.{DeadName as DeadEntry}
use Rattle.mrc_model.specs.Map.{get, insert, remove}
use Rattle.mrc_model.specs.World.{Space, port_null}
use Rattle.mrc_model.specs.Reply.{Try, ◌>>=◌, ◌>>◌, check, or_refuse}
use Rattle.mrc_model.specs.Space.{put_entry, is_set, members_leave}
use Rattle.mrc_model.specs.Target.{bad_name, wrong_right}
use Rattle.mrc_model.specs.CallDeallocate.{Change as TChange, Remains as RemainsT}
use Rattle.mrc_model.specs.CallDeallocate.{DestroysReceive as ReceiveT, DestroysEntry as EntryT}
use Rattle.mrc_model.specs.CallDeallocate.{drop_one}
use Rattle.mrc_model.specs.CallModRefs.{change_refs}
use Rattle.mrc_model.specs.CallMoveMember.{leave}
use Rattle.mrc_index.specs.Names.{IsRestOf}
use Rattle.mrc_names.specs.declared.dropping.Change.{Change}
use Rattle.mrc_names.specs.declared.dropping.Change.TheVariants.{Remains, DestroysReceive}
use Rattle.mrc_names.specs.declared.dropping.Change.TheVariants.{DestroysEntry}
use Rattle.mrc_names.specs.declared.dropping.Dropped.{Dropped}
use Rattle.mrc_names.specs.declared.dropping.Dropped.TheVariants.{References, ReceiveRight}
use Rattle.mrc_names.specs.declared.dropping.Dropped.TheVariants.{WholeEntry}

-- what a call does with an entry
abbrev pub change_of : Change → TChange
change_of (Remains rest) = RemainsT rest
change_of DestroysReceive = ReceiveT
change_of DestroysEntry = EntryT

-- what is left of the entry is of its port and kind, if anything is
abbrev pub IsChangeOf : Entry → TChange → Type 0
IsChangeOf e (RemainsT rest) = IsRestOf e rest
IsChangeOf e ReceiveT = ⊤
IsChangeOf e EntryT = ⊤

-- The space after the change of the name's entry, and what is still to be destroyed: of that
-- nothing has changed.
abbrev pub changed : Space → ℕ → TChange → Space × Dropped
changed x n (RemainsT rest) = (put_entry x n rest, References)
changed x n ReceiveT = (x, ReceiveRight)
changed x n EntryT = (x, WholeEntry)

-- the references of a right of the name are changed by delta
unfoldable pub drop_refs : Space → ℕ → Right → ℤ → Try (Space × Dropped)
drop_refs x n right delta = do
  e ← or_refuse (get x n) bad_name
  c ← change_refs e right delta
  Ok (changed x n c)

-- one send or dead reference is dropped, or a send-once right is to be destroyed
unfoldable pub drop_reference : Space → ℕ → Try (Space × Dropped)
drop_reference x n = do
  e ← or_refuse (get x n) bad_name
  c ← or_refuse (drop_one e) wrong_right
  Ok (changed x n c)

-- the space without a name's entry, if it has one; the members of a set leave it
abbrev pub without : Space → ℕ → Option Entry → Space
without x n None = x
without x n (Some e) = members_leave (is_set e) n (remove x n)

-- into the set of this name
unfoldable pub join_set : Space → ℕ → Try (Option ℕ)
join_set x n = do
  e ← or_refuse (get x n) bad_name
  check (is_set e) wrong_right
  Ok (Some n)

-- the set that a member is in after the call: MACH_PORT_NULL takes it out of its set
abbrev pub new_set : Space → ℕ → Option ℕ → Try (Option ℕ)
new_set x n i = if n == port_null then leave i else join_set x n

-- the set that an entry's receive right is in, if it has one
abbrev pub member_of : Entry → Option (Option ℕ)
member_of (ReceiveEntry p k i) = Some i
member_of (SendEntry p k) = None
member_of (OnceEntry p) = None
member_of SetEntry = None
member_of (DeadEntry k) = None

-- the entry with its receive right in this set
abbrev pub in_set : Option ℕ → Entry → Entry
in_set i (ReceiveEntry p k j) = ReceiveEntry p k i
in_set i (SendEntry p k) = SendEntry p k
in_set i (OnceEntry p) = OnceEntry p
in_set i SetEntry = SetEntry
in_set i (DeadEntry k) = DeadEntry k

-- a receive right joins a set, leaving its old one
unfoldable pub move_member : Space → ℕ → ℕ → Try Space
move_member x member n = do
  e ← or_refuse (get x member) bad_name
  i ← or_refuse (member_of e) wrong_right
  j ← new_set x n i
  Ok (insert x member (in_set j e))
