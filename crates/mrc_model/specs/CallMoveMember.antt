-- Believe. Port sets. From Mach 3 Kernel Interfaces, mach_port_move_member. The order of refusals
-- is this profile's own choice.
use Rattle.std.specs.Prelude.{ℕ, Option, Some, None, Ok, Err, ◌==◌, if◌then◌else◌}
use Rattle.mrc_model.specs.declared.Entry.{Entry}
use Rattle.mrc_model.specs.declared.Entry.TheVariants.{Receive as ReceiveEntry, Send as SendEntry}
use Rattle.mrc_model.specs.declared.Entry.TheVariants.{SendOnce as OnceEntry, PortSet as SetEntry}
use Rattle.mrc_model.specs.declared.Entry.TheVariants.{DeadName as DeadEntry}
use Rattle.mrc_model.specs.declared.Code.TheVariants.{KernInvalidTask, KernNotInSet}
use Rattle.mrc_model.specs.Map.{insert}
use Rattle.mrc_model.specs.World.{World, space, port_null}
use Rattle.mrc_model.specs.Reply.{Reply, Done, Refused, Try, ◌>>=◌, ◌>>◌, check}
use Rattle.mrc_model.specs.Target.{with_space, target, wrong_right, entry_at}
use Rattle.mrc_model.specs.Space.{is_set}

-- out of its set, if it is in one
abbrev pub leave : Option ℕ → Try (Option ℕ)
leave None = Err (Refused KernNotInSet)
leave (Some i) = Ok None

-- into the set of this name
abbrev pub join : World → ℕ → ℕ → Try (Option ℕ)
join w u n = do
  e ← entry_at w u n
  check (is_set e) wrong_right
  Ok (Some n)

-- the set that the member is in after the call
abbrev pub new_set : World → ℕ → ℕ → Option ℕ → Try (Option ℕ)
new_set w u n i = if n == port_null then leave i else join w u n

-- the member's entry, in its new set
abbrev pub move_entry : World → ℕ → ℕ → ℕ → Entry → Try (World × Reply)
move_entry w u member n (ReceiveEntry p k i) = do
  j ← new_set w u n i
  Ok (with_space w u (insert (space w.store u) member (ReceiveEntry p k j)), Done)
move_entry w u member n (SendEntry p k) = Err wrong_right
move_entry w u member n (OnceEntry p) = Err wrong_right
move_entry w u member n SetEntry = Err wrong_right
move_entry w u member n (DeadEntry k) = Err wrong_right

-- a receive right joins a set, leaving its old one; MACH_PORT_NULL in its place takes it out of its
-- set
unfoldable pub call_move_member : World → ℕ → ℕ → ℕ → ℕ → Try (World × Reply)
call_move_member w t task member n = do
  u ← target w t task KernInvalidTask
  e ← entry_at w u member
  move_entry w u member n e
