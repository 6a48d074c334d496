-- Believe. Renaming. From Mach 3 Kernel Interfaces, mach_port_rename. The order of refusals is this
-- profile's own choice.
use Rattle.std.specs.Prelude.{ℕ, Bool, true, false, Option, Some, None, Ok}
use Rattle.mrc_model.specs.declared.Entry.{Entry}
use Rattle.mrc_model.specs.declared.Code.TheVariants.{KernInvalidTask, KernInvalidValue}
use Rattle.mrc_model.specs.declared.Code.TheVariants.{KernNameExists}
use Rattle.mrc_model.specs.Map.{get, insert, remove}
use Rattle.mrc_model.specs.World.{World, space}
use Rattle.mrc_model.specs.Reply.{Reply, Done, Refused, Try, ◌>>=◌, ◌>>◌, refuse_if}
use Rattle.mrc_model.specs.Space.{is_set, members_follow}
use Rattle.mrc_model.specs.Target.{is_reserved, with_space, target, entry_at}

-- the name has an entry
abbrev pub is_used : Option Entry → Bool
is_used None = false
is_used (Some e) = true

-- an entry moves to an unused name; the members of a set follow it
unfoldable pub call_rename : World → ℕ → ℕ → ℕ → ℕ → Try (World × Reply)
call_rename w t task old new = do
  u ← target w t task KernInvalidTask
  refuse_if (is_reserved new) (Refused KernInvalidValue)
  e ← entry_at w u old
  refuse_if (is_used (get (space w.store u) new)) (Refused KernNameExists)
  let moved = insert (remove (space w.store u) old) new e
  Ok (with_space w u (members_follow (is_set e) old new moved), Done)
