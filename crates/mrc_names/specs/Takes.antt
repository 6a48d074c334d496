-- Believe. Only `take_right`, `taken_port`, `give_right`, `add_entry`, `rename_entry`, for one
-- space. From Mach 3 Kernel Interfaces, "Port rights" and mach_port_rename.
use Rattle.std.specs.Prelude.{ℕ, Ok}
use Rattle.mrc_base.specs.declared.Disp.{Disp}
use Rattle.mrc_base.specs.declared.PortRight.{PortRight}
use Rattle.mrc_base.specs.Disposition.{given}
use Rattle.mrc_model.specs.declared.Entry.{Entry}
use Rattle.mrc_model.specs.declared.Code.TheVariants.{KernInvalidValue, KernNameExists, KernNoSpace}
use Rattle.mrc_model.specs.Map.{get, insert, remove}
use Rattle.mrc_model.specs.World.{Space}
use Rattle.mrc_model.specs.Reply.{Try, Refused, ◌>>=◌, ◌>>◌, or_refuse, refuse_if}
use Rattle.mrc_model.specs.Space.{take_from, put_entry, place, place_new, is_full, is_over_full}
use Rattle.mrc_model.specs.Space.{unused, insert_at}
use Rattle.mrc_model.specs.Space.{is_set, members_follow}
use Rattle.mrc_model.specs.CallRename.{is_used}
use Rattle.mrc_model.specs.Target.{is_reserved, bad_name, wrong_right}

-- the space after the taking, and the right's port
unfoldable pub take_right : Space → ℕ → Disp → Try (Space × ℕ)
take_right x n d = do
  e ← or_refuse (get x n) bad_name
  got ← or_refuse (take_from e d) wrong_right
  Ok (put_entry x n got.rest, got.port)

-- the right's port alone
unfoldable pub taken_port : Space → ℕ → Disp → Try ℕ
taken_port x n d = do
  (y, p) ← take_right x n d
  Ok p

-- the space after a right was taken from a name and put under another one
unfoldable pub move_right : Space → ℕ → Disp → ℕ → Try Space
move_right x from d to = do
  got ← take_right x from d
  insert_at got.0 to got.1 (given d)

-- the space after an entry was put under the least unused name, and that name; refused where the
-- space is full
unfoldable pub add_entry : Space → Entry → Try (Space × ℕ)
add_entry x e = do
  refuse_if (is_full x) (Refused KernNoSpace)
  Ok (insert x (unused x) e, unused x)

-- the space after the giving of a right under the least unused name, and that name; refused where
-- the space is full
unfoldable pub give_new : Space → ℕ → PortRight → Try (Space × ℕ)
give_new x p r = do
  refuse_if (is_full x) (Refused KernNoSpace)
  Ok ((place_new x p r).space, (place_new x p r).name)

-- The space after the giving, and the right's name: a send or receive right joins the port's entry,
-- else each takes the least unused name. Refused where the space would have too many entries.
unfoldable pub give_right : Space → ℕ → PortRight → Try (Space × ℕ)
give_right x p r = do
  refuse_if (is_over_full (place x p r).space) (Refused KernNoSpace)
  Ok ((place x p r).space, (place x p r).name)

-- the space after its entry moved to an unused name
unfoldable pub rename_entry : Space → ℕ → ℕ → Try Space
rename_entry x old new = do
  refuse_if (is_reserved new) (Refused KernInvalidValue)
  e ← or_refuse (get x old) bad_name
  refuse_if (is_used (get x new)) (Refused KernNameExists)
  Ok (members_follow (is_set e) old new (insert (remove x old) new e))
