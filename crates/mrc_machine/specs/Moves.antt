-- Step. What a moved right leaves. From Mach 3 Kernel Interfaces, "Port rights".
use Rattle.std.specs.Prelude.{ℕ, Ok, ◌==◌, if◌then◌else◌}
use Rattle.mrc_base.specs.declared.Disp.{Disp}
use Rattle.mrc_base.specs.Disposition.{given}
use Rattle.mrc_base.specs.declared.PortRight.{PortRight}
use Rattle.mrc_model.specs.declared.Item.TheVariants.{Right as RightItem}
use Rattle.mrc_model.specs.declared.Denied.TheVariants.{NotGiven}
use Rattle.mrc_model.specs.declared.Verb.TheVariants.{Gives}
use Rattle.mrc_model.specs.Rights.{is_receive}
use Rattle.mrc_model.specs.Map.{get}
use Rattle.mrc_model.specs.Wiring.{Wiring}
use Rattle.mrc_model.specs.World.{Space, Store, World, space, set_space, set_port}
use Rattle.mrc_model.specs.Reply.{DeniedBy, Try, ◌>>=◌, ◌>>◌, check, or_refuse}
use Rattle.mrc_model.specs.Trust.{may_on}
use Rattle.mrc_model.specs.Target.{with_store, bad_name}
use Rattle.mrc_model.specs.Space.{restart_if, insert_at}
use Rattle.mrc_names.specs.Takes.{take_right}

-- the store after a right on p went from t, which keeps x, to u, which then has y: t and u may be
-- one task, and y is the space that it has in the end
abbrev pub moved : Store → ℕ → Space → ℕ → PortRight → ℕ → Space → Store
moved s t x p right u y = set_space (restart_if (is_receive right) (set_space s t x) p) u y

-- the world after the limit of a port's queue was set; refused where there is no such port
unfoldable pub limited : World → ℕ → ℕ → Try World
limited w p limit = do
  x ← or_refuse (get w.store.ports p) bad_name
  Ok (with_store w (set_port w.store p (record x { limit = limit })))

-- the space of u, once t's is x
abbrev pub space_beside : Store → ℕ → ℕ → Space → Space
space_beside s t u x = if u == t then x else space s u

-- the world after a right that a name n of t gives went under a name of u, which t has to be
-- trusted to give: t and u may be one task
unfoldable pub with_moved : Wiring → World → ℕ → ℕ → Disp → ℕ → ℕ → Try World
with_moved W w t n x u name = do
  got ← take_right (space w.store t) n x
  check (may_on W w Gives t u (RightItem got.1 (given x))) (DeniedBy NotGiven)
  y ← insert_at (space_beside w.store t u got.0) name got.1 (given x)
  Ok (with_store w (moved w.store t got.0 got.1 (given x) u y))
