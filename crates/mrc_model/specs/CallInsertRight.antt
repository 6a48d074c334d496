-- Believe. Moving rights between tasks. From Mach 3 Kernel Interfaces, mach_port_insert_right and
-- mach_port_extract_right. The order of the refusals is this profile's own choice.
use Rattle.std.specs.Prelude.{ℕ, ◌||◌, Ok}
use Rattle.mrc_base.specs.declared.Disp.{Disp}
use Rattle.mrc_base.specs.Disposition.{given}
use Rattle.mrc_model.specs.declared.Item.TheVariants.{Right as RightItem}
use Rattle.mrc_model.specs.declared.Code.TheVariants.{KernInvalidTask, KernInvalidValue}
use Rattle.mrc_model.specs.declared.Code.TheVariants.{KernInvalidCapability, KernNoSpace}
use Rattle.mrc_model.specs.declared.Denied.TheVariants.{NotTaken, NotGiven}
use Rattle.mrc_model.specs.declared.Verb.TheVariants.{Takes, Gives}
use Rattle.mrc_model.specs.Map.{get}
use Rattle.mrc_model.specs.Wiring.{Wiring}
use Rattle.mrc_model.specs.World.{World, space, set_space}
use Rattle.mrc_model.specs.Reply.{Reply, Done, Name, Refused, DeniedBy, Try, ◌>>=◌, ◌>>◌, check}
use Rattle.mrc_model.specs.Reply.{refuse_if}
use Rattle.mrc_model.specs.Trust.{may_on}
use Rattle.mrc_model.specs.Space.{take, give_item, is_full, insert_at}
use Rattle.mrc_model.specs.Target.{is_reserved, with_store, target, bad_name, wrong_right}
use Rattle.mrc_model.specs.CallSend.{dead_taken, is_dead_taken}

-- a right of the caller is put under a name of u, which the caller has to be trusted to give
unfoldable pub call_insert_right : Wiring → World → ℕ → ℕ → ℕ → ℕ → Disp → Try (World × Reply)
call_insert_right W w t task name right x = do
  u ← target w t task KernInvalidTask
  refuse_if (is_reserved name) (Refused KernInvalidValue)
  refuse_if (is_reserved right || is_dead_taken (dead_taken (get (space w.store t) right) x))
      (Refused KernInvalidCapability)
  (s1, p) ← take w.store t right x bad_name wrong_right
  check (may_on W w Gives t u (RightItem p (given x))) (DeniedBy NotGiven)
  y ← insert_at (space s1 u) name p (given x)
  Ok (with_store w (set_space s1 u y), Done)

-- a right of u is given to the caller, which has to be trusted to take it; a full space takes none,
-- also where it would join an entry
unfoldable pub call_extract_right : Wiring → World → ℕ → ℕ → ℕ → Disp → Try (World × Reply)
call_extract_right W w t task name x = do
  u ← target w t task KernInvalidTask
  (s1, p) ← take w.store u name x bad_name wrong_right
  check (may_on W w Takes t u (RightItem p (given x))) (DeniedBy NotTaken)
  refuse_if (is_full (space s1 t)) (Refused KernNoSpace)
  let got = give_item s1 t (RightItem p (given x))
  Ok (with_store w got.0, Name got.1)
