-- Believe. The limit of a queue. From Mach 3 Kernel Interfaces, mach_port_set_qlimit. The greatest
-- limit, and the order of refusals are this profile's own choice.
use Rattle.mrc_base.specs.Limits.{limit_of_queue}
use Rattle.std.specs.Prelude.{ℕ, Ok, nat_lt}
use Rattle.mrc_model.specs.declared.Code.TheVariants.{KernInvalidTask, KernInvalidValue}
use Rattle.mrc_model.specs.Map.{get}
use Rattle.mrc_model.specs.World.{World, set_port}
use Rattle.mrc_model.specs.Reply.{Reply, Done, Refused, Try, ◌>>=◌, ◌>>◌, refuse_if, or_refuse}
use Rattle.mrc_model.specs.Target.{with_store, target, bad_name, wrong_right, entry_at}
use Rattle.mrc_model.specs.CallRequestNotification.{received_port}

-- longer queues stay as they are
unfoldable pub call_set_qlimit : World → ℕ → ℕ → ℕ → ℕ → Try (World × Reply)
call_set_qlimit w t task name limit = do
  u ← target w t task KernInvalidTask
  refuse_if (nat_lt limit_of_queue limit) (Refused KernInvalidValue)
  e ← entry_at w u name
  p ← or_refuse (received_port e) wrong_right
  y ← or_refuse (get w.store.ports p) bad_name
  Ok (with_store w (set_port w.store p (record y { limit = limit })), Done)
