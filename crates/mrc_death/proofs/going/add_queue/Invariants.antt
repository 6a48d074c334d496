use Rattle.std.proofs.Common.{◌≡◌, ◌++◌, drop, length}
use Rattle.mrc_model.specs.World.{queue_rights}
use Rattle.mrc_death.proofs.going.add_queue.Given as goal

abbrev pub invariant-loop-message : goal.invariant-loop-message
invariant-loop-message l =
    l.rights.items ++ queue_rights (drop (length l.yielded) l.queue)
    ≡ l.fn.rights.items ++ queue_rights l.queue
