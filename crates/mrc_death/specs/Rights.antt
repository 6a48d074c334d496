-- Step. Lists of rights. A step of a proof.
use Rattle.std.specs.Prelude.{List}
use Rattle.mrc_model.specs.World.{Held, Port, queue_rights}

-- the rights that are queued on a port
abbrev pub rights_in : Port → List Held
rights_in x = queue_rights x.queue
