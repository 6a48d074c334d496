-- Believe. Which ports lose their receive rights. From Mach 3 Kernel Interfaces, mach_port_destroy.
use Rattle.std.specs.Prelude.{ℕ, Bool, ◌&&◌, ◌++◌}
use Rattle.mrc_model.specs.Map.{keys}
use Rattle.mrc_model.specs.World.{Store}
use Rattle.mrc_model.specs.Death.{Doomed, has, has_receive, queued_rights, dying}

-- the port is live, and its receive right is destroyed by the call, or is on the queue of a port
-- that dies
abbrev pub is_losing : Store → Doomed → ℕ → Bool
is_losing s d p =
    has (keys s.ports) p && has_receive p (d.rights ++ queued_rights s (dying s d))
