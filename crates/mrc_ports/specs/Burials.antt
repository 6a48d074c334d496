-- Believe. Only `buried`: what the death of ports leaves. From Mach 3 Kernel Interfaces,
-- mach_port_destroy.
use Rattle.std.specs.Prelude.{ℕ, List, Option, Some, None, map, if◌then◌else◌}
use Rattle.mrc_model.specs.Map.{alter_all}
use Rattle.mrc_model.specs.World.{Space, Port}
use Rattle.mrc_model.specs.Death.{has, perished_entry, perished_parcel, perished_backup}
use Rattle.mrc_model.specs.Death.{perished_port}
use Rattle.mrc_ports.specs.Tables.{Table}

-- a port that stays, where these are dead
abbrev pub left_of : List ℕ → Port → Port
left_of dead x =
    record x { queue = map (perished_parcel dead) x.queue; backup = perished_backup dead x.backup }

-- a space, where these ports are dead
abbrev pub left_names : List ℕ → Space → Space
left_names dead x = alter_all (λ n e. perished_entry dead e) x

-- a port that is none of these
abbrev pub without : List ℕ → ℕ → Port → Option Port
without dead p x = if has dead p then None else Some x

-- the table without these ports
abbrev pub buried : List ℕ → Table → Table
buried dead t = record t { ports = alter_all (perished_port dead) t.ports }
