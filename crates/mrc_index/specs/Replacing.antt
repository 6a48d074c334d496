-- Step. Which entries are of one port and kind. This profile's own choice.
use Rattle.std.specs.Prelude.{Bool, false}
use Rattle.mrc_model.specs.declared.Entry.{Entry}
use Rattle.mrc_model.specs.declared.Entry.TheVariants.{Receive as ReceiveEntry, Send as SendEntry}
use Rattle.mrc_model.specs.declared.Entry.TheVariants.{SendOnce as OnceEntry, PortSet as SetEntry}
use Rattle.mrc_model.specs.declared.Entry.TheVariants.{DeadName as DeadEntry}
use Rattle.mrc_model.specs.Space.{is_entry_of}
use Rattle.mrc_index.specs.Names.{is_once_of}

-- both are entries of one port and of one kind
abbrev pub is_like : Entry → Entry → Bool
is_like d (ReceiveEntry p k i) = is_entry_of p d
is_like d (SendEntry p k) = is_entry_of p d
is_like d (OnceEntry p) = is_once_of p d
is_like d SetEntry = false
is_like d (DeadEntry k) = false
