-- Believe. Names with the bits of their rights. From Mach 3 Kernel Interfaces, mach_port_names and
-- mach_port_type_t.
use Rattle.std.specs.Prelude.{ℕ, List, map}
use Rattle.mrc_model.specs.declared.Entry.{Entry}
use Rattle.mrc_model.specs.CallNames.{mask_of}
use Rattle.mrc_names.specs.declared.listing.NamedType.{NamedType}

-- a name and its bits
abbrev pub name_of : NamedType → ℕ × ℕ
name_of n = (n.name, n.rights.0)

-- the same for a list
abbrev pub names_of : List NamedType → List (ℕ × ℕ)
names_of ns = map name_of ns

-- the name of an entry and the bits of its rights
abbrev pub entry_name : ℕ × Entry → ℕ × ℕ
entry_name e = (e.0, mask_of e.1)
