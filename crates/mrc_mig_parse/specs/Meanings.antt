-- Believe. What the values of the code mean. What a subsystem that was read means, whatever lies
-- where in memory.
use Rattle.std.specs.Prelude.{map, string_bytes}
use Rattle.mrc_mig_parse.specs.declared.subsystem.Argument.{Argument}
use Rattle.mrc_mig_parse.specs.declared.subsystem.Entry.{Entry}
use Rattle.mrc_mig_parse.specs.declared.subsystem.Entry.TheVariants as entries
use Rattle.mrc_mig_parse.specs.Arguments.{Item}
use Rattle.mrc_mig_parse.specs.Files.{Row, Routine, SimpleRoutine, Skip}

-- an argument of a routine
abbrev pub item_of : Argument → Item
item_of a = record {
  name = string_bytes a.name;
  direction = a.direction;
  shape = a.shape;
  type_name = string_bytes a.type_name;
}

-- what stands at an id
abbrev pub row_of : Entry → Row
row_of (entries.Routine name arguments) =
    Routine (string_bytes name) (map item_of arguments.items)
row_of (entries.SimpleRoutine name arguments) =
    SimpleRoutine (string_bytes name) (map item_of arguments.items)
row_of entries.Skip = Skip
