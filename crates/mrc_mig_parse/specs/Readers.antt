-- Step. What the readers hold. What the readers hold, without places in the text and in memory.
use Rattle.std.specs.Prelude.{map}
use Rattle.mrc_mig_parse.specs.declared.arguments.Written.{Written}
use Rattle.mrc_mig_parse.specs.declared.file.File.{File}
use Rattle.mrc_mig_parse.specs.Arguments.{Parameter}
use Rattle.mrc_mig_parse.specs.Files.{State}
use Rattle.mrc_mig_parse.specs.Meanings.{row_of}

-- an argument that was read
abbrev pub parameter_of : Written → Parameter
parameter_of w = record {
  name = w.name.now;
  direction = w.direction;
  shape = w.shape;
  type_name = w.type_name.now;
}

-- what the statements so far have declared
abbrev pub state_of : File → State
state_of file = record {
  types = file.types;
  has_table = file.has_table;
  rows = map row_of file.entries.items;
}
