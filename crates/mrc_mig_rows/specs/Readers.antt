-- Step. What the readers of rows and files hold, without where it lies in memory.
use Rattle.std.specs.Prelude.{map, option_map}
use Rattle.mrc_mig_types.specs.Table.{known}
use Rattle.mrc_mig_rows.specs.declared.file.File.{File}
use Rattle.mrc_mig_rows.specs.declared.file.Statements.{Statements}
use Rattle.mrc_mig_rows.specs.declared.rows.Context.{Context}
use Rattle.mrc_mig_rows.specs.Declarations.{unread_of}
use Rattle.mrc_mig_rows.specs.Files.{State, FileSays}
use Rattle.mrc_mig_rows.specs.Headings.{subsystem_of}
use Rattle.mrc_mig_rows.specs.Names.{names_of}
use Rattle.mrc_mig_rows.specs.Rows.{row_of, Where}

-- what a file knows where a row stands
abbrev pub where_of : Context → Where
where_of context = record {
  types = known context.types.now;
  names = names_of context.names.now;
  by = context.by;
  taken = context.taken;
  id = context.id;
}

-- what the statements so far say
abbrev pub state_of : Statements → State
state_of said = record {
  types = known said.types;
  heading = option_map subsystem_of said.heading;
  taken = said.taken;
  names = names_of said.names;
  rows = map row_of said.rows.items;
  unread = map unread_of said.unread.items;
}

-- what a file says
abbrev pub file_of : File → FileSays
file_of file = record {
  heading = subsystem_of file.heading;
  ids = file.ids;
  rows = map row_of file.rows.items;
  unread = map unread_of file.unread.items;
}
