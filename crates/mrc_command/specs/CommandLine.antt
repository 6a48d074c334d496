-- Believe. The options of each command, and the line printed when there are no words. This
-- profile's own choice.
use Rattle.std.specs.Prelude.{◌≡◌, ◌⊎◌, ◌&&◌, ℕ, Bool, true, false, List, [], ◌∷◌, Some, codes, map}
use Rattle.std.specs.Prelude.{bytes_eq, if◌then◌else◌, string_bytes}
use Rattle.std.specs.List.{list_any}
use Rattle.std.specs.declared.io.ErrorKind.{ErrorKind}
use Rattle.std.specs.declared.io.ErrorKind.TheVariants.{InvalidData}
use Rattle.clap.specs.Words.{App, Rule, Text, new_app, new_rule, with_rule, with_subcommand}
use Rattle.clap.specs.Words.{fault_of, IsAmong}
use Rattle.clap.specs.Simple.{on_top}
use Rattle.clap.specs.declared.builder.command.Command.{Command}
use Rattle.clap.specs.declared.builder.command.Command.TheViews.{out-Command}
use Rattle.clap.specs.declared.builder.action.ArgAction.TheVariants.{Set, SetTrue, Append}
use Rattle.clap.specs.declared.builder.value_parser.ValueParser.TheVariants.{Unsigned}
use Rattle.clap.specs.declared.error.kind.ErrorKind.{ErrorKind as ClapKind}
use Rattle.clap.specs.declared.error.kind.ErrorKind.TheVariants.{DisplayHelp, DisplayVersion}
use Rattle.mrc_command.specs.declared.words.WordsFault.{WordsFault}
use Rattle.mrc_command.specs.declared.words.WordsFault.TheVariants.{NotUtf8, Memory}
use Rattle.mrc_command.specs.declared.command.NoCommand.{NoCommand}
use Rattle.mrc_command.specs.declared.command.NoCommand.TheVariants.{Told as TextTold}
use Rattle.mrc_command.specs.declared.command.NoCommand.TheVariants.{Memory as NoMemory}
use Rattle.mrc_command.specs.declared.table.Kind.{Kind}
use Rattle.mrc_command.specs.declared.table.Kind.TheVariants.{Needed, Free, Number, Flag, Words}
use Rattle.mrc_command.specs.declared.table.Kind.TheVariants.{NeededWords}
use Rattle.mrc_command.specs.declared.table.TheConstants.{COMMANDS}
use Rattle.mrc_command.specs.Lines.{memory_line}

-- why the words of the command line can't be had, by the kind of the system's error
abbrev pub words_fault : ErrorKind → WordsFault
words_fault InvalidData = NotUtf8
words_fault kind = Memory

-- the line that is printed of it
abbrev pub words_line : WordsFault → List ℕ
words_line NotUtf8 = codes "machcheck: arguments: NotUtf8\n"
words_line Memory = memory_line

-- A word of the system's as `clap` reads it: `--strict=rights` is an option of its own. An option
-- that may have a value or none is none of those of which `clap` says what words ask for.
abbrev pub spelled : List ℕ → List ℕ
spelled word = if bytes_eq word (codes "--strict=rights") then codes "--strict-rights" else word

-- the table: the name of each command, with its options: their names, and how each is given
abbrev pub commands : List (Text × List (Text × Kind))
commands = map (λ entry. (entry.0.now, map (λ row. (row.0.now, row.1)) entry.3.now)) COMMANDS

-- whether the command of this name has the option of this name
abbrev pub has_option : Text → Text → Bool
has_option name option = list_any (λ command. bytes_eq command.0 name
    && list_any (λ row. bytes_eq row.0 option) command.1) commands

-- an option with one value, which need not be given
abbrev pub free_rule : Text → Rule
free_rule name = record (new_rule name) { long = Some name; value_names = 1; action = Some Set }

-- words without an option's name, as many as there are
abbrev pub words_rule : Text → Rule
words_rule name = record (new_rule name) { value_names = 1; action = Some Append }

-- what `clap` reads of an option of this name; of a number it refuses a word that is none
abbrev pub rule_of_kind : Kind → Text → Rule
rule_of_kind Needed name = record (free_rule name) { required = true }
rule_of_kind Free name = free_rule name
rule_of_kind Number name = record (free_rule name) {
  parser = Some (Unsigned 0 18446744073709551615);
}
rule_of_kind Flag name = record (new_rule name) { long = Some name; action = Some SetTrue }
rule_of_kind Words name = words_rule name
rule_of_kind NeededWords name = record (words_rule name) { required = true }

-- the same of an option of the table
abbrev pub rule_of_option : Text × Kind → Rule
rule_of_option option = rule_of_kind option.1 option.0

-- a command with these options too, in their order
abbrev pub with_rules : App → List Rule → App
with_rules app [] = app
with_rules app (rule ∷ rules) = with_rules (with_rule app rule) rules

-- a command of the table
abbrev pub command_app : Text × List (Text × Kind) → App
command_app command = with_rules (new_app command.0) (map rule_of_option command.1)

-- no option of the command holds for its subcommands too
abbrev pub HasNoGlobals : Command → Type 0
HasNoGlobals command = (out-Command command).has_globals ≡ false

-- the program alone: it has a version, and a command has to be named
abbrev pub bare_app : App
bare_app =
    on_top (λ top. record top {
      has_version = true;
      subcommand_required = true;
      arg_required_else_help = true;
    })
    (new_app (codes "machcheck"))

-- a program with these commands too, in their order
abbrev pub with_commands : App → List App → App
with_commands app [] = app
with_commands app (command ∷ commands) =
    with_commands (with_subcommand app command.top) commands

-- the program and its commands
abbrev pub machcheck_app : App
machcheck_app = with_commands bare_app (map command_app commands)

-- the words ask for help or for the version, as `clap` reads them; then they are no command
abbrev pub AsksHelp : List Text → Type 0
AsksHelp words = IsAmong DisplayHelp (fault_of machcheck_app words)
    ⊎ IsAmong DisplayVersion (fault_of machcheck_app words)

-- what is printed of an error of `clap`: help and the version, with status 0, on standard output;
-- all else, with status 2, on standard error; or it is out of memory
abbrev pub TellsError : ClapKind → NoCommand → Type 0
TellsError kind (TextTold told) =
    ((told.status ≡ 0) × (string_bytes told.err ≡ []) × ((kind ≡ DisplayHelp)
    ⊎ (kind ≡ DisplayVersion)))
    ⊎ ((told.status ≡ 2) × (string_bytes told.out ≡ []))
TellsError kind NoMemory = Unit {0}

-- what the reader of a command line returns instead of a command: with status 0 a text for
-- standard output, only if the words ask for help or the version; with status 2 a text for standard
-- error; or out of memory
abbrev pub IsNoCommand : List Text → NoCommand → Type 0
IsNoCommand words (TextTold told) =
    ((told.status ≡ 0) × (string_bytes told.err ≡ []) × AsksHelp words)
    ⊎ ((told.status ≡ 2) × (string_bytes told.out ≡ []))
IsNoCommand words NoMemory = Unit {0}
