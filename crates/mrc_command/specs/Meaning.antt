-- Believe. Which command the words of a command line ask for.
-- This profile's own choice. `clap` says which subcommand the words name, and which values they
-- give to each of its options: a row for each option that has a value.
use Rattle.std.specs.Prelude.{◌≡◌, ◌&&◌, ◌||◌, ℕ, Bool, true, false, List, [], Option, Some, None}
use Rattle.std.specs.Prelude.{map, string_bytes}
use Rattle.std.specs.Prelude.{codes, bytes_eq, unwrap_or, is_some, if◌then◌else◌, IsSomeAnd}
use Rattle.std.specs.Option.{option_map, option_map_or}
use Rattle.clap.specs.Words.{Row, Text, all_of, first_of, found_of, rows_of, subcommand_of}
use Rattle.clap.specs.declared.parser.matches.ArgMatches.{ArgMatches}
use Rattle.mrc_words.specs.Numbers.{number_of_word}
use Rattle.mrc_command.specs.CommandLine.{has_option, machcheck_app}
use Rattle.mrc_command.specs.Lines.{fault_line}
use Rattle.mrc_command.specs.declared.command.NoCommand.{NoCommand}
use Rattle.mrc_command.specs.declared.command.NoCommand.TheVariants.{Told as TextTold}
use Rattle.mrc_command.specs.declared.command.NoCommand.TheVariants.{Memory as NoMemory}
use Rattle.mrc_command.specs.declared.told.Told.{Told}
use Rattle.mrc_command.specs.declared.command.Command.{Command}
use Rattle.mrc_command.specs.declared.command.Command.TheVariants.{Case, Mig, Message}
use Rattle.mrc_command.specs.declared.command.MessageText.{MessageText}
use Rattle.mrc_command.specs.declared.command.Turning.{Turning}
use Rattle.mrc_command.specs.declared.command.Turning.TheVariants.{Encode, Decode}
use Rattle.mrc_command.specs.declared.command.FileNames.{FileNames}
use Rattle.mrc_command.specs.declared.command.Format.{Format}
use Rattle.mrc_command.specs.declared.command.Format.TheVariants.{Text as Plain, Json, Sarif}
use Rattle.mrc_command.specs.declared.command.MigFiles.{MigFiles}
use Rattle.mrc_command.specs.declared.command.Question.{Question}
use Rattle.mrc_command.specs.declared.command.Question.TheVariants.{Verify, Mend, Attack, Check}
use Rattle.mrc_command.specs.declared.command.Question.TheVariants.{Make, Explain, Facts, Graph}
use Rattle.mrc_command.specs.declared.command.Question.TheVariants.{Slots, Promises, Expand, Replay}
use Rattle.mrc_command.specs.declared.command.Question.TheVariants.{Live}
use Rattle.mrc_command.specs.declared.command.Request.{Request}
use Rattle.mrc_command.specs.declared.command.Showing.{Showing}
use Rattle.mrc_command.specs.declared.command.Strictness.{Strictness}
use Rattle.mrc_command.specs.declared.command.Strictness.TheVariants.{None as Each, Rights, All}

-- what `clap` found of the options of a command
abbrev pub rows : ArgMatches → List Row
rows matches = rows_of (found_of matches)

-- all values of an argument, in their order
abbrev pub all_values : Text → List Row → List Text
all_values name rows = unwrap_or (all_of name rows) []

-- whether an option without a value is given: then its value is `true`
abbrev pub has_flag : Text → List Row → Bool
has_flag name rows = option_map_or (λ text. bytes_eq text (codes "true")) (first_of name rows) false

-- the number that an option has, if it is given: 0 if the text is no number
abbrev pub number_given : Option Text → Option ℕ
number_given given = option_map (λ text. unwrap_or (number_of_word text) 0) given

-- whether the subcommand of this name has the format that this word names: each has text and JSON
abbrev pub is_format : Text → Text → Bool
is_format name word =
    bytes_eq word (codes "text") || (bytes_eq word (codes "json")
    || (bytes_eq word (codes "sarif") && bytes_eq name (codes "verify")))

-- whether it has the format that is given, or none is given
abbrev pub has_format : Text → List Row → Bool
has_format name rows = option_map_or (is_format name) (first_of (codes "format") rows) true

-- the format that a word names, if one is given: text if it names none
abbrev pub format_of : Option Text → Format
format_of None = Plain
format_of (Some word) =
    if bytes_eq word (codes "json") then Json
    else if bytes_eq word (codes "sarif") then Sarif
    else Plain

-- how the answer is to be printed
abbrev pub format_given : List Row → Format
format_given rows = format_of (first_of (codes "format") rows)

-- what may not be left out: nothing, if all are asked for, and else what carries rights, if that is
-- asked for
abbrev pub strictness_of : Bool → Bool → Strictness
strictness_of true rights = All
strictness_of false true = Rights
strictness_of false false = Each

-- the files that the options name, by their roles: the first value of each option, and all MIG
-- files in their order; and whether what the policy waives is let pass
pub record NamesFiles (rows : List Row) (files : FileNames) : Type 0 where
  pub defs : map (λ file. file.now) files.defs.items ≡ all_values (codes "defs") rows
  pub wiring : first_of (codes "wiring") rows ≡ Some files.wiring.now
  pub policy : first_of (codes "policy") rows ≡ option_map (λ file. file.now) files.policy
  pub certificate : first_of (codes "cert") rows ≡ option_map (λ file. file.now) files.certificate
  pub script : first_of (codes "script") rows ≡ option_map (λ file. file.now) files.script
  pub waives : files.waives ≡ has_flag (codes "waive") rows

-- how the answer of `verify` is printed by these options
pub record IsShowing (rows : List Row) (showing : Showing) : Type 0 where
  pub tree : showing.tree ≡ has_flag (codes "tree") rows
  pub brief : showing.brief ≡ has_flag (codes "brief") rows
  pub quotes : showing.quotes ≡ has_flag (codes "verbose") rows
  pub line : showing.line ≡ number_given (first_of (codes "line") rows)
  pub format : showing.format ≡ format_given rows

-- the question that a subcommand of this name asks with these options
abbrev pub Asks : Text → List Row → Question → Type 0
Asks name rows (Verify showing) = (name ≡ codes "verify") × IsShowing rows showing
Asks name rows (Mend line most format) =
    (name ≡ codes "mend") × (line ≡ number_given (first_of (codes "line") rows))
    × (most ≡ unwrap_or (number_given (first_of (codes "most") rows)) 10)
    × (format ≡ format_given rows)
Asks name rows (Attack line most format) =
    (name ≡ codes "attack") × (line ≡ number_given (first_of (codes "line") rows))
    × (most ≡ unwrap_or (number_given (first_of (codes "most") rows)) 30)
    × (format ≡ format_given rows)
Asks name rows (Check verbose format) =
    (name ≡ codes "check") × (verbose ≡ has_flag (codes "verbose") rows)
    × (format ≡ format_given rows)
Asks name rows (Make out workers) =
    (name ≡ codes "make") × (first_of (codes "out") rows ≡ Some out.now)
    × (workers ≡ unwrap_or (number_given (first_of (codes "workers") rows)) 4)
Asks name rows (Explain fact by format) =
    (name ≡ codes "explain") × (first_of (codes "fact") rows ≡ Some fact.now)
    × (by ≡ has_flag (codes "by") rows) × (format ≡ format_given rows)
Asks name rows (Facts task class right format) =
    (name ≡ codes "facts") × (first_of (codes "task") rows ≡ option_map (λ word. word.now) task)
    × (first_of (codes "class") rows ≡ option_map (λ word. word.now) class)
    × (first_of (codes "right") rows ≡ option_map (λ word. word.now) right)
    × (format ≡ format_given rows)
Asks name rows (Graph fact task holds format) =
    (name ≡ codes "graph") × (first_of (codes "fact") rows ≡ option_map (λ text. text.now) fact)
    × (first_of (codes "task") rows ≡ option_map (λ word. word.now) task)
    × (holds ≡ has_flag (codes "holds") rows) × (format ≡ format_given rows)
Asks name rows (Slots format) = (name ≡ codes "slots") × (format ≡ format_given rows)
Asks name rows (Promises format) = (name ≡ codes "promises") × (format ≡ format_given rows)
Asks name rows Expand = name ≡ codes "expand"
Asks name rows (Replay format) = (name ≡ codes "replay") × (format ≡ format_given rows)
Asks name rows (Live format) = (name ≡ codes "live") × (format ≡ format_given rows)

-- the files that a question needs besides the wiring are named
abbrev pub has_files : Question → FileNames → Bool
has_files (Verify showing) files = is_some files.policy
has_files (Mend line most format) files = is_some files.policy
has_files (Attack line most format) files = is_some files.policy
has_files (Check verbose format) files = is_some files.policy && is_some files.certificate
has_files (Replay format) files = is_some files.script
has_files (Live format) files =
    is_some files.policy && (is_some files.certificate && is_some files.script)
has_files question files = true

-- what `mig` is asked
pub record AsksMig (rows : List Row) (files : MigFiles) : Type 0 where
  pub defs : map (λ file. file.now) files.defs.items ≡ all_values (codes "defs") rows
  pub out : first_of (codes "out") rows ≡ Some files.out.now
  pub strict : files.strict
      ≡ strictness_of (has_flag (codes "strict") rows) (has_flag (codes "strict-rights") rows)
  pub received : files.received ≡ has_flag (codes "as-received") rows
  pub format : files.format ≡ format_given rows

-- the subcommand that turns a message this way
abbrev pub turning_word : Turning → Text
turning_word Encode = codes "encode"
turning_word Decode = codes "decode"

-- its option that has the message
abbrev pub turning_option : Turning → Text
turning_option Encode = codes "message"
turning_option Decode = codes "hex"

-- the message that is turned
pub record AsksMessage (rows : List Row) (asked : MessageText) : Type 0 where
  pub defs : map (λ file. file.now) asked.defs.items ≡ all_values (codes "defs") rows
  pub text : first_of (turning_option asked.turning) rows ≡ Some asked.text.now

-- the command that a subcommand of this name is with these options
abbrev pub IsCommandOf : Text → List Row → Command → Type 0
IsCommandOf name rows (Case files question) =
    NamesFiles rows files × Asks name rows question × (has_files question files ≡ true)
IsCommandOf name rows (Mig files) = (name ≡ codes "mig") × AsksMig rows files
IsCommandOf name rows (Message asked) =
    (name ≡ turning_word asked.turning) × AsksMessage rows asked

-- what a subcommand of this name asks for with these options: its command, and whether the place
-- of a fault is shown; the format is one that it has
pub record IsRequestOf (name : Text) (rows : List Row) (request : Request) : Type 0 where
  pub command : IsCommandOf name rows request.command
  pub verbose : request.verbose ≡ has_flag (codes "verbose") rows
  pub format : has_format name rows ≡ true

-- the words mean the request: it is that of the subcommand and the options that they give
abbrev pub Means : List Text → Request → Type 0
Means words request =
    IsSomeAnd (subcommand_of machcheck_app words) (λ given. IsRequestOf given.0 given.1 request)

-- the line of a word of `--format` that is none of the subcommand's
abbrev pub format_line : List ℕ
format_line = fault_line (codes "--format") (codes "BadFormat")

-- this line is printed, and nothing else
pub record IsBadFormat (told : Told) : Type 0 where
  pub status : told.status ≡ 2
  pub out : string_bytes told.out ≡ []
  pub err : string_bytes told.err ≡ format_line

-- it is printed, or memory ran out
abbrev pub IsBadFormatIfTold : NoCommand → Type 0
IsBadFormatIfTold (TextTold told) = IsBadFormat told
IsBadFormatIfTold NoMemory = Unit {0}

-- What is returned instead of a command for this subcommand with its options: that the word of
-- `--format` is none that it has, only if that is so; or that memory ran out.
abbrev pub IsRefusal : Option (Text × List Row) → NoCommand → Type 0
IsRefusal given (TextTold told) =
    IsSomeAnd given (λ asked. has_format asked.0 asked.1 ≡ false) × IsBadFormat told
IsRefusal given NoMemory = Unit {0}

-- the subcommand that asks a question
abbrev pub question_word : Question → List ℕ
question_word (Verify showing) = codes "verify"
question_word (Mend line most format) = codes "mend"
question_word (Attack line most format) = codes "attack"
question_word (Check verbose format) = codes "check"
question_word (Make out workers) = codes "make"
question_word (Explain fact by format) = codes "explain"
question_word (Facts task class right format) = codes "facts"
question_word (Graph fact task holds format) = codes "graph"
question_word (Slots format) = codes "slots"
question_word (Promises format) = codes "promises"
question_word Expand = codes "expand"
question_word (Replay format) = codes "replay"
question_word (Live format) = codes "live"

-- the subcommand of a command
abbrev pub command_word : Command → List ℕ
command_word (Case files question) = question_word question
command_word (Mig files) = codes "mig"
command_word (Message asked) = turning_word asked.turning

-- how the answer to a question is to be printed: as text if its subcommand has no `--format`
abbrev pub question_format : Question → Format
question_format (Verify showing) = showing.format
question_format (Mend line most format) = format
question_format (Attack line most format) = format
question_format (Check verbose format) = format
question_format (Make out workers) = Plain
question_format (Explain fact by format) = format
question_format (Facts task class right format) = format
question_format (Graph fact task holds format) = format
question_format (Slots format) = format
question_format (Promises format) = format
question_format Expand = Plain
question_format (Replay format) = format
question_format (Live format) = format

-- how the answer to a command is to be printed
abbrev pub asked_format : Command → Format
asked_format (Case files question) = question_format question
asked_format (Mig files) = files.format
asked_format (Message asked) = Plain

-- the name of a command is that of the subcommand that it is
abbrev pub NamesItsSubcommand : Type 0
NamesItsSubcommand =
    (name : Text) (rows : List Row) (command : Command) → IsCommandOf name rows command
    → command_word command ≡ name

-- the format of a command is that of its options, if its subcommand has `--format`
abbrev pub HasFormatOfOptions : Type 0
HasFormatOfOptions =
    (name : Text) (rows : List Row) (command : Command) → IsCommandOf name rows command
    → has_option name (codes "format") ≡ true
    → asked_format command ≡ format_given rows

-- if it has none, the command is to be answered by text
abbrev pub IsTextWithoutOption : Type 0
IsTextWithoutOption =
    (name : Text) (rows : List Row) (command : Command) → IsCommandOf name rows command
    → has_option name (codes "format") ≡ false
    → asked_format command ≡ Plain
