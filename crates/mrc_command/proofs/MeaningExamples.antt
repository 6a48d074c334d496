-- What words of command lines mean, by computation.
use Rattle.std.proofs.Common.{◌≡◌, ◌==◌, ℕ, Bool, true, false, List, [], ◌∷◌, ◌++◌, Option, Some}
use Rattle.std.proofs.Common.{None, codes, map, refl, if◌then◌else◌}
use Rattle.std.specs.Prelude.{flat_map, unwrap_or}
use Rattle.std.specs.Option.{option_map}
use Rattle.clap.specs.Words.{Kinds, Row, Text, fault_of, first_of, subcommand_of, takes}
use Rattle.clap.specs.declared.error.kind.ErrorKind.TheVariants.{ArgumentConflict}
use Rattle.clap.specs.declared.error.kind.ErrorKind.TheVariants.{MissingRequiredArgument}
use Rattle.clap.specs.declared.error.kind.ErrorKind.TheVariants.{UnknownArgument, ValueValidation}
use Rattle.clap.proofs.OnLiterals.{clap_on_literals}
use Rattle.mrc_words.specs.Numbers.{number_of_word}
use Rattle.mrc_command.specs.CommandLine.{commands, machcheck_app}
use Rattle.mrc_command.specs.Meaning.{all_values, format_given, has_flag, has_format}
use Rattle.mrc_command.specs.Meaning.{number_given}
use Rattle.mrc_command.specs.declared.command.Format.{Format}
use Rattle.mrc_command.specs.declared.command.Format.TheVariants.{Text as Plain, Json, Sarif}
use Rattle.mrc_command.specs.declared.table.Kind.{Kind}
use Rattle.mrc_command.specs.declared.table.Kind.TheVariants.{Needed, Free, Number, Flag, Words}
use Rattle.mrc_command.specs.declared.table.Kind.TheVariants.{NeededWords}

-- an option as it is written below: `=` has a value, `=N` a number that `clap` reads
abbrev usage_of : Kind → Text → List ℕ
usage_of Needed name = name ++ codes "="
usage_of Free name = codes "[" ++ (name ++ codes "=]")
usage_of Number name = codes "[" ++ (name ++ codes "=N]")
usage_of Flag name = codes "[" ++ (name ++ codes "]")
usage_of Words name = name ++ codes "*"
usage_of NeededWords name = name ++ codes "+"

-- a command as it is written
abbrev usage : Text × List (Text × Kind) → List ℕ
usage command =
    command.0 ++ flat_map (λ option. codes " " ++ usage_of option.1 option.0) command.1

-- the whole table
all_commands : map usage commands
    ≡ codes "verify wiring= policy= [tree] [brief] [line=] [waive] [format=] [verbose] defs*"
    ∷ codes "mend wiring= policy= [line=] [waive] [most=] [format=] [verbose] defs*"
    ∷ codes "attack wiring= policy= [line=] [waive] [most=] [format=] [verbose] defs*"
    ∷ codes "check wiring= policy= cert= [waive] [format=] [verbose] defs*"
    ∷ codes "make wiring= out= [workers=N] [verbose] defs*"
    ∷ codes "explain wiring= fact= [by] [format=] [verbose] defs*"
    ∷ codes "facts wiring= [cert=] [task=] [class=] [right=] [format=] [verbose] defs*"
    ∷ codes "graph wiring= [cert=] [policy=] [fact=] [task=] [holds] [format=] [verbose] defs*"
    ∷ codes "slots wiring= [format=] [verbose] defs*"
    ∷ codes "promises wiring= [format=] [verbose] defs*"
    ∷ codes "expand wiring= [verbose] defs*"
    ∷ codes "replay wiring= script= [format=] [verbose] defs*"
    ∷ codes "live wiring= policy= cert= script= [format=] [verbose] defs*"
    ∷ codes "mig out= [strict] [strict-rights] [as-received] [format=] [verbose] defs+"
    ∷ codes "encode message= [verbose] defs*"
    ∷ codes "decode hex= [verbose] defs*"
    ∷ []
all_commands = refl

-- a byte before the first of texts
abbrev before_first : ℕ → List Text → List Text
before_first byte [] = (byte ∷ []) ∷ []
before_first byte (text ∷ texts) = (byte ∷ text) ∷ texts

-- what is between the blanks of a text
abbrev words_in : List ℕ → List Text
words_in [] = [] ∷ []
words_in (byte ∷ bytes) =
    if byte == 32 then [] ∷ words_in bytes else before_first byte (words_in bytes)

-- the words of a command line
abbrev line : List ℕ → List Text
line text = codes "machcheck" ∷ words_in text

-- the name of the subcommand, and what is read of its rows
abbrev given : {T : Type 0} → (List Row → T) → List ℕ → Option (Text × T)
given read text =
    option_map (λ asked. (asked.0, read asked.1)) (subcommand_of machcheck_app (line text))

-- options and MIG files in any order, and a flag
abbrev check_line : List ℕ
check_line = codes "check --policy p a --verbose --cert=c b --wiring w"

check_files : given (λ rows. map (λ name. first_of name rows)
    (codes "wiring" ∷ codes "policy" ∷ codes "cert" ∷ codes "script" ∷ [])) check_line
    ≡ Some (codes "check", Some (codes "w") ∷ Some (codes "p") ∷ Some (codes "c") ∷ None ∷ [])
unfolding clap_on_literals
check_files = refl

check_defs : given {T = List Text × Bool}
    (λ rows. (all_values (codes "defs") rows, has_flag (codes "verbose") rows)) check_line
    ≡ Some (codes "check", (codes "a" ∷ codes "b" ∷ [], true))
unfolding clap_on_literals
check_defs = refl

-- a flag that is not given
explain_by : given (has_flag (codes "by")) (codes "explain --fact f --wiring w")
    ≡ Some (codes "explain", false)
unfolding clap_on_literals
explain_by = refl

-- a number that is given, and one that is not
attack_numbers : given {T = Option ℕ × ℕ} (λ rows. (
  number_given (first_of (codes "line") rows),
  unwrap_or (number_given (first_of (codes "most") rows)) 30,
))
    (codes "attack --line 7 --wiring w --policy p") ≡ Some (codes "attack", (Some 7, 30))
unfolding clap_on_literals number_of_word
attack_numbers = refl

-- flags, and a number behind `=` that is none
verify_flags : given {T = List Bool × Option ℕ} (λ rows. (
  map (λ name. has_flag name rows)
      (codes "tree" ∷ codes "brief" ∷ codes "verbose" ∷ []),
  number_given (first_of (codes "line") rows),
))
    (codes "verify --brief --line=3a --wiring w --policy p")
    ≡ Some (codes "verify", (false ∷ true ∷ false ∷ [], Some 0))
unfolding clap_on_literals number_of_word
verify_flags = refl

-- what is waived is let pass, and not
verify_waives : given (has_flag (codes "waive")) (codes "verify --waive --wiring w --policy p")
    ≡ Some (codes "verify", true)
unfolding clap_on_literals
verify_waives = refl

check_waives_not : given (has_flag (codes "waive")) check_line ≡ Some (codes "check", false)
unfolding clap_on_literals
check_waives_not = refl

slots_waive_not : given (has_flag (codes "waive")) (codes "slots --wiring w --waive")
    ≡ Some (codes "slots", false)
unfolding clap_on_literals
slots_waive_not = refl

-- what is drawn
graph_task : given {T = Option Text × Bool}
    (λ rows. (first_of (codes "task") rows, has_flag (codes "holds") rows))
    (codes "graph --wiring w --task t --holds") ≡ Some (codes "graph", (Some (codes "t"), true))
unfolding clap_on_literals
graph_task = refl

-- the words mean a subcommand, and `clap` takes them
abbrev is_taken : List ℕ → Bool
is_taken text = takes machcheck_app (line text)

-- the format that a subcommand is given, and whether it has this format
abbrev format : List ℕ → Option (Text × (Format × Bool))
format text = option_map (λ asked. (asked.0, (format_given asked.1, has_format asked.0 asked.1)))
    (subcommand_of machcheck_app (line text))

check_json : format (codes "check --format json --wiring w --policy p --cert c")
    ≡ Some (codes "check", (Json, true))
unfolding clap_on_literals
check_json = refl

verify_sarif : format (codes "verify --wiring w --policy p --format=sarif")
    ≡ Some (codes "verify", (Sarif, true))
unfolding clap_on_literals
verify_sarif = refl

-- only `verify` has this format, but `clap` takes the words
mend_sarif : format (codes "mend --wiring w --policy p --format=sarif")
    ≡ Some (codes "mend", (Sarif, false))
unfolding clap_on_literals
mend_sarif = refl

mend_taken : is_taken (codes "mend --wiring w --policy p --format=sarif") ≡ true
unfolding clap_on_literals
mend_taken = refl

-- no command has this one
verify_xml : format (codes "verify --wiring w --policy p --format xml")
    ≡ Some (codes "verify", (Plain, false))
unfolding clap_on_literals
verify_xml = refl

-- each has it if it is not named
slots_text : format (codes "slots --wiring w a --verbose") ≡ Some (codes "slots", (Plain, true))
unfolding clap_on_literals
slots_text = refl

replay_json : format (codes "replay --wiring w --format=json --script s")
    ≡ Some (codes "replay", (Json, true))
unfolding clap_on_literals
replay_json = refl

mig_text : format (codes "mig --out o --format=text a") ≡ Some (codes "mig", (Plain, true))
unfolding clap_on_literals
mig_text = refl

-- what `clap` refuses: an option that is named twice, one that the command does not have, one that
-- has to be given, and a number that is none
abbrev faults : List ℕ → Kinds
faults text = fault_of machcheck_app (line text)

twice : faults (codes "mig --format=json --out o --format=text a") ≡ ArgumentConflict ∷ []
unfolding clap_on_literals
twice = refl

unknown : faults (codes "make --out c --format=json --wiring w") ≡ UnknownArgument ∷ []
unfolding clap_on_literals
unknown = refl

unknown_waive : faults (codes "slots --wiring w --waive") ≡ UnknownArgument ∷ []
unfolding clap_on_literals
unknown_waive = refl

missing : faults (codes "check --wiring w --policy p") ≡ MissingRequiredArgument ∷ []
unfolding clap_on_literals
missing = refl

no_number : faults (codes "make --wiring w --out c --workers many") ≡ ValueValidation ∷ []
unfolding clap_on_literals
no_number = refl
