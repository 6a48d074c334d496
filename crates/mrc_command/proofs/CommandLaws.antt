-- From what clap says of its matches and errors to what the reader of a command line says.
use Rattle.std.proofs.Common.{◌≡◌, ◌⊎◌, List, [], Option, true, false, sym, ◌∙◌, ap, ap₂, subst, inl}
use Rattle.std.proofs.Common.{inr, refl, ℕ, ◌+◌, ◌<◌, ◌≤◌, ◌∷◌, ◌++◌, length, map, take}
use Rattle.std.proofs.Math.ListN.{get_or}
use Rattle.std.proofs.lemmas.List.{map_more, take_all}
use Rattle.std.proofs.lemmas.Simd.{map-map}
use Rattle.std.specs.Prelude.{IsSomeAnd, unwrap_or}
use Rattle.std.specs.Option.{option_map}
use Rattle.clap.proofs.WalkLemmas.{raw_values-rows}
use Rattle.clap.specs.Words.{App, Text, fault_of, IsAmong, HasMatchesOf, is_simple, rows_of}
use Rattle.clap.specs.Words.{matched_of, raw_values, subcommand_of, subcommand_rows_of}
use Rattle.clap.specs.Words.{with_subcommand, with_rule, Row, Rule}
use Rattle.clap.specs.declared.parser.matches.ArgMatches.{ArgMatches}
use Rattle.clap.specs.declared.parser.matches.Found.{Found}
use Rattle.clap.specs.declared.error.kind.ErrorKind.{ErrorKind as ClapKind}
use Rattle.clap.specs.declared.error.kind.ErrorKind.TheVariants.{OutOfMemory, DisplayHelp}
use Rattle.clap.specs.declared.error.kind.ErrorKind.TheVariants.{DisplayVersion}
use Rattle.mrc_command.specs.declared.command.NoCommand.{NoCommand}
use Rattle.mrc_command.specs.declared.command.NoCommand.TheVariants.{Told as TextTold}
use Rattle.mrc_command.specs.declared.command.NoCommand.TheVariants.{Memory as NoMemory}
use Rattle.mrc_command.specs.declared.command.Request.{Request}
use Rattle.mrc_command.specs.CommandLine.{machcheck_app, AsksHelp, TellsError, IsNoCommand}
use Rattle.mrc_command.specs.CommandLine.{command_app, rule_of_option, with_commands, with_rules}
use Rattle.mrc_command.specs.declared.table.Kind.{Kind}
use Rattle.mrc_command.specs.Meaning.{IsBadFormatIfTold, IsRefusal, IsRequestOf, Means}
use Rattle.mrc_command.specs.Meaning.{all_values, has_format}

-- a kind that is not out of memory is among those of the program's own words
among : (app : App) (words : List Text) (kind wanted : ClapKind)
    → app ≡ machcheck_app
    → (kind ≡ OutOfMemory) ⊎ IsAmong kind (fault_of app words)
    → kind ≡ wanted
    → (wanted ≡ OutOfMemory → ⊥)
    → IsAmong wanted (fault_of machcheck_app words)
among app words kind wanted same has is other = elim has [
  | inl memory ↦ absurd (other (sym is ∙ memory))
  | inr found ↦ subst (λ (a : App). IsAmong wanted (fault_of a words)) same
      (subst (λ (k : ClapKind). IsAmong k (fault_of app words)) is found)
]

asks_help : (app : App) (words : List Text) (kind : ClapKind)
    → app ≡ machcheck_app
    → (kind ≡ OutOfMemory) ⊎ IsAmong kind (fault_of app words)
    → (kind ≡ DisplayHelp) ⊎ (kind ≡ DisplayVersion)
    → AsksHelp words
asks_help app words kind same has is = elim is [
  | inl help ↦ inl (among app words kind DisplayHelp same has help (λ e. absurd cc))
  | inr version ↦ inr (among app words kind DisplayVersion same has version (λ e. absurd cc))
]

-- what is told of an error of clap is no command
pub read_told : (app : App) (words : List Text) (kind : ClapKind) (result : NoCommand)
    → app ≡ machcheck_app
    → (kind ≡ OutOfMemory) ⊎ IsAmong kind (fault_of app words)
    → TellsError kind result
    → IsNoCommand words result
read_told app words kind NoMemory same has tells = tt
read_told app words kind (TextTold told) same has tells = elim tells [
  | inl asked ↦ inl (asked.0, asked.1, asks_help app words kind same has asked.2)
  | inr fault ↦ inr fault
]

-- one more option, after others
rules_then : (app : App) (rules : List Rule) (rule : Rule)
    → with_rules app (rules ++ rule ∷ []) ≡ with_rule (with_rules app rules) rule
rules_then app [] rule = refl
rules_then app (first ∷ rules) rule = rules_then (with_rule app first) rules rule

-- a turn of the loop over the rows of a command, and its end
pub next_rule : {X : Type 0} (f : X → Rule) (app : App) {before made : App} {rule : Rule}
    → (xs : List X) (i : ℕ) (d : X) → i < length xs
    → before ≡ with_rules app (map f (take i xs))
    → rule ≡ f (get_or xs i d)
    → made ≡ with_rule before rule
    → made ≡ with_rules app (map f (take (i + 1) xs))
next_rule f app xs i d below was is makes =
    makes ∙ ap₂ (λ (a : App) (r : Rule). with_rule a r) was is
    ∙ sym (rules_then app (map f (take i xs)) (f (get_or xs i d)))
    ∙ ap (λ (rules : List Rule). with_rules app rules) (sym (map_more f xs i d below))

pub all_rules : {X : Type 0} (g : X → Text × Kind) (app : App) {made : App}
    → (xs : List X) (i : ℕ) → length xs ≤ i
    → made ≡ with_rules app (map (λ x. rule_of_option (g x)) (take i xs))
    → made ≡ with_rules app (map rule_of_option (map g xs))
all_rules g app xs i all is =
    is ∙ ap (λ (rules : List Rule). with_rules app rules)
    (ap (map (λ x. rule_of_option (g x))) (take_all i xs all) ∙ sym (map-map rule_of_option g xs))

-- one more command, after others
commands_then : (app : App) (commands : List App) (command : App)
    → with_commands app (commands ++ command ∷ [])
    ≡ with_subcommand (with_commands app commands) command.top
commands_then app [] command = refl
commands_then app (first ∷ commands) command =
    commands_then (with_subcommand app first.top) commands command

-- a turn of the loop over the table, and its end
pub next_command : {X : Type 0} (f : X → App) (app : App) {before made command : App}
    → (xs : List X) (i : ℕ) (d : X) → i < length xs
    → before ≡ with_commands app (map f (take i xs))
    → command ≡ f (get_or xs i d)
    → made ≡ with_subcommand before command.top
    → made ≡ with_commands app (map f (take (i + 1) xs))
next_command f app xs i d below was is makes =
    makes ∙ ap₂ (λ (a b : App). with_subcommand a b.top) was is
    ∙ sym (commands_then app (map f (take i xs)) (f (get_or xs i d)))
    ∙ ap (λ (commands : List App). with_commands app commands) (sym (map_more f xs i d below))

pub all_commands : {X : Type 0} (g : X → Text × List (Text × Kind)) (app : App) {made : App}
    → (xs : List X) (i : ℕ) → length xs ≤ i
    → made ≡ with_commands app (map (λ x. command_app (g x)) (take i xs))
    → made ≡ with_commands app (map command_app (map g xs))
all_commands g app xs i all is =
    is ∙ ap (λ (commands : List App). with_commands app commands)
    (ap (map (λ x. command_app (g x))) (take_all i xs all) ∙ sym (map-map command_app g xs))

-- the values that the matches give for an id are those of its rows
pub values_in_rows : (found : Found) (id : Text) (texts : Option (List Text))
    → texts ≡ option_map raw_values (matched_of found id)
    → unwrap_or texts [] ≡ all_values id (rows_of found)
values_in_rows found id texts is =
    ap (λ (o : Option (List Text)). unwrap_or o []) (is ∙ raw_values-rows found id)

simple : is_simple machcheck_app ≡ true
simple = refl

-- the subcommand that clap matched is that of the words
pub matched : (app : App) (words : List Text) (matches : ArgMatches)
    → app ≡ machcheck_app
    → HasMatchesOf app words matches
    → subcommand_rows_of matches ≡ subcommand_of machcheck_app words
matched app words matches same has =
    (subst (λ (a : App). HasMatchesOf a words matches) same has simple).1

-- its request is what the words mean
pub meaning : (app : App) (words : List Text) (matches : ArgMatches) (request : Request)
    → app ≡ machcheck_app
    → HasMatchesOf app words matches
    → IsSomeAnd (subcommand_rows_of matches) (λ given. IsRequestOf given.0 given.1 request)
    → Means words request
meaning app words matches request same has is =
    subst (λ (o : Option (Text × List Row)).
    IsSomeAnd o (λ given. IsRequestOf given.0 given.1 request))
    (matched app words matches same has) is

-- its refusal is that of the words
pub refused : (app : App) (words : List Text) (matches : ArgMatches) (none : NoCommand)
    → app ≡ machcheck_app
    → HasMatchesOf app words matches
    → IsRefusal (subcommand_rows_of matches) none
    → IsRefusal (subcommand_of machcheck_app words) none
refused app words matches none same has is =
    subst (λ (o : Option (Text × List Row)). IsRefusal o none) (matched app words matches same has)
    is

-- a refusal is no command
pub no_command : (given : Option (Text × List Row)) (words : List Text) (none : NoCommand)
    → IsRefusal given none → IsNoCommand words none
no_command given words NoMemory is = tt
no_command given words (TextTold told) is = inr (is.1.status, is.1.out)

-- out of memory refuses any words
pub memory_refuses : (given : Option (Text × List Row)) (none : NoCommand) → none ≡ NoMemory
    → IsRefusal given none
memory_refuses given none is = subst (λ (n : NoCommand). IsRefusal given n) (sym is) tt

-- and a bad format refuses those that have one
pub format_refuses : (given : Option (Text × List Row)) (none : NoCommand)
    → IsSomeAnd given (λ asked. has_format asked.0 asked.1 ≡ false)
    → IsBadFormatIfTold none → IsRefusal given none
format_refuses given NoMemory other is = tt
format_refuses given (TextTold told) other is = (other, is)
