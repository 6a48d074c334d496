-- What a command is called and how it is answered are what its words say.
use Rattle.std.proofs.Common.{◌≡◌, ◌∙◌, true, false, ap, codes, refl, sym}
use Rattle.std.proofs.lemmas.Bool.{false≢true, true≢false}
use Rattle.clap.specs.Words.{Text}
use Rattle.mrc_command.specs.declared.command.Command.TheVariants.{Case, Mig, Message}
use Rattle.mrc_command.specs.declared.command.Turning.{Turning}
use Rattle.mrc_command.specs.declared.command.Turning.TheVariants.{Encode, Decode}
use Rattle.mrc_command.specs.declared.command.Question.TheVariants.{Verify, Mend, Attack, Check}
use Rattle.mrc_command.specs.declared.command.Question.TheVariants.{Make, Explain, Facts, Graph}
use Rattle.mrc_command.specs.declared.command.Question.TheVariants.{Slots, Promises, Expand, Replay}
use Rattle.mrc_command.specs.declared.command.Question.TheVariants.{Live}
use Rattle.mrc_command.specs.CommandLine.{has_option}
use Rattle.mrc_command.specs.Meaning.{NamesItsSubcommand, HasFormatOfOptions}
use Rattle.mrc_command.specs.Meaning.{IsTextWithoutOption, turning_word}

-- two names of which one has the option are not one name
abbrev other : {one two : Text} → one ≡ two → has_option one (codes "format") ≡ true
    → has_option two (codes "format") ≡ true
other same has = sym (ap (λ (n : Text). has_option n (codes "format")) same) ∙ has

abbrev other_none : {one two : Text} → one ≡ two → has_option one (codes "format") ≡ false
    → has_option two (codes "format") ≡ false
other_none same has = sym (ap (λ (n : Text). has_option n (codes "format")) same) ∙ has

-- a subcommand that turns a message has no `--format`
no_format : (turning : Turning) → has_option (turning_word turning) (codes "format") ≡ false
no_format Encode = refl
no_format Decode = refl

pub names_subcommand : NamesItsSubcommand
names_subcommand name rows (Case files (Verify showing)) is = sym is.1.0
names_subcommand name rows (Case files (Mend line most format)) is = sym is.1.0
names_subcommand name rows (Case files (Attack line most format)) is = sym is.1.0
names_subcommand name rows (Case files (Check verbose format)) is = sym is.1.0
names_subcommand name rows (Case files (Make out workers)) is = sym is.1.0
names_subcommand name rows (Case files (Explain fact by format)) is = sym is.1.0
names_subcommand name rows (Case files (Facts task class right format)) is = sym is.1.0
names_subcommand name rows (Case files (Graph fact task holds format)) is = sym is.1.0
names_subcommand name rows (Case files (Slots format)) is = sym is.1.0
names_subcommand name rows (Case files (Promises format)) is = sym is.1.0
names_subcommand name rows (Case files Expand) is = sym is.1
names_subcommand name rows (Case files (Replay format)) is = sym is.1.0
names_subcommand name rows (Case files (Live format)) is = sym is.1.0
names_subcommand name rows (Mig files) is = sym is.0
names_subcommand name rows (Message asked) is = sym is.0

pub format_of_options : HasFormatOfOptions
format_of_options name rows (Case files (Verify showing)) is has = is.1.1.format
format_of_options name rows (Case files (Mend line most format)) is has = is.1.3
format_of_options name rows (Case files (Attack line most format)) is has = is.1.3
format_of_options name rows (Case files (Check verbose format)) is has = is.1.2
format_of_options name rows (Case files (Make out workers)) is has =
    absurd (false≢true (other is.1.0 has))
format_of_options name rows (Case files (Explain fact by format)) is has = is.1.3
format_of_options name rows (Case files (Facts task class right format)) is has = is.1.4
format_of_options name rows (Case files (Graph fact task holds format)) is has = is.1.4
format_of_options name rows (Case files (Slots format)) is has = is.1.1
format_of_options name rows (Case files (Promises format)) is has = is.1.1
format_of_options name rows (Case files Expand) is has = absurd (false≢true (other is.1 has))
format_of_options name rows (Case files (Replay format)) is has = is.1.1
format_of_options name rows (Case files (Live format)) is has = is.1.1
format_of_options name rows (Mig files) is has = is.1.format
format_of_options name rows (Message asked) is has =
    absurd (false≢true (sym (no_format asked.turning) ∙ other is.0 has))

pub text_without_option : IsTextWithoutOption
text_without_option name rows (Case files (Verify showing)) is none =
    absurd (true≢false (other_none is.1.0 none))
text_without_option name rows (Case files (Mend line most format)) is none =
    absurd (true≢false (other_none is.1.0 none))
text_without_option name rows (Case files (Attack line most format)) is none =
    absurd (true≢false (other_none is.1.0 none))
text_without_option name rows (Case files (Check verbose format)) is none =
    absurd (true≢false (other_none is.1.0 none))
text_without_option name rows (Case files (Make out workers)) is none = refl
text_without_option name rows (Case files (Explain fact by format)) is none =
    absurd (true≢false (other_none is.1.0 none))
text_without_option name rows (Case files (Facts task class right format)) is none =
    absurd (true≢false (other_none is.1.0 none))
text_without_option name rows (Case files (Graph fact task holds format)) is none =
    absurd (true≢false (other_none is.1.0 none))
text_without_option name rows (Case files (Slots format)) is none =
    absurd (true≢false (other_none is.1.0 none))
text_without_option name rows (Case files (Promises format)) is none =
    absurd (true≢false (other_none is.1.0 none))
text_without_option name rows (Case files Expand) is none = refl
text_without_option name rows (Case files (Replay format)) is none =
    absurd (true≢false (other_none is.1.0 none))
text_without_option name rows (Case files (Live format)) is none =
    absurd (true≢false (other_none is.1.0 none))
text_without_option name rows (Message asked) is none = refl
text_without_option name rows (Mig files) is none = absurd (true≢false (other_none is.0 none))
