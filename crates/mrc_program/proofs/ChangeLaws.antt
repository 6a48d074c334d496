-- Which commands have an answer after which files may have changed.
use Rattle.std.proofs.Common.{◌≡◌, Bool, ℕ, List, refl}
use Rattle.mrc_answer.specs.declared.answers.Answer.{Answer}
use Rattle.mrc_answer.specs.declared.answers.Answer.TheVariants.{Made, Mig, Fault}
use Rattle.mrc_answer.specs.declared.answers.MigTexts.{MigTexts}
use Rattle.mrc_answer.specs.declared.asking.Answered.{Answered}
use Rattle.mrc_answer.specs.declared.asking.WasRead.{WasRead}
use Rattle.mrc_answer.specs.declared.asking.WasRead.TheVariants.{Nothing, Texts, Defs}
use Rattle.mrc_answer.specs.declared.faults.Fault.TheVariants.{Unwritten}
use Rattle.mrc_answer.specs.declared.faults.Unwritten.{Unwritten as UnwrittenFile}
use Rattle.mrc_answer.specs.Answers.{IsAnswer, IsAnswered, IsReply, IsUnasked, IsUnturned}
use Rattle.mrc_answer.specs.Answers.{MayChange}
use Rattle.mrc_answer.specs.Messages.{IsTurned}
use Rattle.mrc_answer.specs.Notices.{Notices}
use Rattle.mrc_answer.specs.Files.{Files}
use Rattle.mrc_command.specs.declared.command.Command.{Command}
use Rattle.mrc_command.specs.declared.command.Command.TheVariants.{Case, Mig, Message}
use Rattle.mrc_command.specs.declared.command.MessageText.{MessageText}
use Rattle.mrc_command.specs.declared.command.FileNames.{FileNames}
use Rattle.mrc_command.specs.declared.command.Question.{Question}
use Rattle.mrc_command.specs.declared.command.Question.TheVariants.{Verify, Mend, Attack, Check}
use Rattle.mrc_command.specs.declared.command.Question.TheVariants.{Make, Explain, Facts, Graph}
use Rattle.mrc_command.specs.declared.command.Question.TheVariants.{Slots, Promises, Expand, Replay}
use Rattle.mrc_command.specs.declared.command.Question.TheVariants.{Live}
use Rattle.mrc_command.specs.Meaning.{asked_format}
use Rattle.mrc_files.specs.Files.{Held}
use Rattle.mrc_program.specs.Runs.{Changes, HasOut, seen}

-- that a certificate was made
made_changes : (before after : Held) (question : Question) (files : Files) (count : ℕ)
    (notices : Notices)
    → IsAnswer before after question files (Made count) notices
    → Changes question
made_changes before after (Verify showing) files count notices is = absurd is
made_changes before after (Mend line most format) files count notices is = absurd is.0
made_changes before after (Attack line most format) files count notices is = absurd is
made_changes before after (Check verbose format) files count notices is = absurd is
made_changes before after (Make out workers) files count notices is = tt
made_changes before after (Explain fact by format) files count notices is = absurd is.0
made_changes before after (Facts task class right format) files count notices is = absurd is.0
made_changes before after (Graph fact task holds format) files count notices is = absurd is.0
made_changes before after (Slots format) files count notices is = absurd is.0
made_changes before after (Promises format) files count notices is = absurd is.0
made_changes before after Expand files count notices is = absurd is.0
made_changes before after (Replay format) files count notices is = absurd is.0
made_changes before after (Live format) files count notices is = absurd is.0

-- that MIG files were mig_text
mig_changes : (before after : Held) (question : Question) (files : Files) (mig_texts : MigTexts)
    (notices : Notices)
    → IsAnswer before after question files (Mig mig_texts) notices
    → Changes question
mig_changes before after (Verify showing) files mig_texts notices is = absurd is
mig_changes before after (Mend line most format) files mig_texts notices is = absurd is.0
mig_changes before after (Attack line most format) files mig_texts notices is = absurd is
mig_changes before after (Check verbose format) files mig_texts notices is = absurd is
mig_changes before after (Make out workers) files mig_texts notices is = tt
mig_changes before after (Explain fact by format) files mig_texts notices is = absurd is.0
mig_changes before after (Facts task class right format) files mig_texts notices is = absurd is.0
mig_changes before after (Graph fact task holds format) files mig_texts notices is = absurd is.0
mig_changes before after (Slots format) files mig_texts notices is = absurd is.0
mig_changes before after (Promises format) files mig_texts notices is = absurd is.0
mig_changes before after Expand files mig_texts notices is = absurd is.0
mig_changes before after (Replay format) files mig_texts notices is = absurd is.0
mig_changes before after (Live format) files mig_texts notices is = absurd is.0

-- that a file did not take all its bytes
unwritten_changes : (before after : Held) (question : Question) (files : Files) (u : UnwrittenFile)
    (notices : Notices)
    → IsAnswer before after question files (Fault (Unwritten u)) notices
    → Changes question
unwritten_changes before after (Verify showing) files u notices is = absurd is.0
unwritten_changes before after (Mend line most format) files u notices is = absurd is.0
unwritten_changes before after (Attack line most format) files u notices is = absurd is.0
unwritten_changes before after (Check verbose format) files u notices is = absurd is.0
unwritten_changes before after (Make out workers) files u notices is = tt
unwritten_changes before after (Explain fact by format) files u notices is = absurd is.0
unwritten_changes before after (Facts task class right format) files u notices is = absurd is.0
unwritten_changes before after (Graph fact task holds format) files u notices is = absurd is.0
unwritten_changes before after (Slots format) files u notices is = absurd is.0
unwritten_changes before after (Promises format) files u notices is = absurd is.0
unwritten_changes before after Expand files u notices is = absurd is.0
unwritten_changes before after (Replay format) files u notices is = absurd is.0
unwritten_changes before after (Live format) files u notices is = absurd is.0

-- of a question about files
changes_of : (before after : Held) (question : Question) (files : Files) (answer : Answer)
    (notices : Notices)
    → IsAnswer before after question files answer notices
    → MayChange answer
    → Changes question
changes_of before after question files (Made count) notices is may =
    made_changes before after question files count notices is
changes_of before after question files (Mig mig_texts) notices is may =
    mig_changes before after question files mig_texts notices is
changes_of before after question files (Fault (Unwritten unwritten)) notices is may =
    unwritten_changes before after question files unwritten notices is
changes_of before after question files answer notices is may = absurd may

-- before files are read
unasked_changes : (held : Held) (names : FileNames) (question : Question) (answer : Answer)
    → IsUnasked held names question answer
    → MayChange answer
    → Changes question
unasked_changes held names question (Made count) why may = absurd why
unasked_changes held names question (Mig mig_texts) why may = absurd why
unasked_changes held names question (Fault (Unwritten unwritten)) why may = absurd why
unasked_changes held names question answer why may = absurd may

-- a message that is turned changes no file
unturned_stays : (held : Held) (asked : MessageText) (answer : Answer)
    → IsUnturned held asked answer
    → MayChange answer
    → ⊥
unturned_stays held asked (Made count) is may = absurd is
unturned_stays held asked (Mig mig_texts) is may = absurd is
unturned_stays held asked (Fault (Unwritten unwritten)) is may = absurd is
unturned_stays held asked answer is may = absurd may

turned_stays : (defs : List (List ℕ)) (answer : Answer)
    → IsTurned defs answer
    → MayChange answer
    → ⊥
turned_stays defs (Made count) is may = absurd is
turned_stays defs (Mig mig_texts) is may = absurd is
turned_stays defs (Fault (Unwritten unwritten)) is may = absurd is
turned_stays defs answer is may = absurd may

-- of a command
has_out : (before after : Held) (command : Command) (read : WasRead) (answer : Answer)
    (notices : Notices)
    → IsReply before after command read answer notices
    → MayChange answer
    → HasOut command
has_out before after (Mig files) read answer notices is may = tt
has_out before after (Case names question) Nothing answer notices is may =
    unasked_changes before names question answer is may
has_out before after (Case names question) (Texts files) answer notices is may =
    changes_of before after question files answer notices is.2 may
has_out before after (Case names question) (Defs texts) answer notices is may = absurd is
has_out before after (Message asked) Nothing answer notices is may =
    unturned_stays before asked answer is.0 may
has_out before after (Message asked) (Texts files) answer notices is may =
    turned_stays files.texts.defs answer is.1 may
has_out before after (Message asked) (Defs texts) answer notices is may = absurd is

-- what is seen of it does not count
seen_out : (watched : Bool) (command : Command) → HasOut (seen watched command)
    → HasOut command
seen_out watched (Mig files) out = tt
seen_out watched (Message asked) out = absurd out
seen_out watched (Case names (Make file workers)) out = tt
seen_out watched (Case names question) out = absurd out

-- of a command as it is answered
pub has_out_of : (watched : Bool) (before after : Held) (command : Command) (answered : Answered)
    → IsAnswered before after (seen watched command) answered
    → MayChange answered.reply.answer
    → HasOut command
has_out_of watched before after command answered right may =
    seen_out watched command
    (has_out before after (seen watched command) answered.read answered.reply.answer
    answered.reply.notices right may)

-- nor does it change the format
pub seen_format : (watched : Bool) (command : Command)
    → asked_format (seen watched command) ≡ asked_format command
seen_format watched (Mig files) = refl
seen_format watched (Message asked) = refl
seen_format watched (Case names (Verify showing)) = refl
seen_format watched (Case names question) = refl
