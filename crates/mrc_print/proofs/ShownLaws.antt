-- Of an answer that is right and says that a policy is broken, something is asked for.
use Rattle.mrc_command.specs.declared.command.Command.{Command}
use Rattle.mrc_command.specs.declared.command.Command.TheVariants as commands
use Rattle.mrc_command.specs.declared.command.Question.{Question}
use Rattle.mrc_command.specs.declared.command.Question.TheVariants.{Verify, Mend, Attack, Check}
use Rattle.mrc_command.specs.declared.command.Question.TheVariants.{Make, Explain, Facts, Graph}
use Rattle.mrc_command.specs.declared.command.Question.TheVariants.{Slots, Promises, Expand, Replay}
use Rattle.mrc_command.specs.declared.command.Question.TheVariants.{Live}
use Rattle.mrc_files.specs.Files.{Held}
use Rattle.mrc_answer.specs.declared.answers.Answer.{Answer}
use Rattle.mrc_answer.specs.declared.answers.Answer.TheVariants as answers
use Rattle.mrc_answer.specs.declared.answers.JudgedPolicy.{JudgedPolicy}
use Rattle.mrc_answer.specs.declared.asking.Answered.{Answered}
use Rattle.mrc_answer.specs.declared.asking.WasRead.{WasRead}
use Rattle.mrc_answer.specs.declared.asking.WasRead.TheVariants.{Nothing, Texts, Defs}
use Rattle.mrc_answer.specs.Answers.{IsAnswer, IsAnswered, IsReply}
use Rattle.mrc_answer.specs.Files.{Files}
use Rattle.mrc_answer.specs.Notices.{Notices}
use Rattle.mrc_print.specs.Heads.{IsShown}

-- of a question about files: only `verify` and `attack` have such an answer
of_question : (before after : Held) (question : Question) (files : Files) (b : JudgedPolicy)
    (notices : Notices)
    → IsAnswer before after question files (answers.Broken b) notices
    → IsShown (answers.Broken b)
of_question before after (Verify showing) files b notices is = is.shown
of_question before after (Mend line most format) files b notices is = absurd is.0
of_question before after (Attack line most format) files b notices is = is.shown
of_question before after (Check verbose format) files b notices is = absurd is
of_question before after (Make out workers) files b notices is = absurd is.0
of_question before after (Explain fact by format) files b notices is = absurd is.0
of_question before after (Facts task class right format) files b notices is = absurd is.0
of_question before after (Graph fact task holds format) files b notices is = absurd is.0
of_question before after (Slots format) files b notices is = absurd is.0
of_question before after (Promises format) files b notices is = absurd is.0
of_question before after Expand files b notices is = absurd is.0
of_question before after (Replay format) files b notices is = absurd is.0
of_question before after (Live format) files b notices is = absurd is.0

-- of a command
of_command : (before after : Held) (command : Command) (read : WasRead) (b : JudgedPolicy)
    (notices : Notices)
    → IsReply before after command read (answers.Broken b) notices
    → IsShown (answers.Broken b)
of_command before after (commands.Case names question) Nothing b notices is = absurd is
of_command before after (commands.Case names question) (Texts files) b notices is =
    of_question before after question files b notices is.2
of_command before after (commands.Case names question) (Defs texts) b notices is = absurd is
of_command before after (commands.Message asked) Nothing b notices is = absurd is.0
of_command before after (commands.Message asked) (Texts files) b notices is = absurd is.1
of_command before after (commands.Message asked) (Defs texts) b notices is = absurd is
of_command before after (commands.Mig files) Nothing b notices is = absurd is.0
of_command before after (commands.Mig files) (Texts texts) b notices is = absurd is
of_command before after (commands.Mig files) (Defs texts) b notices is = absurd is.1

-- of each answer
of_reply : (before after : Held) (command : Command) (read : WasRead) (answer : Answer)
    (notices : Notices)
    → IsReply before after command read answer notices
    → IsShown answer
of_reply before after command read answers.Yes notices is = tt
of_reply before after command read (answers.Broken b) notices is =
    of_command before after command read b notices is
of_reply before after command read (answers.Waived w) notices is = tt
of_reply before after command read (answers.Refused r) notices is = tt
of_reply before after command read (answers.Attacks a) notices is = tt
of_reply before after command read (answers.Mends m) notices is = tt
of_reply before after command read (answers.Made n) notices is = tt
of_reply before after command read (answers.Chain c) notices is = tt
of_reply before after command read (answers.NoChain u) notices is = tt
of_reply before after command read (answers.Facts l) notices is = tt
of_reply before after command read answers.OtherCounts notices is = tt
of_reply before after command read (answers.Drawing d) notices is = tt
of_reply before after command read (answers.NoDrawing u) notices is = tt
of_reply before after command read (answers.Slots s) notices is = tt
of_reply before after command read (answers.Promises s) notices is = tt
of_reply before after command read (answers.Expanded e) notices is = tt
of_reply before after command read (answers.Replay r) notices is = tt
of_reply before after command read (answers.Journal j) notices is = tt
of_reply before after command read (answers.Waits w) notices is = tt
of_reply before after command read (answers.Encoded b) notices is = tt
of_reply before after command read (answers.Decoded t) notices is = tt
of_reply before after command read (answers.Mig c) notices is = tt
of_reply before after command read (answers.Fault f) notices is = tt

-- of what is answered
pub shown_so : (before after : Held) (command : Command) (answered : Answered)
    → IsAnswered before after command answered
    → IsShown answered.reply.answer
shown_so before after command answered is =
    of_reply before after command answered.read answered.reply.answer answered.reply.notices is
