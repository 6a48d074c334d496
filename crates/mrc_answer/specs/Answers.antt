-- Believe. Which answers are right of a command, and which files it may change. This profile's own
-- choice.
use Rattle.std.specs.Prelude.{◌≡◌, ℕ, List, map}
use Rattle.mrc_command.specs.declared.command.Command.{Command}
use Rattle.mrc_command.specs.declared.command.Command.TheVariants.{Case, Mig, Message}
use Rattle.mrc_command.specs.declared.command.MessageText.{MessageText}
use Rattle.mrc_command.specs.declared.command.FileNames.{FileNames}
use Rattle.mrc_command.specs.declared.command.Question.{Question}
use Rattle.mrc_command.specs.declared.command.Question.TheVariants as questions
use Rattle.std.specs.Borrow.{Bor}
use Rattle.mrc_files.specs.Files.{Held, AreHeld, IsFirstUnread}
use Rattle.mrc_files.specs.declared.folders.Unread.{Unread as UnreadFile}
use Rattle.mrc_answer.specs.declared.answers.Answer.{Answer}
use Rattle.mrc_answer.specs.declared.answers.Answer.TheVariants.{Made, Mig, Fault}
use Rattle.mrc_answer.specs.declared.asking.Answered.{Answered}
use Rattle.mrc_answer.specs.declared.asking.WasRead.{WasRead}
use Rattle.mrc_answer.specs.declared.asking.WasRead.TheVariants.{Nothing, Texts, Defs}
use Rattle.mrc_answer.specs.declared.faults.Fault.TheVariants.{Unread, Unwritten, SameName, Word}
use Rattle.mrc_answer.specs.declared.faults.WordFault.TheVariants.{BadLine, BadMost}
use Rattle.mrc_answer.specs.declared.faults.WordFault.{WordFault}
use Rattle.mrc_answer.specs.Checked.{IsChecked}
use Rattle.mrc_answer.specs.MigTexts.{AreMigOfTexts, IsUnread, mig_names}
use Rattle.mrc_answer.specs.Explained.{IsExplanation}
use Rattle.mrc_answer.specs.Files.{AreRead, Files, all_names, word_of}
use Rattle.mrc_answer.specs.Listed.{IsListing, IsGraph}
use Rattle.mrc_answer.specs.Made.{IsMaking, IsMending}
use Rattle.mrc_answer.specs.Messages.{IsTurned}
use Rattle.mrc_answer.specs.Notices.{Notices, no_notices}
use Rattle.mrc_answer.specs.Played.{IsReplayed, IsRun}
use Rattle.mrc_answer.specs.Systems.{AreSlots, ArePromises, IsExpanded}
use Rattle.mrc_answer.specs.Verified.{IsVerified, IsAttacked, IsBadLine, IsBadMost}

-- it is answered that this file can't be read
pub record IsUnreadOf (file : List ℕ) (answer : Answer) : Type 0 where
  pub unread : UnreadFile
  pub is : answer ≡ Fault (Unread unread)
  pub file_is : unread.file.now ≡ file

-- it is answered that this MIG file has the name of an earlier one
pub record IsSameNameOf (file : List ℕ) (answer : Answer) : Type 0 where
  pub other : Bor (List ℕ)
  pub is : answer ≡ Fault (SameName other)
  pub file_is : other.now ≡ file

-- The answer, with these notices, is right of a question about files. The first of what is held is
-- from before the question, the second from after it.
abbrev pub IsAnswer : (before after : Held) → Question → Files → Answer → Notices → Type 0
IsAnswer before after (questions.Verify showing) files answer notices =
    IsVerified showing.line files answer notices
IsAnswer before after (questions.Mend line most format) files answer notices =
    IsMending line most files answer × (notices ≡ no_notices)
IsAnswer before after (questions.Attack line most format) files answer notices =
    IsAttacked line files answer notices
IsAnswer before after (questions.Check verbose format) files answer notices =
    IsChecked files answer notices
IsAnswer before after (questions.Make out workers) files answer notices =
    IsMaking out.now workers before after files answer × (notices ≡ no_notices)
IsAnswer before after (questions.Explain fact by format) files answer notices =
    IsExplanation fact.now files answer × (notices ≡ no_notices)
IsAnswer before after (questions.Facts task class right format) files answer notices =
    IsListing (word_of task) (word_of class) (word_of right) files answer
    × (notices ≡ no_notices)
IsAnswer before after (questions.Graph fact task holds format) files answer notices =
    IsGraph (word_of fact) (word_of task) holds files answer × (notices ≡ no_notices)
IsAnswer before after (questions.Slots format) files answer notices =
    AreSlots files answer × (notices ≡ no_notices)
IsAnswer before after (questions.Promises format) files answer notices =
    ArePromises files answer × (notices ≡ no_notices)
IsAnswer before after questions.Expand files answer notices =
    IsExpanded files answer × (notices ≡ no_notices)
IsAnswer before after (questions.Replay format) files answer notices =
    IsReplayed files answer × (notices ≡ no_notices)
IsAnswer before after (questions.Live format) files answer notices =
    IsRun files answer × (notices ≡ no_notices)

-- the word of an option can't be what it is asked to be: that is found before any file is read
abbrev pub IsBadWord : Question → WordFault → Type 0
IsBadWord (questions.Verify showing) BadLine = IsBadLine showing.line
IsBadWord (questions.Mend line most format) BadMost = IsBadMost most
IsBadWord (questions.Mend line most format) BadLine = IsBadLine line
IsBadWord (questions.Attack line most format) BadMost = IsBadMost most
IsBadWord (questions.Attack line most format) BadLine = IsBadLine line
IsBadWord question word = ⊥

-- why a question is not asked of files: a word, or the first file that can't be read
abbrev pub IsUnasked : Held → FileNames → Question → Answer → Type 0
IsUnasked held names question (Fault (Word word)) = IsBadWord question word
IsUnasked held names question (Fault (Unread unread)) =
    IsFirstUnread held (all_names names) unread.file.now
IsUnasked held names question answer = ⊥

-- the same of what was read of files that have names, and what is answered of them
pub record IsAnsweredOf (before after : Held) (question : Question) (files : Files)
    (answered : Answered) : Type 0 where
  pub read : answered.read ≡ Texts files
  pub right : IsAnswer before after question files answered.reply.answer answered.reply.notices

-- the MIG files of a message that is turned, by their names
abbrev pub message_names : MessageText → List (List ℕ)
message_names asked = map (λ file. file.now) asked.defs.items

-- what was read are texts of MIG files, and no others are looked at
abbrev pub HasReadDefs : List (List ℕ) → WasRead → Type 0
HasReadDefs defs (Texts files) = files.texts.defs ≡ defs
HasReadDefs defs read = ⊥

-- why a message is not turned: a file can't be read
abbrev pub IsUnturned : Held → MessageText → Answer → Type 0
IsUnturned held asked (Fault (Unread unread)) =
    IsFirstUnread held (message_names asked) unread.file.now
IsUnturned held asked answer = ⊥

-- What was read of a command's files, and the answer with these notices, are right: of what the
-- files held, so far as that is known.
abbrev pub IsReply : (before after : Held) → Command → WasRead → Answer → Notices → Type 0
IsReply before after (Case names question) Nothing answer notices =
    IsUnasked before names question answer
IsReply before after (Case names question) (Texts files) answer notices =
    (files.names ≡ names) × AreRead before names files.texts
    × IsAnswer before after question files answer notices
IsReply before after (Mig files) Nothing answer notices =
    IsUnread before files answer × (notices ≡ no_notices)
IsReply before after (Mig files) (Defs texts) answer notices =
    AreHeld before (mig_names files) (map (λ text. text.items) texts.items)
    × AreMigOfTexts files before after (map (λ text. text.items) texts.items) answer
    × (notices ≡ no_notices)
IsReply before after (Message asked) Nothing answer notices =
    IsUnturned before asked answer × (notices ≡ no_notices)
IsReply before after (Message asked) (Texts files) answer notices =
    AreHeld before (message_names asked) files.texts.defs × IsTurned files.texts.defs answer
    × (notices ≡ no_notices)
IsReply before after command read answer notices = ⊥

-- an answer after which files may have changed
abbrev pub MayChange : Answer → Type 0
MayChange (Made count) = Unit {0}
MayChange (Mig mig_texts) = Unit {0}
MayChange (Fault (Unwritten unwritten)) = Unit {0}
MayChange answer = ⊥

-- what was read, the answer and the notices are right of a command
abbrev pub IsAnswered : (before after : Held) → Command → Answered → Type 0
IsAnswered before after command answered =
    IsReply before after command answered.read answered.reply.answer answered.reply.notices
