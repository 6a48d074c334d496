-- Believe. What a run of the program promises: which answer went out of what the words ask for, of
-- which command it is right, what went to standard error with it, and which files changed. This
-- profile's own choice.
use Rattle.std.specs.Prelude.{◌≡◌, ◌&&◌, ◌||◌, ℕ, Bool, true, false, List, [], Option, take}
use Rattle.std.specs.Io.KnownBytes.{Appends}
use Rattle.mrc_answer.specs.declared.asking.Answered.{Answered}
use Rattle.mrc_answer.specs.Answers.{IsAnswered, MayChange}
use Rattle.mrc_answer.specs.Statuses.{status_of}
use Rattle.mrc_command.specs.declared.command.Command.{Command}
use Rattle.mrc_command.specs.declared.command.Command.TheVariants.{Case, Mig, Message}
use Rattle.mrc_command.specs.declared.command.Question.{Question}
use Rattle.mrc_command.specs.declared.command.Question.TheVariants.{Attack, Make, Mend, Verify}
use Rattle.mrc_command.specs.declared.command.Request.{Request}
use Rattle.mrc_command.specs.Meaning.{Means, asked_format}
use Rattle.mrc_files.specs.Files.{Held}
use Rattle.mrc_print.specs.Heads.{InText, IsPrinted}
use Rattle.mrc_print.specs.Silence.{AreNone}
use Rattle.mrc_program.specs.declared.running.Watched.{Watched}

-- The question as it is answered if a person looks at standard output (`watched`): then the lines
-- that are broken are followed by their texts.
abbrev pub seen_question : Bool → Question → Question
seen_question watched (Verify showing) =
    Verify (record showing { quotes = showing.quotes || watched })
seen_question watched question = question

-- the same of a command
abbrev pub seen : Bool → Command → Command
seen watched (Case names question) = Case names (seen_question watched question)
seen watched (Mig files) = Mig files
seen watched (Message asked) = Message asked

-- a question whose answer may change a file
abbrev pub Changes : Question → Type 0
Changes (Make out workers) = Unit {0}
Changes question = ⊥

-- a command that may change files: it has an `--out`
abbrev pub HasOut : Command → Type 0
HasOut (Case names question) = Changes question
HasOut (Mig files) = Unit {0}
HasOut (Message asked) = ⊥

-- It is answered of the command that the words ask for, and right of what the files held that they
-- name; and this text is printed of it. Something is said of the text only if the answer is for
-- people.
pub record IsReplied (watched : Watched) (words : List (List ℕ)) (before after : Held)
    (answered : Answered) (text : List ℕ) : Type 0 where
  pub request : Request
  pub means : Means words request
  pub right : IsAnswered before after (seen watched.out request.command) answered
  pub printed : InText (asked_format request.command) (IsPrinted answered text)

-- the question is answered by a search that can tell how far it has come
abbrev pub is_search : Question → Bool
is_search (Mend line most format) = true
is_search (Attack line most format) = true
is_search other = false

-- the same of a command
abbrev pub searches : Command → Bool
searches (Case names question) = is_search question
searches (Mig files) = false
searches (Message asked) = false

-- A search tells how far it has come: a person looks at standard error, or the words ask for it.
abbrev pub counts : Watched → Request → Bool
counts watched request = watched.err || (request.verbose && searches request.command)

-- An answer with this status went out whole: standard output held `old`, and holds `new`. What went
-- to standard error with it is empty only if there is nothing to tell besides the answer. Nothing
-- else went there if no search tells how far it has come: it held `silent`, and holds `told`.
pub record WentOut (watched : Watched) (words : List (List ℕ)) (before after : Held) (status : ℕ)
    (old new silent told : Option (List ℕ)) : Type 0 where
  pub answered : Answered
  pub text : List ℕ
  pub replied : IsReplied watched words before after answered text
  pub status_is : status_of answered.reply.answer ≡ status
  pub out : Appends old new text
  pub errors : List ℕ
  pub notices : errors ≡ [] → AreNone answered.reply.notices
  pub err : counts watched replied.request ≡ false → Appends silent told errors

-- so many bytes of what is printed of an answer went out: all of it, or memory ran out for the
-- rest, or standard output took no more
pub record WentInPart (watched : Watched) (words : List (List ℕ)) (before after : Held)
    (old new : Option (List ℕ)) : Type 0 where
  pub answered : Answered
  pub text : List ℕ
  pub replied : IsReplied watched words before after answered text
  pub count : ℕ
  pub front : Appends old new (take count text)

-- Files changed as an answer says that is right of what the words ask for; and these ask for a
-- command that may change files.
pub record HaveChanged (watched : Watched) (words : List (List ℕ)) (before after : Held) : Type 0
  where
    pub request : Request
    pub means : Means words request
    pub has_out : HasOut request.command
    pub answered : Answered
    pub right : IsAnswered before after (seen watched.out request.command) answered
    pub may : MayChange answered.reply.answer
