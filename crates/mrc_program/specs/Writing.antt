-- Step. What is written of an answer: whole, or a front of it.
use Rattle.std.specs.Prelude.{◌≡◌, ◌++◌, ℕ, Bool, true, false, List, [], Option, take}
use Rattle.std.specs.Io.KnownBytes.{Appends}
use Rattle.mrc_answer.specs.declared.answers.Answer.{Answer}
use Rattle.mrc_answer.specs.declared.answers.Answer.TheVariants.{Mig, Fault}
use Rattle.mrc_answer.specs.declared.answers.MigEnd.{MigEnd}
use Rattle.mrc_answer.specs.declared.answers.MigEnd.TheVariants.{Refused}
use Rattle.mrc_answer.specs.declared.asking.Answered.{Answered}
use Rattle.mrc_command.specs.declared.command.Format.{Format}
use Rattle.mrc_print.specs.Heads.{InText, IsPrinted, pending_text}
use Rattle.mrc_print.specs.Silence.{AreNone}

-- MIG files were not all written, since one was refused
abbrev pub is_refused : MigEnd → Bool
is_refused (Refused unwritten) = true
is_refused end = false

-- an answer is a fault, or has one: a file that did not take all its bytes
abbrev pub has_fault : Answer → Bool
has_fault (Fault fault) = true
has_fault (Mig mig_texts) = is_refused mig_texts.end
has_fault answer = false

-- the text is what is pending of an answer, if it is for people
abbrev pub IsPending : Format → Answered → List ℕ → Type 0
IsPending format answered text = InText format (text ≡ pending_text answered)

-- the text, and behind it what is pending of an answer, went out: `old` was held, and `new` is
pub record IsWholeOut (format : Format) (answered : Answered) (text : List ℕ)
    (old new : Option (List ℕ)) : Type 0 where
  pub rest : List ℕ
  pub pending : IsPending format answered rest
  pub out : Appends old new (text ++ rest)

-- so many bytes of both went out
pub record IsFrontOut (format : Format) (answered : Answered) (text : List ℕ)
    (old new : Option (List ℕ)) : Type 0 where
  pub rest : List ℕ
  pub pending : IsPending format answered rest
  pub count : ℕ
  pub front : Appends old new (take count (text ++ rest))

-- What is printed of an answer went to standard output, which held `old` and holds `new`. What went
-- to standard error, which held `silent` and holds `told`, is empty only if there is nothing to
-- tell besides the answer.
pub record IsTold (format : Format) (answered : Answered) (old new silent told : Option (List ℕ))
    : Type 0 where
  pub text : List ℕ
  pub printed : InText format (IsPrinted answered text)
  pub out : Appends old new text
  pub errors : List ℕ
  pub notices : errors ≡ [] → AreNone answered.reply.notices
  pub err : Appends silent told errors

-- so many bytes of what is printed of an answer went to standard output
pub record IsToldInPart (format : Format) (answered : Answered) (old new : Option (List ℕ))
    : Type 0 where
  pub text : List ℕ
  pub printed : InText format (IsPrinted answered text)
  pub count : ℕ
  pub front : Appends old new (take count text)
