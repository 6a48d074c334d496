-- Believe. What is printed of an answer for people: how its text begins, and what is printed behind
-- that as it is made. This profile's own choice.
use Rattle.std.specs.Prelude.{◌≡◌, ◌⊎◌, ◌||◌, ℕ, Bool, true, false, List, [], ◌++◌, codes, decimal}
use Rattle.std.specs.List.{list_any}
use Rattle.mrc_attack.specs.Attacks.{attacks_text}
use Rattle.mrc_command.specs.declared.command.Format.{Format}
use Rattle.mrc_command.specs.declared.command.Format.TheVariants as formats
use Rattle.mrc_command.specs.Meaning.{question_format}
use Rattle.mrc_check.specs.declared.demands.Demand.{Demand}
use Rattle.mrc_mend.specs.Texts.{mends_text}
use Rattle.mrc_report.specs.Replay.{replay_text}
use Rattle.mrc_answer.specs.declared.answers.Answer.{Answer}
use Rattle.mrc_answer.specs.declared.answers.Answer.TheVariants.{Yes, Broken, Refused, Attacks}
use Rattle.mrc_answer.specs.declared.answers.Answer.TheVariants.{Mends, Made, NoChain, OtherCounts}
use Rattle.mrc_answer.specs.declared.answers.Answer.TheVariants.{NoDrawing, Replay, Journal, Waits}
use Rattle.mrc_answer.specs.declared.answers.Answer.TheVariants.{Mig, Fault}
use Rattle.mrc_answer.specs.declared.asking.Answered.{Answered}
use Rattle.mrc_answer.specs.declared.asking.WasRead.{WasRead}
use Rattle.mrc_answer.specs.declared.asking.WasRead.TheVariants.{Texts}
use Rattle.mrc_why.specs.Answered.{is_expected, is_waived}
use Rattle.mrc_answer.specs.Verified.{IsAsked, form_of}
use Rattle.mrc_print.specs.declared.asked.Asked.{Asked}
use Rattle.mrc_print.specs.declared.asked.Asked.TheVariants.{Case, Mig, Message}

-- How the text of a broken policy begins.

-- what comes before the first `NO `: nothing, or a line that begins with `# `
abbrev pub IsHead : List ℕ → Type 0
IsHead before =
    (before ≡ []) ⊎ ((words : List ℕ) × (before ≡ codes "# " ++ (words ++ codes "\n")))

-- the text begins with `NO `
abbrev pub IsNo : List ℕ → Type 0
IsNo text = (rest : List ℕ) × (text ≡ codes "NO " ++ rest)

-- the text begins with `WAIVED `
abbrev pub IsWaived : List ℕ → Type 0
IsWaived text = (rest : List ℕ) × (text ≡ codes "WAIVED " ++ rest)

-- one of the two
abbrev pub IsTold : List ℕ → Type 0
IsTold text = IsNo text ⊎ IsWaived text

-- it does if that is so, and else it is empty
abbrev pub IsToldIf : Bool → List ℕ → Type 0
IsToldIf true text = IsTold text
IsToldIf false text = text ≡ []

-- behind the head the text begins so
abbrev pub HasTold : List ℕ → Type 0
HasTold text =
    (before : List ℕ) × (rest : List ℕ) × IsHead before × IsTold rest × (text ≡ before ++ rest)

-- How the text of each answer begins.

-- what is asked of a holding is told beside attacks
abbrev pub is_beside : Demand → Bool
is_beside demand = is_waived demand || is_expected demand

-- the text of the wiring, if it was read
abbrev pub wiring_text : WasRead → List ℕ
wiring_text (Texts files) = files.texts.wiring
wiring_text read = []

-- The text is right of an answer, so far as it is said: exactly for attacks, mends, and answers of
-- one line; by its first word for a broken policy and for a reason; and for answers that are
-- printed as they are made, or on standard error alone, it is empty. Of attacks it is said where no
-- holding is waived, or expected and lacking.
abbrev pub IsHeadOf : WasRead → Answer → List ℕ → Type 0
IsHeadOf read Yes text = text ≡ codes "YES\n"
IsHeadOf read (Broken b) text = HasTold text
IsHeadOf read (Refused r) text = IsNo text
IsHeadOf read (Attacks a) text = list_any is_beside a.told.items ≡ false
    → text ≡ attacks_text (form_of a.only) a.stated.claim.table a.found.items
IsHeadOf read (Mends answer) text = text ≡ mends_text (wiring_text read) answer
IsHeadOf read (Made count) text = text ≡ codes "facts " ++ (decimal count ++ codes "\n")
IsHeadOf read (NoChain u) text = text ≡ codes "none\n"
IsHeadOf read (NoDrawing u) text = text ≡ codes "none\n"
IsHeadOf read OtherCounts text = text ≡ codes "NO counts\n"
IsHeadOf read (Replay both) text = text ≡ []
IsHeadOf read (Journal ran) text = text ≡ []
IsHeadOf read (Waits waiting) text = text ≡ []
IsHeadOf read (Mig mig_texts) text = text ≡ []
IsHeadOf read (Fault fault) text = text ≡ []
IsHeadOf read answer text = Unit {0}

-- the same, by what was read
abbrev pub HasHead : Answered → List ℕ → Type 0
HasHead answered text = IsHeadOf answered.read answered.reply.answer text

-- of an answer that a policy is broken, something is asked for
abbrev pub IsShown : Answer → Type 0
IsShown (Broken b) = IsAsked b.only b.verdict.exposed b.told.items
IsShown answer = Unit {0}

-- What is printed as it is made.

-- the events of a replay, or of a run
abbrev pub pending_of : Answer → List ℕ
pending_of (Replay both) = replay_text both.wired both.script
pending_of (Journal ran) = ran
pending_of (Waits waiting) = waiting.ran
pending_of answer = []

abbrev pub pending_text : Answered → List ℕ
pending_text answered = pending_of answered.reply.answer

-- the text is what is printed of an answer
pub record IsPrinted (answered : Answered) (text : List ℕ) : Type 0 where
  pub head : List ℕ
  pub has_head : HasHead answered head
  pub is : text ≡ head ++ pending_text answered

-- Formats.

-- the format that is asked for
abbrev pub format_of : Asked → Format
format_of (Case question) = question_format question
format_of (Mig format) = format
format_of (Message turning text) = formats.Text

-- this holds if the answer is for people; of an answer for programs nothing is said
abbrev pub InText : Format → Type 0 → Type 0
InText format P = format ≡ formats.Text → P
