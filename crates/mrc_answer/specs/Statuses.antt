-- Believe. The exit status of an answer: 0 if it is what was asked for, 1 if it is a no, 2 if there
-- is none. This profile's own choice.
use Rattle.std.specs.Prelude.{ℕ, List, [], ◌∷◌}
use Rattle.mrc_mend.specs.declared.answers.Answer.{Answer as Mending}
use Rattle.mrc_mend.specs.declared.answers.Answer.TheVariants.{Nothing, Found}
use Rattle.mrc_answer.specs.declared.answers.Answer.{Answer}
use Rattle.mrc_answer.specs.declared.answers.Answer.TheVariants.{Yes, Waived, Broken, Refused}
use Rattle.mrc_answer.specs.declared.answers.Answer.TheVariants.{Attacks, Mends, Made, Chain, NoChain}
use Rattle.mrc_answer.specs.declared.answers.Answer.TheVariants.{Facts, OtherCounts, Drawing, NoDrawing}
use Rattle.mrc_answer.specs.declared.answers.Answer.TheVariants.{Slots, Promises, Expanded, Replay}
use Rattle.mrc_answer.specs.declared.answers.Answer.TheVariants.{Journal, Encoded, Decoded}
use Rattle.mrc_answer.specs.declared.answers.Answer.TheVariants.{Waits, Mig, Fault}
use Rattle.mrc_answer.specs.declared.answers.MigEnd.{MigEnd}
use Rattle.mrc_answer.specs.declared.answers.MigEnd.TheVariants as ends

-- 1 if a list is empty
abbrev pub if_none : {X : Type 0} → List X → ℕ
if_none [] = 1
if_none (x ∷ xs) = 0

-- of mends: 1 if there is something to mend and no mend was found
abbrev pub mend_status : Mending → ℕ
mend_status Nothing = 0
mend_status (Found mends) = if_none mends.mends.items

-- of MIG files that were cut: 2 if not all were written
abbrev pub mig_status : MigEnd → ℕ
mig_status ends.Written = 0
mig_status ends.Little = 2
mig_status (ends.Refused unwritten) = 2

-- of an answer
abbrev pub status_of : Answer → ℕ
status_of Yes = 0
status_of (Waived b) = 0
status_of (Broken b) = 1
status_of (Refused r) = 1
status_of (Attacks a) = 1
status_of (Mends m) = mend_status m
status_of (Made n) = 0
status_of (Chain c) = 0
status_of (NoChain u) = 1
status_of (Facts l) = 0
status_of OtherCounts = 1
status_of (Drawing d) = 0
status_of (NoDrawing u) = 1
status_of (Slots s) = 0
status_of (Promises s) = 0
status_of (Expanded e) = 0
status_of (Encoded b) = 0
status_of (Decoded t) = 0
status_of (Replay r) = 0
status_of (Journal r) = 0
status_of (Waits w) = 2
status_of (Mig c) = mig_status c.end
status_of (Fault f) = 2
