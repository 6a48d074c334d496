-- Believe. How many facts a policy expects, by its text and that of the wiring alone. This
-- profile's own choice.
use Rattle.std.specs.Prelude.{ℕ, Bool, List, length, Result, Ok, Err, filter}
use Rattle.mrc_stand_for.specs.declared.faults.StandFault.{StandFault}
use Rattle.mrc_stand_for.specs.declared.known.Known.{Known}
use Rattle.mrc_wide_policy.specs.declared.asked.Asked.{Asked}
use Rattle.mrc_wide_policy.specs.declared.facts.FactLine.{FactLine}
use Rattle.mrc_wide_policy.specs.declared.facts.PolicyStands.{PolicyStands}
use Rattle.mrc_wide_policy.specs.declared.policies.PolicyRefusal.{PolicyRefusal}
use Rattle.mrc_wide_policy.specs.Asked.{asked_by}
use Rattle.mrc_wide_policy.specs.Policies.{stands_of}
use Rattle.mrc_wide_text.specs.Wirings.{Said, said_of}
use Rattle.mrc_wiring_text.specs.declared.faults.TextFault.{TextFault}
use Rattle.mrc_why.specs.Answered.{expects}
use Rattle.mrc_answer.specs.Files.{Texts, given}

-- the line expects
abbrev pub does_expect : FactLine → Bool
does_expect line = line.expects

-- a holding is expected
abbrev pub is_expected : Asked → Bool
is_expected asked = expects asked.stance

-- the facts that a policy expects, if it is read
abbrev pub count_of : Result PolicyStands PolicyRefusal → ℕ
count_of (Ok stands) = length (filter is_expected (asked_by stands))
count_of (Err refusal) = 0

-- of a policy over a wiring after whose lines this is known, if none is refused
abbrev pub count_over : List ℕ → Result Known StandFault → ℕ
count_over policy (Ok known) = count_of (stands_of known policy)
count_over policy (Err fault) = 0

-- over a wiring that is read
abbrev pub count_by : List ℕ → Result Said TextFault → ℕ
count_by policy (Ok said) = count_over policy said.end
count_by policy (Err fault) = 0

-- how many facts the policy expects, if both texts are read
abbrev pub expected_facts : Texts → ℕ
expected_facts texts = count_by (given texts.policy) (said_of texts.wiring)
