-- What was read is what a policy of one of the versions stands for, and what such a policy stands
-- for is read.
use Rattle.std.proofs.Common.{◌≡◌, ℕ, List, [], ◌∷◌, map, Result, Ok, Err, inl, inr, refl, ap, sym}
use Rattle.std.proofs.Common.{◌∙◌}
use Rattle.std.specs.Prelude.{IfOk, filter}
use Rattle.mrc_base.specs.declared.memory.OrMemory.{OrMemory}
use Rattle.mrc_base.specs.Reading.{Gives}
use Rattle.mrc_base.proofs.Steps.{ok_is, err_is_ok, gives_ok, gives_same}
use Rattle.mrc_wiring_text.specs.declared.faults.TextFault.{TextFault}
use Rattle.mrc_wiring_text.specs.declared.faults.TextFault.TheVariants.{NotUtf8, BadLine, Version}
use Rattle.mrc_wiring_text.specs.declared.policy.ClassName.{ClassName}
use Rattle.mrc_wiring_text.specs.declared.policy.ClassName.TheVariants as class
use Rattle.mrc_wiring_text.specs.declared.policy.Forbid.{Forbid}
use Rattle.mrc_wiring_text.specs.declared.reading.Line.{Line}
use Rattle.mrc_wiring_text.specs.Policy.{policy_of, policy_says as older_says}
use Rattle.mrc_wiring_text.proofs.TextLaws as older
use Rattle.mrc_stand_for.specs.declared.faults.StandFault.{StandFault}
use Rattle.mrc_stand_for.specs.declared.known.Known.{Known}
use Rattle.mrc_stand_for.specs.declared.known.Member.{Member}
use Rattle.mrc_stand_for.specs.Known.{is_member, member_class}
use Rattle.mrc_wide_policy.specs.declared.asked.Asked.{Asked}
use Rattle.mrc_wide_policy.specs.declared.facts.PolicyStands.{PolicyStands}
use Rattle.mrc_wide_policy.specs.declared.policies.PolicyRefusal.{PolicyRefusal}
use Rattle.mrc_wide_policy.specs.declared.policies.PolicyRefusal.TheVariants.{Text, Stands}
use Rattle.mrc_wide_policy.specs.declared.says.PolicySays.{PolicySays}
use Rattle.mrc_wide_policy.specs.Asked.{asked_by, asked_fact, older_line, older_stands, line_asks}
use Rattle.mrc_wide_policy.specs.AskedLaws.{OlderPoliciesAskForTheirLines, forbidden_line}
use Rattle.mrc_wide_policy.specs.Policies.{wide_or, older_or, or_older, stands_of, StandFor}
use Rattle.mrc_wide_policy.specs.PolicyReading.{wide_policy_of}
use Rattle.mrc_wide_policy.specs.PolicyStanding.{policy_stands}
use Rattle.mrc_wide_policy.proofs.TextLemmas.{text_found, text_read, text_older}

-- ---- what was read

wide_is : (r : Result PolicyStands StandFault) (stands : PolicyStands)
    → wide_or r ≡ Ok stands
    → r ≡ Ok stands
wide_is (Ok one) stands e = ap (λ (s : PolicyStands). Ok s) (ok_is one stands e)
wide_is (Err fault) stands e = err_is_ok (Stands fault) stands e

older_found : (known : Known) (policy : List ℕ) (read : Result (List (Line Forbid)) TextFault)
    (stands : PolicyStands)
    → policy_of policy ≡ read
    → older_or known read ≡ Ok stands
    → StandFor known policy stands
older_found known policy (Ok lines) stands is e =
    inl (
      lines,
      older.text_found _ older_says policy lines is,
      sym (ok_is (older_stands known lines) stands e),
    )
older_found known policy (Err fault) stands is e = err_is_ok (Text fault) stands e

stands_found : (known : Known) (policy : List ℕ)
    (read : Result (List (Line PolicySays)) TextFault) (stands : PolicyStands)
    → wide_policy_of policy ≡ read
    → or_older known policy read ≡ Ok stands
    → StandFor known policy stands
stands_found known policy (Ok lines) stands is e =
    inr (lines, text_found policy lines is, wide_is (policy_stands known lines) stands e)
stands_found known policy (Err Version) stands is e =
    older_found known policy (policy_of policy) stands refl e
stands_found known policy (Err NotUtf8) stands is e = err_is_ok (Text NotUtf8) stands e
stands_found known policy (Err (BadLine n)) stands is e = err_is_ok (Text (BadLine n)) stands e

-- ---- what is read

stands_again : (known : Known) (policy : List ℕ) (stands : PolicyStands)
    → StandFor known policy stands
    → stands_of known policy ≡ Ok stands
stands_again known policy stands (inl is) =
    ap (or_older known policy) (text_older policy is.0 is.1)
    ∙ ap (older_or known) (older.text_read _ older_says policy is.0 is.1)
    ∙ ap (λ (s : PolicyStands). Ok s) (sym is.2)
stands_again known policy stands (inr is) =
    ap (or_older known policy) (text_read policy is.0 is.1) ∙ ap wide_or is.2

-- the two, of what a policy stands for
pub stands_are : (known : Known) (policy : List ℕ) (stands : PolicyStands)
    → stands_of known policy ≡ Ok stands
    → StandFor known policy stands
stands_are known policy stands e =
    stands_found known policy (wide_policy_of policy) stands refl e

pub are_stands : (known : Known) (policy : List ℕ) (stands : PolicyStands)
    → StandFor known policy stands
    → stands_of known policy ≡ Ok stands
are_stands known policy stands is = stands_again known policy stands is

-- ---- what the reader returned

pub found_in : {X : Type 0} (known : Known) (policy : List ℕ) (view : X → PolicyStands)
    (r : Result X (OrMemory PolicyRefusal))
    → Gives view r (stands_of known policy)
    → IfOk r (λ x. StandFor known policy (view x))
found_in known policy view r gives =
    gives_ok (StandFor known policy) view r _ (stands_are known policy) gives

pub read_by : {X : Type 0} (known : Known) (policy : List ℕ) (view : X → PolicyStands)
    (r : Result X (OrMemory PolicyRefusal)) (stands : PolicyStands)
    → Gives view r (stands_of known policy)
    → StandFor known policy stands
    → Gives view r (Ok stands)
read_by known policy view r stands gives is =
    gives_same view r _ (Ok stands) (stands_again known policy stands is) gives

-- ---- an older policy over a wiring none of whose wired ports is births

no_members : (known : Known) (task : List ℕ) (kind : ℕ)
    → known.members ≡ []
    → map member_class (filter (is_member task kind) known.members) ≡ []
no_members known task kind none = rw none refl

line_is : (known : Known) (line : Line Forbid) (class : ClassName)
    → line.says.class ≡ class
    → known.members ≡ []
    → line_asks [] (older_line known line) ≡ forbidden_line line ∷ []
unfolding asked_fact
line_is known line (class.Port port) is none = rw is refl
line_is known line (class.Task task) is none = rw is refl
line_is known line (class.Births task kind) is none =
    rw (is, no_members known task kind none) refl

pub older_asks : OlderPoliciesAskForTheirLines
older_asks known [] none = refl
older_asks known (line ∷ lines) none =
    rw (line_is known line line.says.class refl none, older_asks known lines none) refl
