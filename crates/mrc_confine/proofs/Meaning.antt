-- Bytes mean one claim at most, so what is refused of it is refused of each certificate.
use Rattle.std.proofs.Common.{◌≡◌, ◌≢◌, ◌∙◌, ◌<◌, ℕ, Bool, true, false, List, ap, subst, sym}
use Rattle.std.proofs.Common.{IsTrue, not, inl, inr, refl}
use Rattle.std.specs.Prelude.{◌==◌, ◌&&◌, nat_lt}
use Rattle.std.proofs.lemmas.Bool.{false≢true, lt-ltb}
use Rattle.std.proofs.lemmas.Bool.Decides.{eqb_tells}
use Rattle.mrc_base.specs.declared.Fact.{Fact}
use Rattle.mrc_base.specs.declared.Fact.TheVariants.{Hold}
use Rattle.mrc_base.specs.declared.PortRight.TheVariants.{Send}
use Rattle.mrc_base.proofs.Steps.{ok_is}
use Rattle.mrc_check.specs.Demands.{demands_of, forbidden_in}
use Rattle.mrc_check.specs.Texts.{MeanClaim, Policy, all_said}
use Rattle.mrc_check.specs.Trusted.{is_bound, may_rewrite}
use Rattle.mrc_confine.specs.Safety.{HasRewriter, HaveNoYes, IsBroken, IsNo}
use Rattle.mrc_facts.specs.Sets.{has}
use Rattle.mrc_interface.proofs.ReadingLaws.{interfaces_read}
use Rattle.mrc_model.specs.Wiring.{Wiring, kernel_class}
use Rattle.mrc_wiring.specs.Claims.{Claimed}
use Rattle.mrc_wiring.specs.declared.claim.ForbiddenLine.{ForbiddenLine}
use Rattle.mrc_wiring.specs.Resolving.{resolved}
use Rattle.mrc_wiring.specs.Table.{Table, wiring_of}
use Rattle.mrc_wide_text.specs.Wirings.{Said}
use Rattle.mrc_wide_text.proofs.SaidLaws.{is_said}
use Rattle.mrc_wide_policy.specs.Asked.{asked_by}
use Rattle.mrc_wide_policy.specs.Policies.{stands_of}
use Rattle.mrc_wide_policy.proofs.StandLemmas.{are_stands}

-- two claims that the same bytes mean are one
same_claim : (defs : List (List ℕ)) (wiring : List ℕ) (policy : Policy) (a b : Claimed)
    → MeanClaim defs wiring policy a → MeanClaim defs wiring policy b → a ≡ b
same_claim defs wiring policy a b m n =
    let interfaces : m.system.interfaces ≡ n.system.interfaces =
    ok_is m.system.interfaces n.system.interfaces
    (sym (interfaces_read defs m.system.interfaces m.system.are_interfaces)
    ∙ interfaces_read defs n.system.interfaces n.system.are_interfaces) in
    let first = all_said m.system.edition m.lines m.known in
    let second = all_said n.system.edition n.lines n.known in
    let said : first ≡ second = ok_is first second
    (sym (is_said wiring first m.system.is_wiring) ∙ is_said wiring second n.system.is_wiring) in
    let lines : m.lines ≡ n.lines = ap (λ (s : Said). s.lines) said in
    let edition : m.system.edition ≡ n.system.edition = ap (λ (s : Said). s.edition) said in
    let known : m.known ≡ n.known = ok_is m.known n.known (ap (λ (s : Said). s.end) said) in
    let table : a.table ≡ b.table = ok_is a.table b.table
    (sym m.system.is_table ∙ ap (λ e. resolved e m.system.interfaces m.lines) edition
    ∙ ap (λ i. resolved n.system.edition i m.lines) interfaces
    ∙ ap (λ l. resolved n.system.edition n.system.interfaces l) lines
    ∙ n.system.is_table) in
    let stands : m.stands ≡ n.stands = ok_is m.stands n.stands
    (sym (are_stands m.known policy.bytes m.stands m.is_policy)
    ∙ ap (λ k. stands_of k policy.bytes) known
    ∙ are_stands n.known policy.bytes n.stands n.is_policy) in
    let demands : m.demands ≡ n.demands = ok_is m.demands n.demands
    (sym m.are_demands ∙ ap (λ t. demands_of t (asked_by m.stands)) table
    ∙ ap (λ s. demands_of b.table (asked_by s)) stands ∙ n.are_demands) in
    let forbidden : a.lines ≡ b.lines =
    m.is_claim ∙ ap (forbidden_in policy.waives) demands ∙ sym n.is_claim in
    let with_table : Table → Claimed = λ t. record { table = t; lines = a.lines } in
    let with_lines : List ForbiddenLine → Claimed = λ l. record { table = b.table; lines = l } in
    ap with_table table ∙ ap with_lines forbidden

all_true : (low same bound held : Bool) → low ≡ true → same ≡ false → bound ≡ false → held ≡ true
    → (low && (not same && (not bound && held))) ≡ true
all_true true false false true l s b h = refl
all_true false same bound held l s b h = absurd (false≢true l)
all_true true true bound held l s b h = absurd (false≢true (sym s))
all_true true false true held l s b h = absurd (false≢true (sym b))
all_true true false false false l s b h = absurd (false≢true h)

unequal : (a b : ℕ) → a ≢ b → (a == b) ≡ false
unequal a b other = elim (eqb_tells a b) [
  | inl same ↦ absurd (other same.1)
  | inr apart ↦ apart.0
]

-- a task may rewrite another if lines do not bind it and it holds the kernel port
may_by : (W : Wiring) (set : Fact → Bool) (t u : ℕ) → t < W.tasks → u ≢ t → is_bound W u ≡ false
    → IsTrue (set (Hold u (kernel_class W t) Send))
    → may_rewrite W set t u ≡ true
may_by W set t u low other free held =
    all_true (nat_lt t W.tasks) (u == t) (is_bound W u) (set (Hold u (kernel_class W t) Send))
    (lt-ltb t W.tasks low) (unequal u t other) free held

-- no set of facts is a yes, so no draft is accepted
pub no_has_no_yes : HaveNoYes IsNo
no_has_no_yes defs wiring policy claim mean refused certificate case says =
    let same = same_claim defs wiring policy claim case.claim mean says.means in
    subst (λ (c : Claimed). IsNo c) same refused (has case.draft.facts) says.accepted.yes
    says.accepted.secure

-- a closed set has each fact of the least one, so a line that forbids one of these is broken
broken_is_no : (claim : Claimed) → IsBroken claim → IsNo claim
broken_is_no claim broken set says secure =
    says.allowed broken.line broken.among (broken.least set says.closed)

pub broken_has_none : HaveNoYes IsBroken
broken_has_none defs wiring policy claim mean broken =
    no_has_no_yes defs wiring policy claim mean (broken_is_no claim broken)

-- a closed set has each fact of the least one, so by it the task could rewrite the trusted one
rewriter_is_no : (claim : Claimed) → HasRewriter claim → IsNo claim
rewriter_is_no claim x set says secure =
    let none = secure x.line x.among x.task x.there in
    let some = may_by (wiring_of claim.table) set x.line.task x.task x.trusted x.other x.free
    (x.least set says.closed) in
    false≢true (sym none ∙ some)

pub rewriter_has_none : HaveNoYes HasRewriter
rewriter_has_none defs wiring policy claim mean x =
    no_has_no_yes defs wiring policy claim mean (rewriter_is_no claim x)
