-- Facts one after the other, read and written.
use Rattle.std.proofs.Common.{◌≡◌, ℕ, zero, suc, ◌+◌, ◌^◌, ◌<◌, cond, List, [], ◌∷◌, ◌++◌, length}
use Rattle.std.proofs.Common.{drop, Option, Some, None, Result, Ok, Err, refl, ap, subst, ◌∙◌}
use Rattle.std.proofs.Common.{append_assoc}
use Rattle.std.specs.Prelude.{IsTrue}
use Rattle.std.specs.List.{list_all}
use Rattle.std.specs.Option.{option_to_list}
use Rattle.std.proofs.lemmas.Bool.{and_parts, and_from}
use Rattle.std.proofs.lemmas.List.Concat.{flat_map-cons}
use Rattle.mrc_base.specs.declared.Fact.{Fact}
use Rattle.mrc_facts.specs.Order.{fact_bytes, is_before}
use Rattle.mrc_facts.specs.Sets.{are_ascending}
use Rattle.mrc_certificate.specs.declared.fault.DraftFault.{DraftFault}
use Rattle.mrc_certificate.specs.declared.fault.DraftFault.TheVariants.{NotAscending}
use Rattle.mrc_base.specs.Reading.{◌>>=◌}
use Rattle.mrc_base.proofs.Steps.{bind_ok, passed, ok_is}
use Rattle.mrc_certificate.specs.Drafts.{is_within, AreWithin}
use Rattle.mrc_certificate.specs.Spelling.{facts_bytes}
use Rattle.mrc_certificate.specs.Reading.{fact_at, comes_after, facts_at}
use Rattle.mrc_certificate.proofs.Fields.{IsBytes, Takes, Takes-then}
use Rattle.mrc_certificate.proofs.Six.{fact_takes, fact_again}

-- facts ascend, also behind the one before them
abbrev pub AscendBehind : Option Fact → List Fact → Type 0
AscendBehind before facts = IsTrue (are_ascending (option_to_list before ++ facts))

put_behind : (before : Option Fact) (f : Fact) (fs : List Fact)
    → IsTrue (comes_after before f)
    → IsTrue (are_ascending (f ∷ fs))
    → AscendBehind before (f ∷ fs)
put_behind None f fs comes ascending = ascending
put_behind (Some g) f fs comes ascending =
    and_from (is_before g f) (are_ascending (f ∷ fs)) comes ascending

take_behind : (before : Option Fact) (f : Fact) (fs : List Fact)
    → AscendBehind before (f ∷ fs)
    → IsTrue (comes_after before f) × IsTrue (are_ascending (f ∷ fs))
take_behind None f fs h = (refl, h)
take_behind (Some g) f fs h = and_parts (is_before g f) (are_ascending (f ∷ fs)) h

nothing_behind : (before : Option Fact) → AscendBehind before []
nothing_behind None = refl
nothing_behind (Some f) = refl

-- what a reader of facts took from the front
pub record TakesFacts (tasks classes n : ℕ) (before : Option Fact) (bytes : List ℕ)
    (x : List Fact × List ℕ) : Type 0 where
  pub taken : Takes bytes (facts_bytes x.0) x.1
  pub len : length x.0 ≡ n
  pub within : AreWithin tasks classes x.0
  pub ascend : AscendBehind before x.0

pub facts_take : (tasks classes n at : ℕ) (before : Option Fact) (bytes : List ℕ)
    (x : List Fact × List ℕ)
    → IsBytes bytes
    → facts_at tasks classes n at before bytes ≡ Ok x
    → TakesFacts tasks classes n before bytes x
unfolding facts_at
facts_take tasks classes zero at before bytes x fits e =
    subst (TakesFacts tasks classes 0 before bytes) (ok_is ([], bytes) x e)
    (record {
      taken = record { parts = refl; rest_fits = fits };
      len = refl;
      within = refl;
      ascend =
          nothing_behind before;
    })
facts_take tasks classes (suc n) at before bytes x fits e =
    let rest_of : Fact → Result (List Fact × List ℕ) DraftFault = λ f. cond (comes_after before f)
    (facts_at tasks classes n (at + 6) (Some f) (drop 6 bytes)) (Err (NotAscending at)) in
    let a = bind_ok (fact_at tasks classes at bytes)
    (λ f. rest_of f >>= λ others. Ok (f ∷ others.0, others.1)) x e in
    let f = a.0 in
    let b = bind_ok (rest_of f) (λ others. Ok (f ∷ others.0, others.1)) x a.2 in
    let p = passed (comes_after before f) (NotAscending at)
    (facts_at tasks classes n (at + 6) (Some f) (drop 6 bytes)) b.0 b.1 in
    let one = fact_takes tasks classes at bytes f fits a.1 in
    let others = facts_take tasks classes n (at + 6) (Some f) (drop 6 bytes) b.0 one.0.rest_fits
    p.1 in
    let both = Takes-then bytes (fact_bytes f) (drop 6 bytes) (facts_bytes b.0.0) b.0.1 one.0
    others.taken in
    let made : List Fact × List ℕ = (f ∷ b.0.0, b.0.1) in
    subst (TakesFacts tasks classes (suc n) before bytes) {x = made} (ok_is made x b.2) (record {
      taken = rw flat_map-cons both;
      len = ap suc others.len;
      within = and_from (is_within tasks classes f) (list_all (is_within tasks classes) b.0.0) one.1
          others.within;
      ascend = put_behind before f b.0.0 p.0 others.ascend;
    })

pub facts_again : (tasks classes at : ℕ) (before : Option Fact) (facts : List Fact) (rest : List ℕ)
    → tasks < 2 ^ 16
    → classes < 2 ^ 16
    → AreWithin tasks classes facts
    → AscendBehind before facts
    → facts_at tasks classes (length facts) at before (facts_bytes facts ++ rest) ≡ Ok (facts, rest)
unfolding facts_at
facts_again tasks classes at before [] rest fits_tasks fits_classes within ascend = refl
facts_again tasks classes at before (f ∷ fs) rest fits_tasks fits_classes within ascend =
    let regrouped : facts_bytes (f ∷ fs) ++ rest ≡ fact_bytes f ++ (facts_bytes fs ++ rest) = ap
    (λ (x : List ℕ). x ++ rest) (flat_map-cons fact_bytes f fs)
    ∙ append_assoc (fact_bytes f) (facts_bytes fs) rest in
    let parts = and_parts (is_within tasks classes f) (list_all (is_within tasks classes) fs)
    within in
    let order = take_behind before f fs ascend in
    ap (facts_at tasks classes (suc (length fs)) at before) regrouped
    ∙ rw (
      fact_again tasks classes at f (facts_bytes fs ++ rest) fits_tasks fits_classes parts.0,
      order.0,
      facts_again tasks classes (at + 6) (Some f) fs rest fits_tasks fits_classes parts.1
          order.1,
    ) refl
