-- Reading facts one after the other into a set, as a loop does.
use Rattle.std.proofs.Common.{◌≡◌, ℕ, suc, ◌-◌, ◌+◌, ◌≤◌, ◌<◌, false, List, [], ◌∷◌, ◌++◌, drop}
use Rattle.std.proofs.Common.{Option, Some, None, Result, Ok, Err, refl, sym, ap, subst, ◌∙◌}
use Rattle.std.proofs.Common.{append_assoc, arith}
use Rattle.std.specs.Prelude.{IsTrue}
use Rattle.std.specs.declared.cmp.Ordering.{Ordering}
use Rattle.std.specs.declared.cmp.Ordering.TheVariants.{Greater}
use Rattle.std.specs.Ordering.{match_ordering, ordering_reverse, is_lt}
use Rattle.std.proofs.lemmas.Bool.{and_parts}
use Rattle.std.proofs.lemmas.List.{append-nil}
use Rattle.mrc_base.specs.declared.Fact.{Fact}
use Rattle.mrc_facts.specs.Order.{fact_cmp, is_before}
use Rattle.mrc_facts.specs.Sets.{with_fact, are_ascending, IsAscending}
use Rattle.mrc_facts.proofs.Total.{fact_total, Less-is}
use Rattle.mrc_base.specs.declared.memory.OrMemory.{OrMemory}
use Rattle.mrc_base.specs.Reading.{◌>>=◌, Refuses}
use Rattle.mrc_base.proofs.Steps.{refuses_then, refuses_same}
use Rattle.mrc_certificate.specs.declared.fault.DraftFault.{DraftFault}
use Rattle.mrc_certificate.specs.declared.fault.DraftFault.TheVariants.{NotAscending}
use Rattle.mrc_certificate.specs.Reading.{fact_at, comes_after, facts_at}

-- the last of the facts
abbrev pub last_of : List Fact → Option Fact
last_of [] = None
last_of (f ∷ []) = Some f
last_of (f ∷ g ∷ fs) = last_of (g ∷ fs)

pub last_of-push : (fs : List Fact) (f : Fact) → last_of (fs ++ f ∷ []) ≡ Some f
last_of-push [] f = refl
last_of-push (g ∷ []) f = refl
last_of-push (g ∷ h ∷ fs) f = last_of-push (h ∷ fs) f

-- what comes after the last comes after the first
first_before : (g f : Fact) (fs : List Fact)
    → IsAscending (g ∷ fs)
    → IsTrue (comes_after (last_of (g ∷ fs)) f)
    → IsTrue (is_before g f)
first_before g f [] ascending comes = comes
first_before g f (h ∷ fs) ascending comes =
    let parts = and_parts (is_before g h) (are_ascending (h ∷ fs)) ascending in
    ap is_lt (fact_total.trans g h f (Less-is (fact_cmp g h) parts.0)
    (Less-is (fact_cmp h f) (first_before h f fs parts.1 comes)))

-- a fact that comes after g is put behind it
behind : (g f : Fact) (fs gs : List Fact)
    → IsTrue (is_before g f)
    → with_fact fs f ≡ gs
    → with_fact (g ∷ fs) f ≡ g ∷ gs
behind g f fs gs before is =
    let greater : fact_cmp f g ≡ Greater = fact_total.antisymm f g
    ∙ ap ordering_reverse (Less-is (fact_cmp g f) before) in
    ap (λ (o : Ordering). match_ordering o (f ∷ g ∷ fs) (g ∷ fs) (g ∷ with_fact fs f)) greater
    ∙ ap (λ (x : List Fact). g ∷ x) is

-- a fact that comes after the last is put at the end
pub with_fact-last : (fs : List Fact) (f : Fact)
    → IsAscending fs
    → IsTrue (comes_after (last_of fs) f)
    → with_fact fs f ≡ fs ++ f ∷ []
with_fact-last [] f ascending comes = refl
with_fact-last (g ∷ []) f ascending comes = behind g f [] (f ∷ []) comes refl
with_fact-last (g ∷ h ∷ fs) f ascending comes =
    behind g f (h ∷ fs) ((h ∷ fs) ++ f ∷ []) (first_before g f (h ∷ fs) ascending comes)
    (with_fact-last (h ∷ fs) f (and_parts (is_before g h) (are_ascending (h ∷ fs)) ascending).1
    comes)

-- what was read before, and what is still read
abbrev pub with_front : List Fact
    → Result (List Fact × List ℕ) DraftFault
    → Result (List Fact × List ℕ) DraftFault
with_front front read = read >>= λ x. Ok (front ++ x.0, x.1)

regroup : (front : List Fact) (f : Fact) (read : Result (List Fact × List ℕ) DraftFault)
    → with_front front (read >>= λ x. Ok (f ∷ x.0, x.1)) ≡ with_front (front ++ f ∷ []) read
regroup front f (Ok x) = ap (λ (fs : List Fact). Ok (fs, x.1)) (simp append_assoc)
regroup front f (Err e) = refl

-- what is left to read in a turn, and what reading gives in all
pub record Left (tasks classes count i at : ℕ) (before : Option Fact) (front : List Fact)
    (bytes : List ℕ) (total : Result (List Fact × List ℕ) DraftFault) : Type 0 where
  pub so_far : with_front front (facts_at tasks classes (count - i) at before bytes) ≡ total
  pub last : before ≡ last_of front

pub goes_on : (tasks classes count i at : ℕ) (before : Option Fact) (front : List Fact)
    (bytes : List ℕ) (total : Result (List Fact × List ℕ) DraftFault)
    → Left tasks classes count i at before front bytes total
    → i < count
    → (f : Fact)
    → fact_at tasks classes at bytes ≡ Ok f
    → IsTrue (comes_after before f)
    → IsAscending front
    → Left tasks classes count (i + 1) (at + 6) (Some f) (with_fact front f) (drop 6 bytes) total
unfolding facts_at
goes_on tasks classes count i at before front bytes total left lt f is comes ascending =
    let k : count - i ≡ suc (count - (i + 1)) = omega arith in
    let others = facts_at tasks classes (count - (i + 1)) (at + 6) (Some f) (drop 6 bytes) in
    let one : with_front front (facts_at tasks classes (count - i) at before bytes) ≡ with_front
    (front ++ f ∷ []) others = rw (k, is, comes) (regroup front f others) in
    let put : with_fact front f ≡ front ++ f ∷ [] = with_fact-last front f ascending
    (subst (λ (o : Option Fact). IsTrue (comes_after o f)) left.last comes) in
    record {
      so_far = ap (λ (fs : List Fact). with_front fs others) put ∙ sym one ∙ left.so_far;
      last = sym (ap last_of put ∙ last_of-push front f);
    }

-- a refusal of the next fact is one of them all
pub ends : (tasks classes count i at : ℕ) (before : Option Fact) (front : List Fact)
    (bytes : List ℕ) (total : Result (List Fact × List ℕ) DraftFault)
    → Left tasks classes count i at before front bytes total
    → i < count
    → (refusal : OrMemory DraftFault)
    → Refuses refusal (fact_at tasks classes at bytes)
    → Refuses refusal total
unfolding facts_at
ends tasks classes count i at before front bytes total left lt refusal h =
    let k : count - i ≡ suc (count - (i + 1)) = omega arith in
    let rest = facts_at tasks classes (suc (count - (i + 1))) at before bytes in
    let one : Refuses refusal rest = refuses_then refusal (fact_at tasks classes at bytes) _ h in
    let all : with_front front rest ≡ total =
    ap (λ n. with_front front (facts_at tasks classes n at before bytes)) (sym k) ∙ left.so_far
    in
    refuses_same refusal (with_front front rest) total all (refuses_then refusal rest _ one)

-- a fact that does not come after the one before it
pub misplaced : (tasks classes count i at : ℕ) (before : Option Fact) (front : List Fact)
    (bytes : List ℕ) (total : Result (List Fact × List ℕ) DraftFault)
    → Left tasks classes count i at before front bytes total
    → i < count
    → (f : Fact)
    → fact_at tasks classes at bytes ≡ Ok f
    → comes_after before f ≡ false
    → total ≡ Err (NotAscending at)
unfolding facts_at
misplaced tasks classes count i at before front bytes total left lt f is comes =
    let k : count - i ≡ suc (count - (i + 1)) = omega arith in
    let one : with_front front (facts_at tasks classes (count - i) at before bytes) ≡ Err
    (NotAscending at) = rw (k, is, comes) refl in
    sym left.so_far ∙ one

pub is_done : (tasks classes count i at : ℕ) (before : Option Fact) (front : List Fact)
    (bytes : List ℕ) (total : Result (List Fact × List ℕ) DraftFault)
    → Left tasks classes count i at before front bytes total
    → count ≤ i → total ≡ Ok (front, bytes)
unfolding facts_at
is_done tasks classes count i at before front bytes total left le =
    let k : count - i ≡ 0 = omega arith in
    let one : with_front front (facts_at tasks classes (count - i) at before bytes) ≡ Ok
    (front, bytes) = rw k (ap (λ (fs : List Fact). Ok (fs, bytes)) (append-nil front)) in
    sym left.so_far ∙ one
