-- The first of the objections, taken one by one, is the one that counts.
use Rattle.std.proofs.Common.{◌≡◌, ◌<◌, ◌≤◌, ◌⊎◌, ℕ, Bool, true, false, List, [], ◌∷◌, Option, Some}
use Rattle.std.proofs.Common.{None, inl, inr, refl, arith, ◌∙◌, ap, suc, zero}
use Rattle.std.proofs.Common.{if◌then◌else◌, subst, sym, IfOk, Result, Ok, Err}
use Rattle.std.specs.declared.alloc.AllocError.{AllocError}
use Rattle.std.specs.Prelude.{◌==◌, ◌||◌, ◌&&◌, nat_lt, All, Contains}
use Rattle.std.specs.List.{fold}
use Rattle.std.proofs.lemmas.Bool.Decides.{nat_tests}
use Rattle.std.proofs.lemmas.List.Sums.{fold-append}
use Rattle.std.proofs.lemmas.List.Elements.{All-cons, All-head, All-tail}
use Rattle.mrc_mig_types.specs.declared.shapes.By.{By}
use Rattle.mrc_mig_bodies.specs.declared.kinds.RoutineKind.{RoutineKind}
use Rattle.mrc_mig_bodies.specs.declared.objections.Objection.{Objection}
use Rattle.mrc_mig_bodies.specs.Listed.{is_sooner, sooner, first_of, IsFirstOf, objections}
use Rattle.mrc_mig_bodies.specs.Listed.{port_objections, each_objections}
use Rattle.mrc_mig_bodies.specs.Objections.{IsNotBehind, IsFirst, Objects, rank}
use Rattle.mrc_mig_bodies.specs.Parameters.{Parameter}
use Rattle.mrc_mig_bodies.specs.Roles.{request_port, settled}
use Rattle.mrc_mig_bodies.proofs.ListedLemmas.{first_told}

-- what the test of two numbers says
by_test : (a b r s : ℕ) → (nat_lt a b || ((b == a) && nat_lt r s)) ≡ true
    → (a < b) ⊎ ((b ≡ a) × (r ≤ s))
by_test a b r s test = grind (arith, nat_tests)

by_no_test : (a b r s : ℕ) → (nat_lt a b || ((b == a) && nat_lt r s)) ≡ false
    → (b < a) ⊎ ((a ≡ b) × (s ≤ r))
by_no_test a b r s test = grind (arith, nat_tests)

-- one that comes before another, or is at its place, is not behind it
is_not_behind : (next first : Objection) → is_sooner next first ≡ true → IsNotBehind next first
is_not_behind next first test =
    by_test first.at next.at (rank next.word) (rank first.word) test

stays_first : (next first : Objection) → is_sooner next first ≡ false → IsNotBehind first next
stays_first next first test =
    by_no_test first.at next.at (rank next.word) (rank first.word) test

not_behind_itself : (a : Objection) → IsNotBehind a a
not_behind_itself a = inr (refl, omega arith)

behind_both : (a b c : Objection) → IsNotBehind a b → IsNotBehind b c → IsNotBehind a c
behind_both a b c (inl less) (inl more) = inl (omega arith)
behind_both a b c (inl less) (inr (same, more)) = inl (omega arith)
behind_both a b c (inr (same, less)) (inl more) = inl (omega arith)
behind_both a b c (inr (same, less)) (inr (equal, more)) = inr (omega arith, omega arith)

-- an element of a tail
later : {X : Type 0} (x : X) (xs : List X) (y : X) → Contains xs y → Contains (x ∷ xs) y
later x xs y (k, less, is) = (suc k, omega arith, is)

-- the one that counts, of one and those behind it
record Best (first : Objection) (others : List Objection) : Type 0 where
  best : Objection
  is : fold sooner (Some first) others ≡ Some best
  among : Contains (first ∷ others) best
  least : All (IsNotBehind best) (first ∷ others)

-- one more behind the first, which is not the best
skipped : {X : Type 0} (x y : X) (xs : List X) (z : X) → Contains (x ∷ xs) z
    → Contains (x ∷ y ∷ xs) z
skipped x y xs z (zero, less, is) = (zero, omega arith, is)
skipped x y xs z (suc k, less, is) = (suc (suc k), omega arith, is)

-- the best of all, from the best behind the second and behind the first
choose : (first next : Objection) (others : List Objection) (b : Bool)
    → is_sooner next first ≡ b → Best next others → Best first others
    → Best first (next ∷ others)
choose first next others true test found other = record {
  best = found.best;
  is = ap (λ b. fold sooner (if b then Some next else Some first) others) test ∙ found.is;
  among = later first (next ∷ others) found.best found.among;
  least = All-cons (IsNotBehind found.best) first (next ∷ others)
      (behind_both found.best next first
      (All-head (IsNotBehind found.best) next others found.least)
      (is_not_behind next first test)) found.least;
}
choose first next others false test other found = record {
  best = found.best;
  is = ap (λ b. fold sooner (if b then Some next else Some first) others) test ∙ found.is;
  among = skipped first next others found.best found.among;
  least = All-cons (IsNotBehind found.best) first (next ∷ others)
      (All-head (IsNotBehind found.best) first others found.least)
      (All-cons (IsNotBehind found.best) next others
      (behind_both found.best first next
      (All-head (IsNotBehind found.best) first others found.least)
      (stays_first next first test))
      (All-tail (IsNotBehind found.best) first others found.least));
}

best_of : (first : Objection) (others : List Objection) → Best first others
best_of first [] = record {
  best = first;
  is = refl;
  among = (zero, omega arith, refl);
  least = All-cons (IsNotBehind first) first [] (not_behind_itself first)
      (λ k d less. absurd (omega arith));
}
best_of first (next ∷ others) =
    choose first next others (is_sooner next first) refl (best_of next others)
    (best_of first others)

-- the first of all is the one that counts
pub is_first : (found : List Objection) → IsFirstOf found (first_of found)
is_first [] = refl
is_first (first ∷ others) =
    let b = best_of first others in rw b.is (b.among, b.least)

-- the first of all, from the first that objects to the request port
pub first_behind : (kind : RoutineKind) (judged : By) (end_at : ℕ)
    (arguments items : List Parameter) (port : Option Parameter) (before : Option Objection)
    (result : Result (Option Objection) AllocError)
    → before ≡ first_of (port_objections port end_at) → port ≡ request_port arguments
    → items ≡ settled arguments
    → IfOk result (λ found. found ≡ fold sooner before (each_objections kind judged [] items))
    → IfOk result (λ found. IsFirst (Objects kind judged end_at arguments) found)
first_behind kind judged end_at arguments items port before (Ok found) first_is port_is are is =
    let parts = is
    ∙ (ap (λ b. fold sooner b (each_objections kind judged [] items))
    (first_is ∙ ap (λ p. first_of (port_objections p end_at)) port_is)
    ∙ (ap (λ xs. fold sooner (first_of (port_objections (request_port arguments) end_at))
    (each_objections kind judged [] xs)) are
    ∙ sym (fold-append sooner None (port_objections (request_port arguments) end_at)
    (each_objections kind judged [] (settled arguments))))) in
    first_told kind judged end_at arguments found
    (subst (IsFirstOf (objections kind judged end_at arguments)) (sym parts)
    (is_first (objections kind judged end_at arguments)))
first_behind kind judged end_at arguments items port before (Err e) first_is port_is are is = tt
