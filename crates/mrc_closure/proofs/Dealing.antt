-- Places dealt out among workers, and what they found there put together.
use Rattle.std.proofs.Common.{◌≡◌, ℕ, ◌+◌, ◌%◌, ◌<◌, List, [], refl, sym, subst}
use Rattle.std.proofs.Common.{false, IsTrue, inl, inr, arith}
use Rattle.std.specs.Prelude.{◌||◌, Result, Ok, Err, MatchResult}
use Rattle.std.specs.declared.alloc.AllocError.{AllocError}
use Rattle.std.proofs.lemmas.Bool.{cases_eq, or_cases, or_left, or_right, false≢true}
use Rattle.std.proofs.lemmas.Nat.{mod_below}
use Rattle.mrc_base.specs.declared.Fact.{Fact}
use Rattle.mrc_model.specs.Wiring.{Wiring, classes}
use Rattle.mrc_facts.specs.Sets.{has}
use Rattle.mrc_wiring.specs.Table.{Table, wiring_of}
use Rattle.mrc_classes.specs.Growing.{Added, Below, nothing}
use Rattle.mrc_classes.specs.Following.{IsListOf}
use Rattle.mrc_classes.proofs.Placing.{to_place, from_place}
use Rattle.mrc_closure.specs.declared.workers.Part.{Part}
use Rattle.mrc_closure.specs.Working.{IsWorking}
use Rattle.mrc_closure.proofs.Keeping.{FromOne}
use Rattle.mrc_closure.specs.Dealing.{AtTurn, FromDealt, FromFirst, IsFind}

-- all that was put into an empty set at the worker's places
pub all_dealt : (W : Wiring) (facts new : List Fact) (worker workers n : ℕ) (found : List Fact)
    → n ≡ classes W
    → Added nothing (has found) (Below n (AtTurn W facts new worker workers))
    → IsListOf (FromDealt W facts new worker workers) found
unfolding FromDealt
all_dealt W facts new worker workers n found all added g =
    let whole = subst (λ m. Added nothing (has found) (Below m (AtTurn W facts new worker workers)))
    all added in (
      (λ h. elim (whole.new g h) [ inl none ↦ absurd (false≢true none) | inr x ↦ x ]),
      whole.all g,
    )

-- the finds of the workers

pub first_none : (W : Wiring) (facts new : List Fact) (workers : ℕ) (all : List Fact)
    → all ≡ []
    → IsListOf (FromFirst W facts new 0 workers) all
first_none W facts new workers all e g = (
  (λ h. absurd (false≢true (subst (λ fs. IsTrue (has fs g)) e h))),
  (λ x. absurd (let h = x.below in omega arith)),
)

pub first_more : (W : Wiring) (facts new : List Fact) (n workers : ℕ) (all found after : List Fact)
    → IsListOf (FromFirst W facts new n workers) all
    → IsListOf (FromDealt W facts new n workers) found
    → ((g : Fact) → has after g ≡ (has all g || has found g))
    → IsListOf (FromFirst W facts new (n + 1) workers) after
first_more W facts new n workers all found after before one both g = (
  (λ h. elim (or_cases (has all g) (has found g) (subst IsTrue (both g) h)) [
    | inl old ↦ let x = (before g).0 old in
        record { worker = x.worker; below = let h = x.below in omega arith; from = x.from }
    | inr got ↦ record { worker = n; below = omega arith; from = (one g).0 got }
  ]),
  (λ x. subst IsTrue (sym (both g)) (elim (cases_eq x.worker n) [
    | inl e ↦ or_right (has all g) (has found g)
        ((one g).1 (subst (λ k. FromDealt W facts new k workers g) e x.from))
    | inr other ↦ or_left (has all g) (has found g) ((before g).1
        (record { worker = x.worker; below = let h = x.below in omega arith; from = x.from }))
  ])),
)

-- each place is the turn of one of the workers
pub from_all : (W : Wiring) (facts new : List Fact) (workers : ℕ) (found : List Fact)
    → 0 < workers
    → ((f : Fact) → IsTrue (has new f) → IsTrue (has facts f))
    → IsListOf (FromFirst W facts new workers workers) found
    → IsListOf (FromOne W facts new) found
unfolding FromDealt
from_all W facts new workers found some among is g = (
  (λ h. let x = ((is g).0 h).from in
      let one = from_place W (has facts) (has new) (has facts) among x.place g x.at.at in
      record {
        premise = one.premise;
        there = one.new;
        consequence = one.consequence;
        fresh = x.at.at.at.unknown;
      }),
  (λ x. let at = to_place W (has facts) (has new) (has facts) among x.premise g x.there x.fresh
      x.consequence in
      (is g).1 (record {
        worker = at.place % workers;
        below = mod_below at.place workers some;
        from = record {
          place = at.place;
          below = at.below;
          at = record { turn = refl; at = at.at };
        };
      })),
)

-- what a worker found the set lacks
pub dealt_fresh : (W : Wiring) (facts new : List Fact) (worker workers : ℕ) (found : List Fact)
    → IsListOf (FromDealt W facts new worker workers) found
    → (g : Fact) → IsTrue (has found g) → has facts g ≡ false
unfolding FromDealt
dealt_fresh W facts new worker workers found is g h = ((is g).0 h).at.at.at.unknown

pub first_fresh : (W : Wiring) (facts new : List Fact) (n workers : ℕ) (found : List Fact)
    → IsListOf (FromFirst W facts new n workers) found
    → (g : Fact) → IsTrue (has found g) → has facts g ≡ false
unfolding FromDealt
first_fresh W facts new n workers found is g h = ((is g).0 h).from.at.at.at.unknown

-- the one worker is the first of one
pub from_alone : (W : Wiring) (facts new : List Fact) (found : List Fact)
    → ((f : Fact) → IsTrue (has new f) → IsTrue (has facts f))
    → IsListOf (FromDealt W facts new 0 1) found
    → IsListOf (FromOne W facts new) found
from_alone W facts new found among is =
    from_all W facts new 1 found (omega arith) among
    (first_more W facts new 0 1 [] found found (first_none W facts new 1 [] refl) is (λ g. refl))

-- what one more worker found is put to the rest
pub first_taken : (W : Wiring) (facts new : List Fact) (n workers : ℕ) (all : List Fact)
    (found : Result (List Fact) AllocError) (after : List Fact)
    → IsListOf (FromFirst W facts new n workers) all
    → IsFind W facts new n workers found
    → MatchResult found (λ one. (g : Fact) → has after g ≡ (has all g || has one g)) (λ e. ⊥)
    → IsListOf (FromFirst W facts new (n + 1) workers) after
first_taken W facts new n workers all (Ok found) after before one both =
    first_more W facts new n workers all found after before one both
first_taken W facts new n workers all (Err e) after before one both = absurd both

-- what a worker promised
pub promised : (table : Table) (facts new : List Fact) (n workers : ℕ) (p : Part)
    (found : Result (List Fact) AllocError)
    → IsWorking table facts new n workers p
    → IsFind (wiring_of p.wired.value) p.facts.value p.new.value p.worker p.workers found
    → IsFind (wiring_of table) facts new n workers found
promised table facts new n workers p found is find =
    subst (λ m. IsFind (wiring_of table) facts new n m found) is.workers_is
    (subst (λ m. IsFind (wiring_of table) facts new m p.workers found) is.worker_is
    (subst (λ fs. IsFind (wiring_of table) facts fs p.worker p.workers found) is.new_is
    (subst (λ fs. IsFind (wiring_of table) fs p.new.value p.worker p.workers found) is.facts_is
    (subst (λ t. IsFind (wiring_of t) p.facts.value p.new.value p.worker p.workers found)
    is.wired_is find))))
