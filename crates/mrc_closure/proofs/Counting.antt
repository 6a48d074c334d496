-- How many facts there can be over a wiring's tasks and classes, and so how many rounds.
use Rattle.std.proofs.Common.{◌≡◌, ℕ, ◌+◌, ◌*◌, ◌-◌, ◌^◌, ◌<◌, ◌≤◌, false, List, []}
use Rattle.std.proofs.Common.{◌∷◌, length, refl, subst, IsTrue, inl, inr, arith}
use Rattle.std.proofs.lemmas.Bool.{or_left, or_right, and_parts}
use Rattle.mrc_base.specs.declared.Fact.{Fact}
use Rattle.mrc_base.specs.declared.Fact.TheVariants.{Hold, Carry, Backup}
use Rattle.mrc_base.specs.declared.PortRight.TheVariants.{Send, Receive, SendOnce}
use Rattle.mrc_model.specs.Wiring.{Wiring, classes}
use Rattle.mrc_model.specs.Rules.{InRange}
use Rattle.mrc_facts.specs.Order.{is_same, is_before, kind, first_number, second_number}
use Rattle.mrc_facts.specs.Order.{last_byte}
use Rattle.mrc_facts.specs.Sets.{has, are_ascending, IsAscending}
use Rattle.mrc_facts.proofs.Total.{same_itself}
use Rattle.mrc_facts.proofs.Comparing.{cmp_less, last_less}
use Rattle.mrc_wiring.specs.Table.{Table, wiring_of}
use Rattle.mrc_closure.specs.Merging.{Merged}
use Rattle.mrc_closure.specs.Least.{IsLeastList}
use Rattle.mrc_closure.proofs.Keeping.{some, IsRound, at_rest}

-- a number that rises with the order of facts
abbrev pub code : Fact → ℕ
code f = kind f * 2 ^ 30 + first_number f * 2 ^ 16 + second_number f * 2 ^ 2 + last_byte f

-- the wiring has few tasks and classes
pub record IsSmall (W : Wiring) : Type 0 where
  pub tasks : W.tasks < 2 ^ 14
  pub classes : classes W < 2 ^ 14

-- tasks are no more than classes
pub small_of : (W : Wiring) → classes W < 2 ^ 14 → IsSmall W
small_of W few = record { tasks = omega (arith, few); classes = few }

-- the parts of a fact's number are below their bounds
pub record IsCoded (f : Fact) : Type 0 where
  pub kind_there : 1 ≤ kind f
  pub kind : kind f < 4
  pub first : first_number f < 2 ^ 14
  pub second : second_number f < 2 ^ 14
  pub last : last_byte f < 4

coded_by : (f : Fact) (k a b l : ℕ)
    → kind f ≡ k
    → first_number f ≡ a
    → second_number f ≡ b
    → last_byte f ≡ l
    → (1 ≤ k) × (k < 4)
    → (a < 2 ^ 14) × (b < 2 ^ 14)
    → l < 4
    → IsCoded f
coded_by f k a b l ek ea eb el hk h hl = record {
  kind_there = omega (arith, ek, hk.0);
  kind = omega (arith, ek, hk.1);
  first = omega (arith, ea, h.0);
  second = omega (arith, eb, h.1);
  last = omega (arith, el, hl);
}

coded : (W : Wiring) → IsSmall W → (f : Fact) → InRange W f → IsCoded f
coded W small (Hold t c Send) h =
    coded_by _ 1 t c 0 refl refl refl refl (omega arith, omega arith)
    (omega (arith, h.0, small.tasks), omega (arith, h.1, small.classes)) (omega arith)
coded W small (Hold t c Receive) h =
    coded_by _ 1 t c 1 refl refl refl refl (omega arith, omega arith)
    (omega (arith, h.0, small.tasks), omega (arith, h.1, small.classes)) (omega arith)
coded W small (Hold t c SendOnce) h =
    coded_by _ 1 t c 2 refl refl refl refl (omega arith, omega arith)
    (omega (arith, h.0, small.tasks), omega (arith, h.1, small.classes)) (omega arith)
coded W small (Carry d c Send) h =
    coded_by _ 2 d c 0 refl refl refl refl (omega arith, omega arith)
    (omega (arith, h.0, small.classes), omega (arith, h.1, small.classes)) (omega arith)
coded W small (Carry d c Receive) h =
    coded_by _ 2 d c 1 refl refl refl refl (omega arith, omega arith)
    (omega (arith, h.0, small.classes), omega (arith, h.1, small.classes)) (omega arith)
coded W small (Carry d c SendOnce) h =
    coded_by _ 2 d c 2 refl refl refl refl (omega arith, omega arith)
    (omega (arith, h.0, small.classes), omega (arith, h.1, small.classes)) (omega arith)
coded W small (Backup c d) h =
    coded_by _ 3 c d 0 refl refl refl refl (omega arith, omega arith)
    (omega (arith, h.0, small.classes), omega (arith, h.1, small.classes)) (omega arith)

code_less : (f g : Fact) → IsCoded f → IsCoded g → IsTrue (is_before f g) → code f < code g
code_less f g a b h =
    elim (cmp_less (kind f) (kind g) _ h) [
      | inl low ↦ omega (arith, a.first, a.second, a.last, b.first, b.second, b.last)
      | inr (same, rest) ↦ elim (cmp_less (first_number f) (first_number g) _ rest) [
        | inl low ↦ omega (arith, a.first, a.second, a.last, b.first, b.second, b.last)
        | inr (same_first, rest_second) ↦ elim
            (cmp_less (second_number f) (second_number g) _ rest_second) [
              | inl low ↦ omega (arith, a.last, b.last)
              | inr (same_second, last) ↦
                  let low = last_less (last_byte f) (last_byte g) last in omega arith
            ]
      ]
    ]

counted : (f : Fact) (fs : List Fact)
    → IsAscending (f ∷ fs)
    → ((g : Fact) → IsTrue (has (f ∷ fs) g) → IsCoded g)
    → code f + length (f ∷ fs) ≤ 2 ^ 32
counted f [] ascending all =
    let a = all f (or_left (is_same f f) false (same_itself f)) in
    omega (arith, a.kind, a.first, a.second, a.last)
counted f (g ∷ fs) ascending all =
    let parts = and_parts (is_before f g) (are_ascending (g ∷ fs)) ascending in
    let more = counted g fs parts.1
    (λ h at. all h (or_right (is_same h f) (has (g ∷ fs) h) at)) in
    let less = code_less f g (all f (or_left (is_same f f) (has (g ∷ fs) f) (same_itself f)))
    (all g (or_right (is_same g f) (has (g ∷ fs) g)
    (or_left (is_same g g) (has fs g) (same_itself g)))) parts.0 in
    let one : length (f ∷ g ∷ fs) ≡ length (g ∷ fs) + 1 = omega arith in
    omega (arith, more, less, one)

pub few : (W : Wiring)
    → IsSmall W
    → (facts : List Fact)
    → IsAscending facts
    → ((g : Fact) → IsTrue (has facts g) → InRange W g)
    → length facts < 2 ^ 32
few W small [] ascending all = omega arith
few W small (f ∷ fs) ascending all =
    let h = counted f fs ascending (λ g at. coded W small g (all g at)) in
    let a = coded W small f (all f (or_left (is_same f f) (has fs f) (same_itself f))) in
    omega (arith, h, a.kind_there)

-- the measure of a round: one that finds nothing new is the last
pub fewer : (W : Wiring)
    → IsSmall W
    → (facts new found facts_then new_then : List Fact)
    → some new ≡ 1
    → IsRound W facts_then new_then
    → Merged facts found facts_then new_then
    → 2 * (2 ^ 32 - length facts_then) + some new_then < 2 * (2 ^ 32 - length facts) + some new
fewer W small facts new found facts_then new_then one round m =
    rest (few W small facts_then round.ascending (λ g h. (round.derived g h).0)) new_then m.len
  where
    rest : length facts_then < 2 ^ 32
        → (xs : List Fact)
        → length facts_then ≡ length facts + length xs
        → 2 * (2 ^ 32 - length facts_then) + some xs < 2 * (2 ^ 32 - length facts) + some new
    rest h [] e = omega (arith, h, e, one)
    rest h (x ∷ xs) e = omega (arith, h, e, one)

-- a wiring has as few classes as it tells
pub small_at : (table : Table) (n : ℕ) → n ≡ classes (wiring_of table) → n < 2 ^ 14
    → IsSmall (wiring_of table)
small_at table n is low = small_of (wiring_of table) (subst (λ k. k < 2 ^ 14) is low)

-- no new fact is left
pub least_list : (W : Wiring) → IsSmall W → (facts new : List Fact) → new ≡ [] → IsRound W facts new
    → IsLeastList W facts
least_list W small facts new none round = record {
  least = at_rest W facts (subst (IsRound W facts) none round);
  in_range = λ f h. (round.derived f h).0;
  ascending = round.ascending;
  few = few W small facts round.ascending (λ f h. (round.derived f h).0);
}
