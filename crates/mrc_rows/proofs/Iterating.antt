-- The fact behind one in its group.
use Rattle.std.proofs.Common.{◌≡◌, ℕ, ◌+◌, ◌*◌, ◌/◌, ◌%◌, ◌<◌, ◌≤◌, ◌==◌, true, false, IsTrue}
use Rattle.std.proofs.Common.{List, length, Option, Some, None, refl, ap, sym, ◌∙◌, inl, inr, arith}
use Rattle.std.specs.Prelude.{◌&&◌, ◌⊎◌, IfSome}
use Rattle.std.proofs.lemmas.Bool.{eq-eqb, ne_eqb, lt-ltb, cases_eq, cases_lt, and_from, true≢false}
use Rattle.mrc_base.specs.Limits.{limit_of_tasks}
use Rattle.mrc_base.specs.declared.Fact.{Fact}
use Rattle.mrc_base.specs.declared.Fact.TheVariants.{Hold, Carry, Backup}
use Rattle.mrc_base.specs.declared.PortRight.{PortRight}
use Rattle.mrc_base.specs.declared.PortRight.TheVariants.{Send, Receive, SendOnce}
use Rattle.mrc_facts.specs.Order.{is_before, right_number}
use Rattle.mrc_facts.specs.Sets.{has, after, IsAscending}
use Rattle.mrc_facts.proofs.Total.{not_before, not_before_itself}
use Rattle.mrc_bits.specs.Bits.{is_set, IsNextBit}
use Rattle.mrc_bits.proofs.Counts.{past}
use Rattle.mrc_rows.specs.Limits.{limit_of_classes, limit_of_words, first_group_of_backups}
use Rattle.mrc_rows.specs.Rows.{IsWithin, is_within, place_of, group_of, key_of}
use Rattle.mrc_rows.specs.Planes.{plane, is_in, place_key, IsFirstBy, IsNextInGroup}
use Rattle.mrc_rows.specs.Joining.{is_of}
use Rattle.mrc_rows.specs.Walking.{ArePlanesOf}
use Rattle.mrc_rows.specs.declared.planes.Planes.{Planes}
use Rattle.mrc_rows.specs.declared.joining.Row.TheVariants.{Holds, Carries, Backups}
use Rattle.mrc_rows.proofs.Rows.{both, right_there, one_key, start_from, from_start, is_after}
use Rattle.mrc_rows.proofs.Rows.{three_ways, precedes_before, before_precedes}

module _ (facts : List Fact) (ascending : IsAscending facts)
    (within : (h : Fact) → IsTrue (has facts h) → IsWithin h) (fact : Fact)
    (there : IsTrue (has facts fact)) (planes : Planes) (are : ArePlanesOf facts (group_of fact) planes) where
  behind : (f : Fact) → IsNextInGroup planes fact f → is_before fact f ≡ true
  behind f next =
      precedes_before fact f (within fact there) next.within (inr (sym next.group, next.later))

  next_in_set : (f : Fact) → IsNextInGroup planes fact f → Some f ≡ after facts fact
  next_in_set f next = is_after facts ascending within fact (Some f) (record {
    member = are f next.within next.group ∙ next.set;
    within = next.within;
    from_there = start_from fact f next.within (behind f next);
    least = λ h has_it from. elim (three_ways h f) [
      | inl low ↦ absurd (between h has_it low (before_precedes fact h (within fact there)
          (within h has_it) (from_start fact h (within h has_it) from)))
      | inr (inl same) ↦ ap (λ x. is_before x f)
          (one_key h f (within h has_it) next.within same.0 same.1) ∙ not_before_itself f
      | inr (inr high) ↦ not_before f h (precedes_before f h next.within (within h has_it) high)
    ];
  }) tt
    where
      in_group : (h : Fact) → IsTrue (has facts h) → group_of h ≡ group_of fact
          → key_of fact < key_of h → key_of h < key_of f → ⊥
      in_group h has_it same low high = true≢false (sym has_it
          ∙ (are h (within h has_it) same ∙ next.first h (within h has_it) same low high))

      between : (h : Fact) → IsTrue (has facts h)
          → (group_of h < group_of f) ⊎ ((group_of h ≡ group_of f) × (key_of h < key_of f))
          → (group_of fact < group_of h)
          ⊎ ((group_of fact ≡ group_of h) × (key_of fact < key_of h)) → ⊥
      between h has_it (inl less) (inl more) = let e = next.group in omega (arith, e, less, more)
      between h has_it (inl less) (inr (same, more)) =
          let e = next.group in omega (arith, e, less, same)
      between h has_it (inr (same, less)) (inl more) =
          let e = next.group in omega (arith, e, same, more)
      between h has_it (inr (same, less)) (inr (also, more)) =
          in_group h has_it (sym also) more less

  pub next_found : (o : Option Fact) → IfSome o (IsNextInGroup planes fact)
      → IfSome o (λ f. Some f ≡ after facts fact)
  next_found None next = tt
  next_found (Some f) next = next_in_set f next

  pub planes_stay : (o : Option Fact) → IfSome o (IsNextInGroup planes fact)
      → IfSome o (λ f. ArePlanesOf facts (group_of f) planes)
  planes_stay None next = tt
  planes_stay (Some f) next = λ g inside same. are g inside (same ∙ next.group)

-- the rows of a task, of what is carried to a class, of a class's backups

abbrev IsShown : List Fact → Fact → List ℕ → Type 0
IsShown facts g words = is_set words (place_of g) ≡ (is_within g && has facts g)

at_key : (planes : Planes) (c n : ℕ) → n < 3
    → is_in planes (3 * c + n) ≡ is_set (plane planes n) c
at_key planes c n low =
    let d : (3 * c + n) / 3 ≡ c = omega arith in
    let m : (3 * c + n) % 3 ≡ n = omega arith in
    rw (d, m) refl

shown_in : (facts : List Fact) (g : Fact) (words : List ℕ) → IsWithin g → IsShown facts g words
    → has facts g ≡ is_set words (place_of g)
shown_in facts g words inside shown =
    sym (shown ∙ ap (λ b. b && has facts g) inside)

module _ (facts : List Fact) (planes : Planes) where
  -- those of one of three rows
  shown_at : (g : Fact) (c n : ℕ) → n < 3 → IsWithin g → place_of g ≡ c → key_of g ≡ 3 * c + n
      → IsShown facts g (plane planes n) → has facts g ≡ is_in planes (key_of g)
  shown_at g c n low inside place key shown =
      shown_in facts g (plane planes n) inside shown
      ∙ (ap (is_set (plane planes n)) place
      ∙ (sym (at_key planes c n low) ∙ ap (is_in planes) (sym key)))

  pub planes_of_task : (t : ℕ)
      → ((g : Fact) → is_of (Holds t Send) g ≡ true → IsShown facts g planes.send.now)
      → ((g : Fact) → is_of (Holds t Receive) g ≡ true → IsShown facts g planes.receive.now)
      → ((g : Fact) → is_of (Holds t SendOnce) g ≡ true → IsShown facts g planes.once.now)
      → t < limit_of_tasks → ArePlanesOf facts t planes
  planes_of_task t send receive once low (Hold u d Send) inside same =
      shown_at (Hold u d Send) d 0 (omega arith) inside refl (omega arith)
      (send (Hold u d Send) (and_from (u == t) true (eq-eqb u t same) refl))
  planes_of_task t send receive once low (Hold u d Receive) inside same =
      shown_at (Hold u d Receive) d 1 (omega arith) inside refl (omega arith)
      (receive (Hold u d Receive) (and_from (u == t) true (eq-eqb u t same) refl))
  planes_of_task t send receive once low (Hold u d SendOnce) inside same =
      shown_at (Hold u d SendOnce) d 2 (omega arith) inside refl (omega arith)
      (once (Hold u d SendOnce) (and_from (u == t) true (eq-eqb u t same) refl))
  planes_of_task t send receive once low (Carry u d q) inside same =
      absurd (omega (arith, same, low))
  planes_of_task t send receive once low (Backup u d) inside same =
      absurd (omega (arith, same, low))

  pub planes_of_class : (t : ℕ)
      → ((g : Fact) → is_of (Carries t Send) g ≡ true → IsShown facts g planes.send.now)
      → ((g : Fact) → is_of (Carries t Receive) g ≡ true → IsShown facts g planes.receive.now)
      → ((g : Fact) → is_of (Carries t SendOnce) g ≡ true → IsShown facts g planes.once.now)
      → t < limit_of_classes → ArePlanesOf facts (limit_of_tasks + t) planes
  planes_of_class t send receive once low (Hold u d q) inside same =
      let p = both u limit_of_tasks d limit_of_classes inside in absurd (omega (arith, same, p.0))
  planes_of_class t send receive once low (Carry u d Send) inside same =
      shown_at (Carry u d Send) d 0 (omega arith) inside refl (omega arith)
      (send (Carry u d Send) (and_from (u == t) true (eq-eqb u t (omega (arith, same))) refl))
  planes_of_class t send receive once low (Carry u d Receive) inside same =
      shown_at (Carry u d Receive) d 1 (omega arith) inside refl (omega arith)
      (receive (Carry u d Receive) (and_from (u == t) true (eq-eqb u t (omega (arith, same))) refl))
  planes_of_class t send receive once low (Carry u d SendOnce) inside same =
      shown_at (Carry u d SendOnce) d 2 (omega arith) inside refl (omega arith)
      (once (Carry u d SendOnce) (and_from (u == t) true (eq-eqb u t (omega (arith, same))) refl))
  planes_of_class t send receive once low (Backup u d) inside same =
      absurd (omega (arith, same, low))

  pub planes_of_backups : (t : ℕ)
      → ((g : Fact) → is_of (Backups t) g ≡ true → IsShown facts g planes.send.now)
      → ArePlanesOf facts (first_group_of_backups + t) planes
  planes_of_backups t send (Hold u d q) inside same =
      let p = both u limit_of_tasks d limit_of_classes inside in absurd (omega (arith, same, p.0))
  planes_of_backups t send (Carry u d q) inside same =
      let p = both u limit_of_classes d limit_of_classes inside in absurd (omega (arith, same, p.0))
  planes_of_backups t send (Backup u d) inside same =
      shown_at (Backup u d) d 0 (omega arith) inside refl (omega arith)
      (send (Backup u d) (eq-eqb u t (omega (arith, same))))

-- the next place in a group

few_words : (planes : Planes) → length planes.send.now ≤ limit_of_words
    → length planes.receive.now ≤ limit_of_words → length planes.once.now ≤ limit_of_words
    → (q : ℕ) → length (plane planes q) ≤ limit_of_words
few_words planes send receive once q = elim (cases_eq q 0) [
  | inl e ↦ rw e send
  | inr other ↦ elim (cases_eq q 1) [
    | inl e ↦ rw e receive
    | inr also ↦ rw (ne_eqb q 0 other, ne_eqb q 1 also) once
  ]
]

set_low : (words : List ℕ) (c : ℕ) → length words ≤ limit_of_words → is_set words c ≡ true
    → c < limit_of_classes
set_low words c few set = elim (cases_lt c limit_of_classes) [
  | inl low ↦ low
  | inr high ↦ absurd (true≢false (sym set ∙ past words c (omega (arith, few, high))))
]

-- its class has a bit in a row
pub class_low : (planes : Planes) → length planes.send.now ≤ limit_of_words
    → length planes.receive.now ≤ limit_of_words → length planes.once.now ≤ limit_of_words
    → (from class : ℕ) (right : PortRight)
    → IsFirstBy (is_in planes) from (place_key (class, right)) → class < limit_of_classes
class_low planes send receive once from class right next =
    set_low (plane planes (right_number right)) class
    (few_words planes send receive once (right_number right))
    (sym (at_key planes class (right_number right) (right_there right)) ∙ next.set)

pub next_hold : (planes : Planes) (t c d : ℕ) (r q : PortRight) → IsWithin (Hold t c r)
    → d < limit_of_classes
    → IsFirstBy (is_in planes) (place_key (c, r) + 1) (place_key (d, q))
    → IsNextInGroup planes (Hold t c r) (Hold t d q)
next_hold planes t c d r q inside low next =
    let p = both t limit_of_tasks c limit_of_classes inside in
    let above = next.from_there in
    record {
      within = and_from _ _ (lt-ltb t limit_of_tasks p.0) (lt-ltb d limit_of_classes low);
      group = refl;
      later = omega (arith, above);
      set = next.set;
      first = λ h within same behind before. next.first (key_of h) (omega (arith, behind)) before;
    }

pub next_carry : (planes : Planes) (t c d : ℕ) (r q : PortRight) → IsWithin (Carry t c r)
    → d < limit_of_classes
    → IsFirstBy (is_in planes) (place_key (c, r) + 1) (place_key (d, q))
    → IsNextInGroup planes (Carry t c r) (Carry t d q)
next_carry planes t c d r q inside low next =
    let p = both t limit_of_classes c limit_of_classes inside in
    let above = next.from_there in
    record {
      within = and_from _ _ (lt-ltb t limit_of_classes p.0) (lt-ltb d limit_of_classes low);
      group = refl;
      later = omega (arith, above);
      set = next.set;
      first = λ h within same behind before. next.first (key_of h) (omega (arith, behind)) before;
    }

pub backup_low : (planes : Planes) → length planes.send.now ≤ limit_of_words
    → (from d : ℕ) → IsNextBit planes.send.now from d → d < limit_of_classes
backup_low planes few from d next = set_low planes.send.now d few next.set

pub next_backup : (planes : Planes) (t c d : ℕ) → IsWithin (Backup t c)
    → d < limit_of_classes → IsNextBit planes.send.now (c + 1) d
    → IsNextInGroup planes (Backup t c) (Backup t d)
next_backup planes t c d inside low next =
    let p = both t limit_of_classes c limit_of_classes inside in
    let above = next.from_there in
    record {
      within = and_from _ _ (lt-ltb t limit_of_classes p.0) (lt-ltb d limit_of_classes low);
      group = refl;
      later = omega (arith, above);
      set = of_key d ∙ next.set;
      first = λ h within same behind before. none h within same behind before;
    }
  where
    of_key : (e : ℕ) → is_in planes (3 * e) ≡ is_set planes.send.now e
    of_key e =
        let at : 3 * e ≡ 3 * e + 0 = omega arith in
        ap (is_in planes) {x = 3 * e} {y = 3 * e + 0} at ∙ at_key planes e 0 (omega arith)

    none : (h : Fact) → IsWithin h → group_of h ≡ group_of (Backup t c) → 3 * c < key_of h
        → key_of h < 3 * d → is_in planes (key_of h) ≡ false
    none (Hold u e q) within same behind before =
        let p = both u limit_of_tasks e limit_of_classes within in absurd (omega (arith, same, p.0))
    none (Carry u e q) within same behind before =
        let p = both u limit_of_classes e limit_of_classes within in
        absurd (omega (arith, same, p.0))
    none (Backup u e) within same behind before =
        of_key e ∙ next.first e (omega (arith, behind)) (omega (arith, before))
