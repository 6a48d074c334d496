-- What is left of a space when one name after the other turns dead.
use Rattle.std.proofs.Common.{◌≡◌, ℕ, ◌+◌, ◌<◌, ◌≤◌, Bool, true, false, List, [], ◌∷◌}
use Rattle.std.proofs.Common.{Option, Some, None, refl, sym, ◌∙◌, ap, arith, ◌==◌, ◌||◌, inl}
use Rattle.std.proofs.Common.{inr, if◌then◌else◌, nat_lt}
use Rattle.std.specs.Option.{option_and_then}
use Rattle.std.proofs.lemmas.Bool.{cases_eq, cases_order}
use Rattle.std.proofs.lemmas.Bool.Decides.{nat_tests}
use Rattle.mrc_model.specs.declared.Entry.{Entry}
use Rattle.mrc_model.specs.declared.Entry.TheVariants.{Receive as ReceiveEntry, Send as SendEntry}
use Rattle.mrc_model.specs.declared.Entry.TheVariants.{SendOnce as OnceEntry, PortSet as SetEntry}
use Rattle.mrc_model.specs.declared.Entry.TheVariants.{DeadName as DeadEntry}
use Rattle.mrc_model.specs.Map.{get, insert, alter_all, total}
use Rattle.mrc_model.specs.World.{Space}
use Rattle.mrc_model.specs.Space.{put_entry, dead_entry}
use Rattle.mrc_model.specs.Death.{perished_entry, has}
use Rattle.mrc_model.proofs.Maps.{get-alter_all, total-insert, total-remove, at_or_0}
use Rattle.mrc_model.proofs.Maps.{not_None, if_true, if_false}
use Rattle.mrc_map.specs.Entries.{IsNext}
use Rattle.mrc_map.proofs.SameMaps.{same_map}
use Rattle.mrc_index.specs.Names.{is_on, count_on, left_of, is_dead}
use Rattle.mrc_model.proofs.Spaces.{put_entry_same, put_entry_other}

-- dead references stay
dead_stays : (ps : List ℕ) (k : ℕ)
    → option_and_then (perished_entry ps) (dead_entry k) ≡ dead_entry k
dead_stays ps k = elim (nat_lt 0 k) as (λ b. option_and_then (perished_entry ps)
    (if b then Some (DeadEntry k) else None) ≡ (if b then Some (DeadEntry k) else None)) [
      | true ↦ refl
      | false ↦ refl
    ]

-- what dead ports leave of an entry that is a right on one of them
pub left_dead : (ps : List ℕ) (e : Entry) → is_dead ps e ≡ true → perished_entry ps e ≡ left_of e
left_dead ps (ReceiveEntry q k i) h = if_true (has ps q) _ _ h
left_dead ps (SendEntry q k) h = if_true (has ps q) _ _ h
left_dead ps (OnceEntry q) h = if_true (has ps q) _ _ h
left_dead ps SetEntry h = refl
left_dead ps (DeadEntry k) h = refl

-- and of one that is none
pub left_alone : (ps : List ℕ) (e : Entry) → is_dead ps e ≡ false → perished_entry ps e ≡ Some e
left_alone ps (ReceiveEntry q k i) h = if_false (has ps q) _ _ h
left_alone ps (SendEntry q k) h = if_false (has ps q) _ _ h
left_alone ps (OnceEntry q) h = if_false (has ps q) _ _ h
left_alone ps SetEntry h = refl
left_alone ps (DeadEntry k) h = refl

-- it is left of that, too
left_stays : (ps : List ℕ) (e : Entry)
    → is_dead ps e ≡ true
    → option_and_then (perished_entry ps) (left_of e) ≡ left_of e
left_stays ps (ReceiveEntry q k i) h = dead_stays ps k
left_stays ps (SendEntry q k) h = dead_stays ps k
left_stays ps (OnceEntry q) h = refl
left_stays ps SetEntry h = refl
left_stays ps (DeadEntry k) h = refl

pub left_twice : (ps : List ℕ) (e : Entry)
    → option_and_then (perished_entry ps) (perished_entry ps e) ≡ perished_entry ps e
left_twice ps e = go (is_dead ps e) refl
  where
    go : (b : Bool)
        → is_dead ps e ≡ b
        → option_and_then (perished_entry ps) (perished_entry ps e) ≡ perished_entry ps e
    go true h =
        ap (option_and_then (perished_entry ps)) (left_dead ps e h) ∙ left_stays ps e h
        ∙ sym (left_dead ps e h)
    go false h = ap (option_and_then (perished_entry ps)) (left_alone ps e h)

-- a right on the one port
one_of : (p q : ℕ) → (p == q || false) ≡ (q == p || false)
one_of p q = grind (arith, nat_tests)

once_of : (p q : ℕ) → (p == q || false) ≡ (q == p)
once_of p q = grind (arith, nat_tests)

pub on_dead : (p : ℕ) (e : Entry) → is_dead (p ∷ []) e ≡ is_on p e
on_dead p (ReceiveEntry q k i) = one_of p q
on_dead p (SendEntry q k) = one_of p q
on_dead p (OnceEntry q) = once_of p q
on_dead p SetEntry = refl
on_dead p (DeadEntry k) = refl

-- a name that has turned is as good as one that will turn
pub same_later : (x y : Space) (ps : List ℕ) (n : ℕ) (e : Entry)
    → get x n ≡ Some e
    → y ≡ put_entry x n (perished_entry ps e)
    → alter_all (λ m f. perished_entry ps f) y ≡ alter_all (λ m f. perished_entry ps f) x
same_later x y ps n e at is = same_map _ _ (λ q.
    get-alter_all (λ m f. left f) y q ∙ ap (λ z. option_and_then left (get z q)) is
    ∙ elim (cases_eq q n) [
      | inl same ↦
          ap (λ z. option_and_then left (get (put_entry x n (left e)) z)) same
          ∙ ap (option_and_then left) (put_entry_same x n (left e)) ∙ left_twice ps e
          ∙ sym (ap (option_and_then left) (ap (get x) same ∙ at))
      | inr apart ↦ ap (option_and_then left) (put_entry_other x n q (left e) apart)
    ]
    ∙ sym (get-alter_all (λ m f. left f) x q))
  where
    left : Entry → Option Entry
    left = perished_entry ps

-- nothing turns where each entry stays
pub all_left : (x : Space) (ps : List ℕ)
    → ((n : ℕ) (e : Entry) → get x n ≡ Some e → perished_entry ps e ≡ Some e)
    → alter_all (λ m f. perished_entry ps f) x ≡ x
all_left x ps stay = same_map _ _ (λ q.
    get-alter_all (λ m f. perished_entry ps f) x q ∙ each q (get x q) refl)
  where
    each : (q : ℕ) (o : Option Entry)
        → get x q ≡ o
        → option_and_then (perished_entry ps) (get x q) ≡ get x q
    each q None h = ap (option_and_then (perished_entry ps)) h ∙ sym h
    each q (Some e) h = ap (option_and_then (perished_entry ps)) h ∙ stay q e h ∙ sym h

-- so it is where a port has no name
pub none_left : (x : Space) (p : ℕ)
    → ((n : ℕ) (e : Entry) → get x n ≡ Some e → is_on p e ≡ false)
    → alter_all (λ m f. perished_entry (p ∷ []) f) x ≡ x
none_left x p none =
    all_left x (p ∷ []) (λ n e at. left_alone (p ∷ []) e (on_dead p e ∙ none n e at))

-- what is left of a right counts no more
dead_counts : (p k n : ℕ) → at_or_0 (count_on p) n (dead_entry k) ≡ 0
dead_counts p k n = elim (nat_lt 0 k) as (λ b. at_or_0 (count_on p) n
    (if b then Some (DeadEntry k) else None) ≡ 0) [ true ↦ refl | false ↦ refl ]

left_counts : (p n : ℕ) (e : Entry) → at_or_0 (count_on p) n (left_of e) ≡ 0
left_counts p n (ReceiveEntry q k i) = dead_counts p k n
left_counts p n (SendEntry q k) = dead_counts p k n
left_counts p n (OnceEntry q) = refl
left_counts p n SetEntry = refl
left_counts p n (DeadEntry k) = refl

total_put : (x : Space) (p n : ℕ) (e : Entry) (o : Option Entry)
    → get x n ≡ Some e
    → is_on p e ≡ true
    → at_or_0 (count_on p) n o ≡ 0
    → total (count_on p) (put_entry x n o) + 1 ≡ total (count_on p) x
total_put x p n e None at on none =
    let gone = total-remove (count_on p) x n in
    let one : at_or_0 (count_on p) n (get x n) ≡ 1 =
    ap (at_or_0 (count_on p) n) at ∙ ap (λ b. if b then 1 else 0) on in
    omega arith
total_put x p n e (Some f) at on none =
    let put = total-insert (count_on p) x n f in
    let one : at_or_0 (count_on p) n (get x n) ≡ 1 =
    ap (at_or_0 (count_on p) n) at ∙ ap (λ b. if b then 1 else 0) on in
    omega arith

-- one name of a port turns
pub turned_same : (x y : Space) (p n : ℕ) (e : Entry)
    → get x n ≡ Some e
    → is_on p e ≡ true
    → y ≡ put_entry x n (left_of e)
    → alter_all (λ m f. perished_entry (p ∷ []) f) y
    ≡ alter_all (λ m f. perished_entry (p ∷ []) f) x
turned_same x y p n e at on is =
    same_later x y (p ∷ []) n e at
    (is ∙ ap (put_entry x n) (sym (left_dead (p ∷ []) e (on_dead p e ∙ on))))

-- and there is one right less on the port
pub turned_less : (x y : Space) (p n : ℕ) (e : Entry)
    → get x n ≡ Some e
    → is_on p e ≡ true
    → y ≡ put_entry x n (left_of e)
    → total (count_on p) y + 1 ≡ total (count_on p) x
turned_less x y p n e at on is =
    ap (λ z. total (count_on p) z + 1) is
    ∙ total_put x p n e (left_of e) at on (left_counts p n e)

-- a name whose entry stays holds what it held
pub stayed : (x : Space) (ps : List ℕ) (n : ℕ) (e : Entry)
    → get x n ≡ Some e
    → is_dead ps e ≡ false
    → x ≡ put_entry x n (perished_entry ps e)
stayed x ps n e at alone =
    sym (ap (put_entry x n) (left_alone ps e alone) ∙ insert_again x n e at)
  where
    insert_again : (z : Space) (m : ℕ) (f : Entry) → get z m ≡ Some f → insert z m f ≡ z
    insert_again z m f there = same_map _ _ (λ q. elim (cases_eq q m) [
      | inl same ↦
          ap (get (insert z m f)) same ∙ put_entry_same z m (Some f) ∙ sym there
          ∙ ap (get z) (sym same)
      | inr apart ↦ put_entry_other z m q (Some f) apart
    ])

-- after one port the others

left_more : (p : ℕ) (ps : List ℕ) (e : Entry)
    → option_and_then (perished_entry ps) (perished_entry (p ∷ []) e) ≡ perished_entry (p ∷ ps) e
left_more p ps (ReceiveEntry q k i) =
    elim (p == q) as (λ b. option_and_then (perished_entry ps)
    (if b || false then dead_entry k else Some (ReceiveEntry q k i))
    ≡ (if b || has ps q then dead_entry k else Some (ReceiveEntry q k i))) [
      | true ↦ dead_stays ps k
      | false ↦ refl
    ]
left_more p ps (SendEntry q k) =
    elim (p == q) as (λ b. option_and_then (perished_entry ps)
    (if b || false then dead_entry k else Some (SendEntry q k))
    ≡ (if b || has ps q then dead_entry k else Some (SendEntry q k))) [
      | true ↦ dead_stays ps k
      | false ↦ refl
    ]
left_more p ps (OnceEntry q) =
    elim (p == q) as (λ b. option_and_then (perished_entry ps)
    (if b || false then Some (DeadEntry 1) else Some (OnceEntry q))
    ≡ (if b || has ps q then Some (DeadEntry 1) else Some (OnceEntry q))) [
      | true ↦ refl
      | false ↦ refl
    ]
left_more p ps SetEntry = refl
left_more p ps (DeadEntry k) = refl

pub more_later : (x y : Space) (p : ℕ) (ps : List ℕ)
    → y ≡ alter_all (λ n e. perished_entry (p ∷ []) e) x
    → alter_all (λ n e. perished_entry ps e) y ≡ alter_all (λ n e. perished_entry (p ∷ ps) e) x
more_later x y p ps is = same_map _ _ (λ q.
    get-alter_all (λ n e. perished_entry ps e) y q
    ∙ ap (λ z. option_and_then (perished_entry ps) (get z q)) is
    ∙ ap (option_and_then (perished_entry ps))
    (get-alter_all (λ n e. perished_entry (p ∷ []) e) x q)
    ∙ each (get x q) ∙ sym (get-alter_all (λ n e. perished_entry (p ∷ ps) e) x q))
  where
    each : (o : Option Entry)
        → option_and_then (perished_entry ps) (option_and_then (perished_entry (p ∷ [])) o)
        ≡ option_and_then (perished_entry (p ∷ ps)) o
    each None = refl
    each (Some e) = left_more p ps e

-- the next of them, as a loop has it
pub step_later : (x y z : Space) (p : ℕ) (ps rest : List ℕ)
    → alter_all (λ n e. perished_entry ps e) x ≡ z
    → ps ≡ p ∷ rest
    → y ≡ alter_all (λ n e. perished_entry (p ∷ []) e) x
    → alter_all (λ n e. perished_entry rest e) y ≡ z
step_later x y z p ps rest was is now =
    more_later x y p rest now ∙ sym (ap (λ l. alter_all (λ n e. perished_entry l e) x) is) ∙ was

none_dies : (e : Entry) → perished_entry [] e ≡ Some e
none_dies (ReceiveEntry q k i) = refl
none_dies (SendEntry q k) = refl
none_dies (OnceEntry q) = refl
none_dies SetEntry = refl
none_dies (DeadEntry k) = refl

-- at the end none is left
pub end_later : (x z : Space) (ps : List ℕ)
    → ps ≡ []
    → alter_all (λ n e. perished_entry ps e) x ≡ z
    → x ≡ z
end_later x z ps none was =
    sym (all_left x [] (λ n e at. none_dies e))
    ∙ sym (ap (λ l. alter_all (λ n e. perished_entry l e) x) none) ∙ was

-- The names below a number have turned, and what has turned is as good as what will turn.
pub record HasTurned (ps : List ℕ) (from : ℕ) (old now : Space) : Type 0 where
  pub same : alter_all (λ n e. perished_entry ps e) now ≡ alter_all (λ n e. perished_entry ps e) old
  pub done : (n : ℕ) (e : Entry) → n < from → get now n ≡ Some e → perished_entry ps e ≡ Some e

-- the next one turns
pub next_turned : (ps : List ℕ) (from n : ℕ) (e : Entry) (old x y : Space)
    → HasTurned ps from old x
    → IsNext x from n e
    → y ≡ put_entry x n (perished_entry ps e)
    → HasTurned ps (n + 1) old y
next_turned ps from n e old x y h next is = record {
  same = same_later x y ps n e next.at is ∙ h.same;
  done = λ m f less at. elim (cases_eq m n) [
    | inl same ↦
        let left : perished_entry ps e ≡ Some f =
        sym (put_entry_same x n (perished_entry ps e)) ∙ ap (λ z. get z n) (sym is)
        ∙ ap (get y) (sym same) ∙ at in
        sym (ap (option_and_then (perished_entry ps)) left) ∙ left_twice ps e ∙ left
    | inr apart ↦
        let was : get x m ≡ Some f =
        sym (put_entry_other x n m (perished_entry ps e) apart) ∙ ap (λ z. get z m) (sym is) ∙ at in
        below m f (under m n less apart) was
  ];
}
  where
    under : (a b : ℕ) → a < b + 1 → (a ≡ b → ⊥) → a < b
    under a b l d = grind (arith, nat_tests)

    below : (m : ℕ) (f : Entry)
        → m < n
        → get x m ≡ Some f
        → perished_entry ps f ≡ Some f
    below m f l at = elim (cases_order m from) [
      | inl same ↦ absurd (not_None f (sym at ∙ next.first m (omega arith) l))
      | inr (inl less) ↦ h.done m f less at
      | inr (inr more) ↦ absurd (not_None f (sym at ∙ next.first m (omega arith) l))
    ]

-- at the end all have
pub all_turned : (ps : List ℕ) (from : ℕ) (old x : Space)
    → HasTurned ps from old x
    → ((n : ℕ) → from ≤ n → get x n ≡ None)
    → x ≡ alter_all (λ n e. perished_entry ps e) old
all_turned ps from old x h none = sym (all_left x ps stay) ∙ h.same
  where
    stay : (n : ℕ) (e : Entry) → get x n ≡ Some e → perished_entry ps e ≡ Some e
    stay n e at = elim (cases_order n from) [
      | inl same ↦ absurd (not_None e (sym at ∙ none n (omega arith)))
      | inr (inl less) ↦ h.done n e less at
      | inr (inr more) ↦ absurd (not_None e (sym at ∙ none n (omega arith)))
    ]
