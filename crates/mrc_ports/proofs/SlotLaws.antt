-- What an edit of slots and order is to the map that they show.
use Rattle.std.proofs.Common.{◌≡◌, ℕ, ◌+◌, List, [], ◌∷◌, length, T, Bool, true, map, MutBor}
use Rattle.std.proofs.Common.{suc, Option, Some, None, refl, sym, ◌∙◌, ap, subst, inl, inr}
use Rattle.std.proofs.Common.{if◌then◌else◌}
use Prim.Native.Nat.{zero}
use Rattle.std.specs.Option.{option_map, option_and_then}
use Rattle.std.specs.Prelude.{IsSome}
use Rattle.std.specs.List.{slice_index_or}
use Rattle.std.proofs.lemmas.Bool.{cases_eq}
use Rattle.slab.specs.Slab.{Slab, Updates, CalledAt, RetainsFrom}
use Rattle.slab.specs.Slab as slab
use Rattle.mrc_model.specs.Rising.{is_rising, alter_list, cons_some, find_key}
use Rattle.mrc_model.specs.Map.{Map, empty, get, insert, remove, alter_all, len}
use Rattle.mrc_model.proofs.Maps.{same_Some, not_None, get-insert_same, get-insert_other}
use Rattle.mrc_model.proofs.Maps.{get-alter_all, get-remove_same, get-remove_other, get-empty}
use Rattle.mrc_model.proofs.Maps.{find_here, rest_rises, Each-rest}
use Rattle.mrc_map.proofs.SameMaps.{same_map}
use Rattle.mrc_map.proofs.EntryLaws.{remove-absent}
use Rattle.mrc_ports.specs.Slots.{value_in, number_in, values_of, IsKept}

module _ {X : Type 0} where
  -- a slot with a number has a value
  pub value_there : (o : Option (ℕ × X)) (n : ℕ)
      → option_map (λ e. e.0) o ≡ Some n
      → (v : X) × (o ≡ Some (n, v))
  value_there None n h = absurd (not_None n (sym h))
  value_there (Some e) n h = (e.1, ap (λ j. Some (j, e.1)) (same_Some e.0 n h))

  -- the value of a number
  pub get_value : (slots : List (Option (ℕ × X))) (order : Map ℕ) (n : ℕ)
      → get (values_of slots order) n ≡ option_and_then (value_in slots) (get order n)
  unfolding values_of
  get_value slots order n = get-alter_all (λ j k. value_in slots k) order n

  -- where the order has a slot
  pub get_listed : (slots : List (Option (ℕ × X))) (order : Map ℕ) (n k : ℕ)
      → get order n ≡ Some k
      → get (values_of slots order) n ≡ value_in slots k
  get_listed slots order n k h =
      get_value slots order n ∙ ap (option_and_then (value_in slots)) h

  -- where it has none
  pub get_unlisted : (slots : List (Option (ℕ × X))) (order : Map ℕ) (n : ℕ)
      → get order n ≡ None
      → get (values_of slots order) n ≡ None
  get_unlisted slots order n h =
      get_value slots order n ∙ ap (option_and_then (value_in slots)) h

  -- a number without a value is in no slot
  pub unlisted : (slots : List (Option (ℕ × X))) (order : Map ℕ) (n : ℕ)
      → IsKept slots order
      → get (values_of slots order) n ≡ None
      → get order n ≡ None
  unlisted slots order n kept none = by_cases (get order n) refl
    where
      by_cases : (o : Option ℕ) → get order n ≡ o → get order n ≡ None
      by_cases None h = h
      by_cases (Some k) h =
          let there = value_there (slice_index_or slots k None) n (kept.listed n k h) in
          absurd (not_None there.0 (sym (ap (option_map (λ e. e.1)) there.1)
          ∙ sym (get_listed slots order n k h) ∙ none))

  -- slots and order that show a map
  abbrev pub Shows : List (Option (ℕ × X)) → Map ℕ → Map X → Type 0
  Shows slots order m = (IsKept slots order) × (values_of slots order ≡ m)

  -- the slots of a new value
  pub added : (s t : Slab (ℕ × X)) (order : Map ℕ) (m : Map X) (n k : ℕ) (v : X)
      → IsKept s.slots order
      → values_of s.slots order ≡ m
      → get m n ≡ None
      → slab.get s k ≡ None
      → Updates s t k (Some (n, v))
      → Shows t.slots (insert order n k) (insert m n v)
  added s t order m n k v kept shown none vacant new = (
    record { listed = listed_new; found = found_new },
    same_map _ _ same_at,
  )
    where
      no_slot : get order n ≡ None
      no_slot = unlisted s.slots order n kept (ap (λ z. get z n) shown ∙ none)

      apart : (q j : ℕ) → get order q ≡ Some j → j ≡ k → ⊥
      apart q j h e =
          not_None q (sym (kept.listed q j h) ∙ ap (number_in s.slots) e
          ∙ ap (option_map (λ (x : ℕ × X). x.0)) vacant)

      listed_new : (q j : ℕ) → get (insert order n k) q ≡ Some j → number_in t.slots j ≡ Some q
      listed_new q j h = elim (cases_eq q n) [
        | inl same ↦
            let at : k ≡ j = same_Some k j (sym (get-insert_same order n k)
            ∙ ap (get (insert order n k)) (sym same) ∙ h) in
            ap (number_in t.slots) (sym at) ∙ ap (option_map (λ (x : ℕ × X). x.0)) new.changed
            ∙ ap Some (sym same)
        | inr differs ↦
            let was : get order q ≡ Some j = sym (get-insert_other order n k q differs) ∙ h in
            ap (option_map (λ (x : ℕ × X). x.0)) (new.others j (apart q j was))
            ∙ kept.listed q j was
      ]

      found_new : (j q : ℕ) → number_in t.slots j ≡ Some q → get (insert order n k) q ≡ Some j
      found_new j q h = elim (cases_eq j k) [
        | inl same ↦
            let is : n ≡ q = same_Some n q
            (sym (ap (number_in t.slots) same
            ∙ ap (option_map (λ (x : ℕ × X). x.0)) new.changed) ∙ h) in
            ap (get (insert order n k)) (sym is) ∙ get-insert_same order n k ∙ ap Some (sym same)
        | inr differs ↦
            let was : get order q ≡ Some j = kept.found j q
            (sym (ap (option_map (λ (x : ℕ × X). x.0)) (new.others j differs)) ∙ h) in
            get-insert_other order n k q
            (λ e. not_None j (sym was ∙ ap (get order) e ∙ no_slot)) ∙ was
      ]

      other_value : (q : ℕ) (o : Option ℕ)
          → get order q ≡ o
          → option_and_then (value_in t.slots) o ≡ option_and_then (value_in s.slots) o
      other_value q None h = refl
      other_value q (Some j) h =
          ap (option_map (λ (x : ℕ × X). x.1)) (new.others j (apart q j h))

      same_at : (q : ℕ) → get (values_of t.slots (insert order n k)) q ≡ get (insert m n v) q
      same_at q = elim (cases_eq q n) [
        | inl same ↦
            ap (get (values_of t.slots (insert order n k))) same
            ∙ get_listed t.slots (insert order n k) n k (get-insert_same order n k)
            ∙ ap (option_map (λ (x : ℕ × X). x.1)) new.changed
            ∙ sym (get-insert_same m n v) ∙ ap (get (insert m n v)) (sym same)
        | inr differs ↦
            get_value t.slots (insert order n k) q
            ∙ ap (option_and_then (value_in t.slots)) (get-insert_other order n k q differs)
            ∙ other_value q (get order q) refl
            ∙ sym (get_value s.slots order q) ∙ ap (λ z. get z q) shown
            ∙ sym (get-insert_other m n v q differs)
      ]

  -- what is found in the slot of a number
  pub get_there : (slots : List (Option (ℕ × X))) (order : Map ℕ) (m : Map X) (n k : ℕ)
      (o : Option (ℕ × X))
      → values_of slots order ≡ m
      → get order n ≡ Some k
      → slice_index_or slots k None ≡ o
      → get m n ≡ option_map (λ e. e.1) o
  get_there slots order m n k o shown h at =
      sym (ap (λ z. get z n) shown) ∙ get_listed slots order n k h
      ∙ ap (option_map (λ (x : ℕ × X). x.1)) at

  pub get_nowhere : (slots : List (Option (ℕ × X))) (order : Map ℕ) (m : Map X) (n : ℕ)
      → values_of slots order ≡ m
      → get order n ≡ None
      → get m n ≡ None
  get_nowhere slots order m n shown h =
      sym (ap (λ z. get z n) shown) ∙ get_unlisted slots order n h

  -- a listed slot has a value
  pub occupied : (slots : List (Option (ℕ × X))) (order : Map ℕ) (n k : ℕ)
      → IsKept slots order
      → get order n ≡ Some k
      → IsSome (slice_index_or slots k None)
  occupied slots order n k kept h =
      let there = value_there (slice_index_or slots k None) n (kept.listed n k h) in
      subst IsSome (sym there.1) refl

  all_some : (g : ℕ → ℕ → Option X) (low : ℕ) (es : List (ℕ × ℕ))
      → T (is_rising low es)
      → ((n k : ℕ) → find_key n es ≡ Some k → (v : X) × (g n k ≡ Some v))
      → length (alter_list g es) ≡ length es
  all_some g low [] r h = refl
  all_some g low (e ∷ es) r h =
      let here = h e.0 e.1 (find_here e es) in
      ap (λ o. length (cons_some e.0 o (alter_list g es))) here.1
      ∙ ap suc (all_some g (e.0 + 1) es (rest_rises low e es r)
      (Each-rest (λ n k. (v : X) × (g n k ≡ Some v)) low e es r h))

  -- there are as many values as numbers
  pub len_values : (slots : List (Option (ℕ × X))) (order : Map ℕ)
      → IsKept slots order
      → len (values_of slots order) ≡ len order
  unfolding len values_of alter_all get
  len_values slots order kept =
      all_some (λ n k. value_in slots k) 0 order.list order.rising (λ n k h.
      let there = value_there (slice_index_or slots k None) n (kept.listed n k h) in
      (there.0, ap (option_map (λ (x : ℕ × X). x.1)) there.1))

  -- the slots without a number
  pub removed : (s t : Slab (ℕ × X)) (order : Map ℕ) (m : Map X) (n k : ℕ)
      → IsKept s.slots order
      → values_of s.slots order ≡ m
      → get order n ≡ Some k
      → Updates s t k None
      → Shows t.slots (remove order n) (remove m n)
  removed s t order m n k kept shown at new = (
    record { listed = listed_new; found = found_new },
    same_map _ _ same_at,
  )
    where
      apart : (q j : ℕ) → (q ≡ n → ⊥) → get order q ≡ Some j → j ≡ k → ⊥
      apart q j differs h e =
          differs (same_Some q n (sym (kept.listed q j h) ∙ ap (number_in s.slots) e
          ∙ kept.listed n k at))

      listed_new : (q j : ℕ) → get (remove order n) q ≡ Some j → number_in t.slots j ≡ Some q
      listed_new q j h = elim (cases_eq q n) [
        | inl same ↦
            absurd (not_None j (sym h ∙ ap (get (remove order n)) same ∙ get-remove_same order n))
        | inr differs ↦
            let was : get order q ≡ Some j = sym (get-remove_other order n q differs) ∙ h in
            ap (option_map (λ (x : ℕ × X). x.0)) (new.others j (apart q j differs was))
            ∙ kept.listed q j was
      ]

      found_new : (j q : ℕ) → number_in t.slots j ≡ Some q → get (remove order n) q ≡ Some j
      found_new j q h = elim (cases_eq j k) [
        | inl same ↦
            absurd (not_None q (sym h ∙ ap (number_in t.slots) same
            ∙ ap (option_map (λ (x : ℕ × X). x.0)) new.changed))
        | inr differs ↦
            let was : get order q ≡ Some j = kept.found j q
            (sym (ap (option_map (λ (x : ℕ × X). x.0)) (new.others j differs)) ∙ h) in
            get-remove_other order n q
            (λ e. differs (same_Some j k (sym was ∙ ap (get order) e ∙ at))) ∙ was
      ]

      other_value : (q : ℕ) (o : Option ℕ)
          → (q ≡ n → ⊥)
          → get order q ≡ o
          → option_and_then (value_in t.slots) o ≡ option_and_then (value_in s.slots) o
      other_value q None d h = refl
      other_value q (Some j) d h =
          ap (option_map (λ (x : ℕ × X). x.1)) (new.others j (apart q j d h))

      same_at : (q : ℕ) → get (values_of t.slots (remove order n)) q ≡ get (remove m n) q
      same_at q = elim (cases_eq q n) [
        | inl same ↦
            ap (get (values_of t.slots (remove order n))) same
            ∙ get_unlisted t.slots (remove order n) n (get-remove_same order n)
            ∙ sym (get-remove_same m n) ∙ ap (get (remove m n)) (sym same)
        | inr differs ↦
            get_value t.slots (remove order n) q
            ∙ ap (option_and_then (value_in t.slots)) (get-remove_other order n q differs)
            ∙ other_value q (get order q) differs refl
            ∙ sym (get_value s.slots order q) ∙ ap (λ z. get z q) shown
            ∙ sym (get-remove_other m n q differs)
      ]

module _ {X : Type 0} where
  -- what was taken out comes in again
  pub again : (m : Map X) (n : ℕ) (v : X) → insert (remove m n) n v ≡ insert m n v
  again m n v = same_map _ _ (λ q. elim (cases_eq q n) [
    | inl same ↦
        ap (get (insert (remove m n) n v)) same ∙ get-insert_same (remove m n) n v
        ∙ sym (get-insert_same m n v) ∙ ap (get (insert m n v)) (sym same)
    | inr differs ↦
        get-insert_other (remove m n) n v q differs ∙ get-remove_other m n q differs
        ∙ sym (get-insert_other m n v q differs)
  ])

  -- putting what stands there changes nothing
  pub as_was : (m : Map X) (n : ℕ) (v : X) → get m n ≡ Some v → insert m n v ≡ m
  as_was m n v at = same_map _ _ (λ q. elim (cases_eq q n) [
    | inl same ↦
        ap (get (insert m n v)) same ∙ get-insert_same m n v ∙ sym at ∙ ap (get m) (sym same)
    | inr differs ↦ get-insert_other m n v q differs
  ])

module _ {X : Type 0} where
  -- another value in the slot of a number
  pub rewritten : (s t u : Slab (ℕ × X)) (order : Map ℕ) (m : Map X) (n k : ℕ) (v : X)
      → IsKept s.slots order
      → values_of s.slots order ≡ m
      → get order n ≡ Some k
      → Updates s t k None
      → Updates t u k (Some (n, v))
      → Shows u.slots order (insert m n v)
  rewritten s t u order m n k v kept shown at gone new =
      let out = removed s t order m n k kept shown at gone in
      let back = added t u (remove order n) (remove m n) n k v out.0 out.1 (get-remove_same m n)
      gone.changed new in
      subst (λ z. Shows u.slots order z) (again m n v)
      (subst (λ o. Shows u.slots o (insert (remove m n) n v))
      (again order n k ∙ as_was order n k at) back)

module _ {X : Type 0} where
  -- the slots of a new value, after room was made
  pub added_reserved : (s r t : Slab (ℕ × X)) (order order' : Map ℕ) (m : Map X) (n k j : ℕ) (v : X)
      → IsKept s.slots order
      → values_of s.slots order ≡ m
      → get m n ≡ None
      → r.slots ≡ s.slots
      → order' ≡ insert order n k
      → j ≡ k
      → slab.get r j ≡ None
      → Updates r t j (Some (n, v))
      → Shows t.slots order' (insert m n v)
  added_reserved s r t order order' m n k j v kept shown none same listed is vacant new =
      subst (λ o. Shows t.slots o (insert m n v)) (ap (insert order n) is ∙ sym listed)
      (added r t order m n j v (subst (λ z. IsKept z order) (sym same) kept)
      (ap (λ z. values_of z order) same ∙ shown) none vacant new)

  -- no slot and no number
  empty_kept : IsKept {X = X} [] empty
  empty_kept = record {
    listed = λ n k h. absurd (not_None k (sym h ∙ get-empty n));
    found = λ k n h. absurd (not_None n (sym h));
  }

  empty_values : values_of {X = X} [] empty ≡ empty
  empty_values =
      same_map (values_of {X = X} [] empty) empty
      (λ q. get_unlisted [] empty q (get-empty q) ∙ sym (get-empty {X = X} q))

  pub none_kept : (slots : List (Option (ℕ × X))) (order : Map ℕ)
      → slots ≡ []
      → order ≡ empty
      → Shows slots order empty
  none_kept slots order a b =
      subst (λ z. Shows {X = X} z order empty) (sym a)
      (subst (λ z. Shows {X = X} [] z empty) (sym b) (empty_kept, empty_values))

  -- the slots without a number, by a tree that lost it
  pub removed_from : (s t : Slab (ℕ × X)) (order order' : Map ℕ) (m : Map X) (n k : ℕ)
      → IsKept s.slots order
      → values_of s.slots order ≡ m
      → get order n ≡ Some k
      → order' ≡ remove order n
      → Updates s t k None
      → Shows t.slots order' (remove m n)
  removed_from s t order order' m n k kept shown at is new =
      subst (λ o. Shows t.slots o (remove m n)) (sym is) (removed s t order m n k kept shown at new)

  -- the same where the number is nowhere
  pub removed_none : (slots : List (Option (ℕ × X))) (order order' : Map ℕ) (m : Map X) (n : ℕ)
      → IsKept slots order
      → values_of slots order ≡ m
      → get order n ≡ None
      → order' ≡ remove order n
      → Shows slots order' (remove m n)
  removed_none slots order order' m n kept shown none is =
      subst (λ o. Shows slots o (remove m n)) (sym (is ∙ remove-absent order n none))
      (subst (λ z. Shows slots order z)
      (sym (remove-absent m n (get_nowhere slots order m n shown none))) (kept, shown))

  -- another value in the slot of a number, which was free for a moment
  pub rewritten_at : (s t u : Slab (ℕ × X)) (order : Map ℕ) (m : Map X) (n k j : ℕ) (v : X)
      → IsKept s.slots order
      → values_of s.slots order ≡ m
      → get order n ≡ Some k
      → Updates s t k None
      → j ≡ k
      → Updates t u j (Some (n, v))
      → Shows u.slots order (insert m n v)
  rewritten_at s t u order m n k j v kept shown at gone is new =
      rewritten s t u order m n k v kept shown at gone
      (subst (λ z. Updates t u z (Some (n, v))) is new)

-- each value is changed, and the call that changes it leaves the closure as it was
abbrev pub IsTurned : {F X : Type 0}
    → (F → ℕ → MutBor X → Bool → MutBor X → F → Type 0)
    → (X → X)
    → F
    → Type 0
IsTurned R g f =
    (k : ℕ) (v w : _) (b : Bool) (f' : _)
    → CalledAt R f k v b w f'
    → (b ≡ true) × (w ≡ g v) × (f' ≡ f)

turned_list : {F X : Type 0} (R : F → ℕ → MutBor X → Bool → MutBor X → F → Type 0) (g : X → X)
    (f : F) (key : ℕ) (es fs : List (Option X))
    → IsTurned R g f
    → RetainsFrom R f key es fs
    → fs ≡ map (option_map g) es
turned_list R g f key [] fs all h = h
turned_list R g f key (None ∷ es) fs all (later, is, more) =
    is ∙ ap (λ l. None ∷ l) (turned_list R g f (key + 1) es later all more)
turned_list R g f key (Some v ∷ es) fs all (b, w, f', called, later, is, more) =
    let one = all key v w b f' called in
    is ∙ ap (λ c. (if c then Some w else None) ∷ later) one.0
    ∙ ap (λ u. Some u ∷ later) one.1
    ∙ ap (λ l. Some (g v) ∷ l)
    (turned_list R g f (key + 1) es later all
    (subst (λ y. RetainsFrom R y (key + 1) es later) one.2 more))

at_turned : {X : Type 0} (g : X → X) (es : List (Option X)) (k : ℕ)
    → slice_index_or (map (option_map g) es) k None ≡ option_map g (slice_index_or es k None)
at_turned g [] k = refl
at_turned g (e ∷ es) zero = refl
at_turned g (e ∷ es) (suc k) = at_turned g es k

module _ {F X : Type 0} (R : F → ℕ → MutBor (ℕ × X) → Bool → MutBor (ℕ × X) → F → Type 0)
    (h : X → X) (f : F) (order : Map ℕ) (m : Map X) (es fs : List (Option (ℕ × X)))
    (turned : IsTurned R (λ e. (e.0, h e.1)) f) (retained : RetainsFrom R f 0 es fs)
    (kept : IsKept es order) (shown : values_of es order ≡ m) where
  slot_is : (k : ℕ)
      → slice_index_or fs k None ≡ option_map (λ e. (e.0, h e.1)) (slice_index_or es k None)
  slot_is k =
      ap (λ z. slice_index_or z k None)
      (turned_list R (λ e. (e.0, h e.1)) f 0 es fs turned retained)
      ∙ at_turned (λ e. (e.0, h e.1)) es k

  same_number : (k : ℕ) → number_in fs k ≡ number_in es k
  same_number k =
      ap (option_map (λ (e : ℕ × X). e.0)) (slot_is k) ∙ go (slice_index_or es k None)
    where
      go : (o : Option (ℕ × X))
          → option_map (λ (e : ℕ × X). e.0) (option_map (λ (e : ℕ × X). (e.0, h e.1)) o)
          ≡ option_map (λ (e : ℕ × X). e.0) o
      go None = refl
      go (Some e) = refl

  turned_value : (k : ℕ) → value_in fs k ≡ option_map h (value_in es k)
  turned_value k =
      ap (option_map (λ (e : ℕ × X). e.1)) (slot_is k) ∙ go (slice_index_or es k None)
    where
      go : (o : Option (ℕ × X))
          → option_map (λ (e : ℕ × X). e.1) (option_map (λ (e : ℕ × X). (e.0, h e.1)) o)
          ≡ option_map h (option_map (λ (e : ℕ × X). e.1) o)
      go None = refl
      go (Some e) = refl

  pub turned_kept : IsKept fs order
  turned_kept = record {
    listed = λ n k at. same_number k ∙ kept.listed n k at;
    found = λ k n at. kept.found k n (sym (same_number k) ∙ at);
  }

  pub turned_values : values_of fs order ≡ alter_all (λ n x. Some (h x)) m
  turned_values = same_map _ _ (λ q.
      get_value fs order q ∙ go (get order q)
      ∙ ap (option_and_then (λ x. Some (h x)))
      (sym (get_value es order q) ∙ ap (λ z. get z q) shown)
      ∙ sym (get-alter_all (λ n x. Some (h x)) m q))
    where
      as_map : (o : Option X) → option_map h o ≡ option_and_then (λ x. Some (h x)) o
      as_map None = refl
      as_map (Some x) = refl

      go : (o : Option ℕ)
          → option_and_then (value_in fs) o
          ≡ option_and_then (λ x. Some (h x)) (option_and_then (value_in es) o)
      go None = refl
      go (Some k) = turned_value k ∙ as_map (value_in es k)
