-- What the members of a set give of a map, when one goes through them in ascending order.
use Rattle.std.proofs.Common.{◌≡◌, ℕ, suc, ◌+◌, ◌<◌, ◌≤◌, nat_le, true, false, ◌&&◌, T, List}
use Rattle.std.proofs.Common.{[], ◌∷◌, ◌++◌, Option, Some, None, refl, sym, ◌∙◌, ap, arith}
use Rattle.std.proofs.Common.{inl, inr, ◌==◌, if◌then◌else◌}
use Rattle.std.proofs.lemmas.Bool.{leb-true, le-leb, lt-leb, eq-eqb, ne_eqb, cases_order}
use Rattle.std.proofs.lemmas.List.{append_assoc, append-nil}
use Rattle.mrc_model.specs.Rising.{is_rising, find_key, at_least, is_at_least, left_holds}
use Rattle.mrc_model.specs.Rising.{right_holds, both_hold}
use Rattle.mrc_model.specs.Map.{Map, get}
use Rattle.mrc_model.specs.Death.{has}
use Rattle.mrc_model.proofs.Maps.{find_low, if_true, if_false}
use Rattle.mrc_map.specs.Members.{above, IsMember, IsFirst, of_some}

module _ {X A : Type 0} (f : ℕ → X → List A) (xs : List ℕ) where
  -- what an entry gives, if its key is a member and not below from
  abbrev pub of_entry : ℕ → ℕ × X → List A
  of_entry from e = if nat_le from e.0 && has xs e.0 then f e.0 e.1 else []

  -- what all members from a number on give
  abbrev pub since : ℕ → List (ℕ × X) → List A
  since from [] = []
  since from (e ∷ es) = of_entry from e ++ since from es

  -- of entries above it does not matter from where on
  since_above : (a b low : ℕ) (es : List (ℕ × X))
      → T (is_rising low es)
      → a ≤ low
      → b ≤ low
      → since a es ≡ since b es
  since_above a b low [] r h k = refl
  since_above a b low (e ∷ es) r h k =
      let first : low ≤ e.0 = at_least low e.0 (left_holds _ _ r) in
      let same : nat_le a e.0 ≡ nat_le b e.0 =
      le-leb a e.0 (omega arith) ∙ sym (le-leb b e.0 (omega arith)) in
      let rest : since a es ≡ since b es =
      since_above a b (e.0 + 1) es (right_holds _ _ r) (omega arith) (omega arith) in
      ap (λ c. (if c && has xs e.0 then f e.0 e.1 else []) ++ since a es) same
      ∙ ap (λ l. of_entry b e ++ l) rest

  -- an entry that is no member gives nothing
  of_none : (from : ℕ) (e : ℕ × X) → (from ≤ e.0 → has xs e.0 ≡ false) → of_entry from e ≡ []
  of_none from e none = elim (nat_le from e.0) as (λ b. nat_le from e.0 ≡ b
      → (if b && has xs e.0 then f e.0 e.1 else []) ≡ []) [
        | true ↦ λ t. ap (λ c. if c then f e.0 e.1 else []) (none (leb-true from e.0 t))
        | false ↦ λ t. refl
      ] refl

  -- nor does one below
  of_below : (from : ℕ) (e : ℕ × X) → e.0 < from → of_entry from e ≡ []
  of_below from e h =
      ap (λ b. if b && has xs e.0 then f e.0 e.1 else []) (lt-leb from e.0 h)

  -- first the next member gives, then those above it
  since_next : (from p low : ℕ) (es : List (ℕ × X))
      → IsMember xs from p
      → T (is_rising low es)
      → since from es ≡ of_some (f p) (find_key p es) ++ since (suc p) es
  since_next from p low [] m r = refl
  since_next from p low (e ∷ es) m r = elim (cases_order p e.0) [
    | inl same ↦
        let up = m.above in
        let found : find_key p (e ∷ es) ≡ Some e.1 =
        if_true (p == e.0) (Some e.1) (find_key p es) (eq-eqb p e.0 same) in
        let here : of_entry from e ≡ f e.0 e.1 =
        ap (λ b. if b && has xs e.0 then f e.0 e.1 else []) (le-leb from e.0 (omega arith))
        ∙ ap (λ b. if b then f e.0 e.1 else []) (ap (has xs) (sym same) ∙ m.there) in
        ap (λ h. h ++ since from es) here
        ∙ ap (λ l. f e.0 e.1 ++ l)
        (since_above from (suc p) (e.0 + 1) es (right_holds _ _ r) (omega arith) (omega arith))
        ∙ ap (λ k. f k e.1 ++ since (suc p) es) (sym same)
        ∙ sym (ap (λ o. of_some (f p) o ++ (of_entry (suc p) e ++ since (suc p) es)) found
        ∙ ap (λ h. f p e.1 ++ (h ++ since (suc p) es)) (of_below (suc p) e (omega arith)))
    | inr (inl less) ↦
        let up = m.above in
        let rises = both_hold _ _ (is_at_least e.0 e.0 (omega arith)) (right_holds _ _ r) in
        since_above from (suc p) e.0 (e ∷ es) rises (omega arith) (omega arith)
        ∙ sym (ap (λ o. of_some (f p) o ++ since (suc p) (e ∷ es))
        (find_low e.0 p (e ∷ es) rises less))
    | inr (inr more) ↦
        let beside : find_key p (e ∷ es) ≡ find_key p es =
        if_false (p == e.0) (Some e.1) (find_key p es)
        (ne_eqb p e.0 (λ z. absurd (omega arith))) in
        ap (λ h. h ++ since from es) (of_none from e (λ h. m.first e.0 h more))
        ∙ since_next from p (e.0 + 1) es m (right_holds _ _ r)
        ∙ sym (ap (λ o. of_some (f p) o ++ (of_entry (suc p) e ++ since (suc p) es)) beside
        ∙ ap (λ h. of_some (f p) (find_key p es) ++ (h ++ since (suc p) es))
        (of_below (suc p) e (omega arith)))
  ]

  since_none : (from : ℕ) (es : List (ℕ × X))
      → ((q : ℕ) → from ≤ q → has xs q ≡ false)
      → since from es ≡ []
  since_none from [] none = refl
  since_none from (e ∷ es) none =
      ap (λ h. h ++ since from es) (of_none from e (λ h. none e.0 h)) ∙ since_none from es none

  -- one member more
  pub walk_next : (now next all : List A) (last : Option ℕ) (p : ℕ) (m : Map X)
      → IsMember xs (above last) p
      → now ++ since (above last) m.list ≡ all
      → next ≡ now ++ of_some (f p) (get m p)
      → next ++ since (suc p) m.list ≡ all
  unfolding get
  walk_next now next all last p m member so_far is =
      ap (λ l. l ++ since (suc p) m.list) is
      ∙ append_assoc now (of_some (f p) (find_key p m.list)) (since (suc p) m.list)
      ∙ ap (λ l. now ++ l) (sym (since_next (above last) p 0 m.list member m.rising))
      ∙ so_far

  -- all members
  pub walk_end : (now all : List A) (last : Option ℕ) (m : Map X)
      → IsFirst xs (above last) None
      → now ++ since (above last) m.list ≡ all
      → now ≡ all
  walk_end now all last m none so_far =
      sym (append-nil now) ∙ ap (λ l. now ++ l) (sym (since_none (above last) m.list none))
      ∙ so_far

  -- from the first on
  pub from_first : (e : ℕ × X) → of_entry 0 e ≡ (if has xs e.0 then f e.0 e.1 else [])
  from_first e =
      ap (λ b. if b && has xs e.0 then f e.0 e.1 else []) (le-leb 0 e.0 (omega arith))
