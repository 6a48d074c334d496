-- A word with one dot, and the names around it.
use Rattle.std.proofs.Common.{◌≡◌, ℕ, suc, ◌+◌, true, false, List, [], ◌∷◌, ◌++◌, take, drop}
use Rattle.std.proofs.Common.{Some, refl, sym, ap, ◌∙◌, subst, inl, inr, arith, ltb, ◌&&◌}
use Rattle.std.proofs.Common.{length, ◌⊎◌}
use Rattle.std.specs.Prelude.{codes, IsTrue}
use Rattle.std.specs.List.{list_all, position_or_len, before_first, after_first}
use Rattle.std.proofs.lemmas.Bool.{cases_Bool, and_parts, eqb-true, false≢true}
use Rattle.mrc_base.specs.Limits.{limit_of_name}
use Rattle.mrc_wiring_text.specs.Lexis.{is_dot}
use Rattle.mrc_wiring_text.specs.Names.{is_letter, is_name_byte, is_name, name_of}
use Rattle.mrc_wiring_text.proofs.ItemLaws.{name_found}

take_shift : (b k : ℕ) (bs : List ℕ) → take (1 + k) (b ∷ bs) ≡ b ∷ take k bs
take_shift b k bs = let one : 1 + k ≡ suc k = omega arith in rw one refl

drop_shift : (b k : ℕ) (bs : List ℕ) → drop (1 + k + 1) (b ∷ bs) ≡ drop (k + 1) bs
drop_shift b k bs = let two : 1 + k + 1 ≡ suc (k + 1) = omega arith in rw two refl

-- bytes with a dot, or nothing behind one
abbrev AtDot : List ℕ → Type 0
AtDot bs =
    (bs ≡ before_first is_dot bs ++ 46 ∷ after_first is_dot bs) ⊎ (after_first is_dot bs ≡ [])

at_first : (b : ℕ) (bs : List ℕ) → is_dot b ≡ true → AtDot (b ∷ bs)
at_first b bs e = rw e (inl (ap (λ n. n ∷ bs) (eqb-true b 46 e)))

at_later : (b : ℕ) (bs : List ℕ) → is_dot b ≡ false → AtDot bs → AtDot (b ∷ bs)
at_later b bs e ih =
    let k = position_or_len is_dot bs in
    rw (e, take_shift b k bs, drop_shift b k bs) (elim ih [
      | inl is ↦ inl (ap (λ rest. b ∷ rest) is)
      | inr is ↦ inr is
    ])

at_dot : (bs : List ℕ) → AtDot bs
at_dot [] = inr refl
at_dot (b ∷ bs) =
    elim (cases_Bool (is_dot b)) [
      | inl e ↦ at_first b bs e
      | inr e ↦ at_later b bs e (at_dot bs)
    ]

nothing_is_no_name : (name : List ℕ) → name ≡ [] → IsTrue (is_name name) → ⊥
unfolding is_name
nothing_is_no_name name is h = false≢true (subst (λ n. is_name n ≡ true) is h)

-- what a word is that has a name before its first dot and one after it
pub slot_found : (slot s t : List ℕ)
    → name_of (before_first is_dot slot) ≡ Some s
    → name_of (after_first is_dot slot) ≡ Some t
    → (slot ≡ s ++ (codes "." ++ t)) × IsTrue (is_name s) × IsTrue (is_name t)
slot_found slot s t before after =
    let front = name_found (before_first is_dot slot) s before in
    let back = name_found (after_first is_dot slot) t after in
    elim (at_dot slot) [
      | inl is ↦ (
        is ∙ ap (λ bs. bs ++ 46 ∷ after_first is_dot slot) front.0
            ∙ ap (λ bs. s ++ 46 ∷ bs) back.0,
        front.1,
        back.1,
      )
      | inr none ↦ absurd (nothing_is_no_name t (sym back.0 ∙ none) back.1)
    ]

letter_is_no_dot : (b : ℕ) → is_letter b ≡ true → is_dot b ≡ false
letter_is_no_dot b h =
    elim (cases_Bool (is_dot b)) [
      | inl e ↦ absurd (false≢true (subst (λ n. is_letter n ≡ true) (eqb-true b 46 e) h))
      | inr e ↦ e
    ]

byte_is_no_dot : (b : ℕ) → is_name_byte b ≡ true → is_dot b ≡ false
byte_is_no_dot b h =
    elim (cases_Bool (is_dot b)) [
      | inl e ↦ absurd (false≢true (subst (λ n. is_name_byte n ≡ true) (eqb-true b 46 e) h))
      | inr e ↦ e
    ]

-- what stands around the dot
abbrev Around : List ℕ → List ℕ → Type 0
Around s t =
    (before_first is_dot (s ++ 46 ∷ t) ≡ s) × (after_first is_dot (s ++ 46 ∷ t) ≡ t)

around_more : (b : ℕ) (s t : List ℕ) → is_dot b ≡ false → Around s t → Around (b ∷ s) t
around_more b s t e around =
    let k = position_or_len is_dot (s ++ 46 ∷ t) in
    rw (e, take_shift b k (s ++ 46 ∷ t), drop_shift b k (s ++ 46 ∷ t))
    (ap (λ rest. b ∷ rest) around.0, around.1)

around_bytes : (s t : List ℕ) → list_all is_name_byte s ≡ true → Around s t
around_bytes [] t h = (refl, refl)
around_bytes (b ∷ s) t h =
    let parts = and_parts (is_name_byte b) (list_all is_name_byte s) h in
    around_more b s t (byte_is_no_dot b parts.0) (around_bytes s t parts.1)

-- a name and a dot before anything
pub slot_again : (s t : List ℕ) → IsTrue (is_name s) → Around s t
unfolding is_name
slot_again [] t h = absurd (false≢true h)
slot_again (b ∷ s) t h =
    let parts = and_parts (is_letter b && ltb (length s) limit_of_name) (list_all is_name_byte s) h
    in
    let front = and_parts (is_letter b) (ltb (length s) limit_of_name) parts.0 in
    around_more b s t (letter_is_no_dot b front.0) (around_bytes s t parts.1)
