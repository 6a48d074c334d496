-- A text is cut at its first blank into the words that were joined.
use Rattle.std.proofs.Common.{◌≡◌, ℕ, ◌+◌, Bool, true, false, List, [], ◌∷◌}
use Rattle.std.proofs.Common.{◌++◌, length, drop}
use Rattle.std.proofs.Common.{Option, Some, None, refl, sym, subst, ap, ap₂, ◌∙◌, arith, nat_lt}
use Rattle.std.proofs.Common.{if◌then◌else◌, get_or}
use Rattle.std.proofs.Common.{◌&&◌, length-append, append_assoc}
use Rattle.std.specs.List.{position_or_len, before_first, after_first, list_all, list_any}
use Rattle.std.proofs.lemmas.Bool.{ltb-true, lt-ltb, eqb-true, and_parts, or_parts}
use Rattle.std.proofs.lemmas.List.{take_at, drop_at}
use Rattle.std.proofs.lemmas.List.Sums.{split_at_first, passes_at_first}
use Rattle.mrc_wiring_text.specs.Names.{is_name, is_letter, is_name_byte}
use Rattle.mrc_words.specs.Words.{◌␣◌}
use Rattle.mrc_words.specs.Reading.{is_blank, cut}

-- no byte of the word is a blank
abbrev pub HasNoBlank : List ℕ → Type 0
HasNoBlank [] = Unit {0}
HasNoBlank (b ∷ bs) = (is_blank b ≡ false) × HasNoBlank bs

-- a word that is written out
pub no_blanks : (word : List ℕ) → list_any is_blank word ≡ false → HasNoBlank word
no_blanks [] e = tt
no_blanks (b ∷ bs) e = let parts = or_parts (is_blank b) (list_any is_blank bs) e in (parts.0, no_blanks bs parts.1)

pub no_blank-append : (one other : List ℕ) → HasNoBlank one → HasNoBlank other
    → HasNoBlank (one ++ other)
no_blank-append [] other h k = k
no_blank-append (b ∷ bs) other h k = (h.0, no_blank-append bs other h.1 k)

-- a byte of a name is no blank
no_blank_byte : (b : ℕ) → is_name_byte b ≡ true → is_blank b ≡ false
no_blank_byte b is =
    elim (is_blank b) as (λ v. is_blank b ≡ v → v ≡ false) [
      | true ↦ λ e.
          let bad : is_name_byte 32 ≡ true = subst (λ n. is_name_byte n ≡ true) (eqb-true b 32 e) is in sym bad
      | false ↦ λ e. refl
    ] refl

no_blank_bytes : (bs : List ℕ) → list_all is_name_byte bs ≡ true → HasNoBlank bs
no_blank_bytes [] is = tt
no_blank_bytes (b ∷ bs) is =
    let parts = and_parts (is_name_byte b) (list_all is_name_byte bs) is in
    (no_blank_byte b parts.0, no_blank_bytes bs parts.1)

-- a letter is a byte of a name
letter_byte : (b : ℕ) → is_letter b ≡ true → is_blank b ≡ false
letter_byte b is =
    elim (is_blank b) as (λ v. is_blank b ≡ v → v ≡ false) [
      | true ↦ λ e.
          let bad : is_letter 32 ≡ true = subst (λ n. is_letter n ≡ true) (eqb-true b 32 e) is in sym bad
      | false ↦ λ e. refl
    ] refl

-- a name has no blank
pub no_blank_name : (name : List ℕ) → is_name name ≡ true → HasNoBlank name
unfolding is_name
no_blank_name [] is = tt
no_blank_name (b ∷ bs) is =
    let front = and_parts (is_letter b && nat_lt (length bs) 64) (list_all is_name_byte bs) is in
    (letter_byte b (and_parts (is_letter b) (nat_lt (length bs) 64) front.0).0, no_blank_bytes bs front.1)

-- the first blank stands after the word
first_blank : (word rest : List ℕ) → HasNoBlank word
    → position_or_len is_blank (word ++ 32 ∷ rest) ≡ length word
first_blank [] rest h = refl
first_blank (b ∷ bs) rest h = let more = first_blank bs rest h.1 in rw h.0 omega arith

-- joined words are cut where they were joined
pub cut_joined : (word rest : List ℕ) → HasNoBlank word → cut (word ␣ rest) ≡ Some (word, rest)
cut_joined word rest h =
    let text : List ℕ = word ++ 32 ∷ rest in
    let at : position_or_len is_blank text ≡ length word = first_blank word rest h in
    let inside : nat_lt (position_or_len is_blank text) (length text) ≡ true =
    lt-ltb _ _ (omega (arith, at, length-append word (32 ∷ rest))) in
    let before : before_first is_blank text ≡ word = take_at word (32 ∷ rest) _ (sym at) in
    let one : word ++ 32 ∷ rest ≡ (word ++ 32 ∷ []) ++ rest = sym (append_assoc word (32 ∷ []) rest) in
    let after : after_first is_blank text ≡ rest =
    ap (λ t. drop (position_or_len is_blank text + 1) t) one
    ∙ drop_at (word ++ 32 ∷ []) rest _ (omega (arith, at, length-append word (32 ∷ []))) in
    rw inside (ap₂ (λ (a b : List ℕ). Some (a, b)) before after)

word_of : Option (List ℕ × List ℕ) → List ℕ
word_of None = []
word_of (Some parts) = parts.0

rest_of : Option (List ℕ × List ℕ) → List ℕ
rest_of None = []
rest_of (Some parts) = parts.1

-- `cut`, where it is known whether there is a blank
abbrev cut_if : Bool → List ℕ → Option (List ℕ × List ℕ)
cut_if inside text = if inside then Some (before_first is_blank text, after_first is_blank text) else None

cut_cases : (inside : Bool) (text word rest : List ℕ)
    → nat_lt (position_or_len is_blank text) (length text) ≡ inside
    → cut_if inside text ≡ Some (word, rest) → word ␣ rest ≡ text
unfolding word_of rest_of
cut_cases true text word rest is found =
    let low = ltb-true _ _ is in
    let blank : get_or text (position_or_len is_blank text) 0 ≡ 32 = eqb-true _ _ (passes_at_first is_blank text 0 low) in
    let first : before_first is_blank text ≡ word = ap word_of found in
    let second : after_first is_blank text ≡ rest = ap rest_of found in
    sym (split_at_first is_blank text 0 low
    ∙ ap₂ (λ (a : List ℕ) (b : List ℕ). a ++ b) first (ap₂ (λ (x : ℕ) (b : List ℕ). x ∷ b) blank second))
cut_cases false text word rest is found = cc

-- what was cut joins to the text
pub cut_back : (text word rest : List ℕ) → cut text ≡ Some (word, rest) → word ␣ rest ≡ text
cut_back text word rest e = cut_cases _ text word rest refl e
