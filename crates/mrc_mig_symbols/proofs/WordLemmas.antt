-- A reserved word is one of those of its length.
use Rattle.std.proofs.Common.{◌≡◌, ℕ, Bool, true, false, ◌==◌, List, [], ◌∷◌, length}
use Rattle.std.proofs.Common.{Some, None, cond, refl, sym, ap, ◌∙◌, subst}
use Rattle.std.specs.Prelude.{filter}
use Rattle.std.specs.List.{list_all, list_any}
use Rattle.std.specs.Str.{bytes_eq, str_to_ascii_lowercase}
use Rattle.std.specs.Char.{to_ascii_lowercase}
use Rattle.std.proofs.lemmas.List.{length-map}
use Rattle.std.proofs.lemmas.Bool.{eqb-true, eq-eqb, false_from_ne_true, false≢true}
use Rattle.std.proofs.lemmas.Bool.{and_parts}
use Rattle.std.proofs.lemmas.Slice.Eq.{bytes_eq-Decides}
use Rattle.mrc_mig_symbols.specs.Tables.{entry_of}
use Rattle.mrc_mig_symbols.specs.Words.{reserved, word_of}

-- the entries whose names are so long
abbrev pub of_length : {X : Type 0} → ℕ → List (List ℕ × X) → List (List ℕ × X)
of_length n table = filter (λ entry. length entry.0 == n) table

-- a name of another length is another name
differs : (bytes name : List ℕ) → (length name == length bytes) ≡ false
    → bytes_eq bytes name ≡ false
differs bytes name e =
    false_from_ne_true (bytes_eq bytes name)
    (λ same. let is : bytes ≡ name = (bytes_eq-Decides bytes name).0 same in
    let as_long = eq-eqb (length name) (length bytes) (ap length (sym is)) in
    false≢true (sym e ∙ as_long))

one_on : {X : Type 0} (entry : List ℕ × X) (bytes : List ℕ) (some others : List (List ℕ × X))
    → entry_of some bytes ≡ entry_of others bytes
    → (as_long : Bool) → (length entry.0 == length bytes) ≡ as_long
    → entry_of (cond as_long (entry ∷ some) some) bytes ≡ entry_of (entry ∷ others) bytes
unfolding entry_of
one_on entry bytes some others e true is =
    ap (λ o. cond (bytes_eq bytes entry.0) (Some entry.1) o) e
one_on entry bytes some others e false is =
    e ∙ sym (ap (λ b. cond b (Some entry.1) (entry_of others bytes)) (differs bytes entry.0 is))

entry_of_length : {X : Type 0} (table : List (List ℕ × X)) (bytes : List ℕ)
    → entry_of (of_length (length bytes) table) bytes ≡ entry_of table bytes
entry_of_length [] bytes = refl
entry_of_length (entry ∷ table) bytes =
    one_on entry bytes (of_length (length bytes) table) table (entry_of_length table bytes)
    (length entry.0 == length bytes) refl

pub word_of_length : (text : List ℕ) (n : ℕ) → length text ≡ n
    → entry_of (of_length n reserved) (str_to_ascii_lowercase text) ≡ word_of text
word_of_length text n is =
    let low : length (str_to_ascii_lowercase text) ≡ n = length-map text to_ascii_lowercase ∙ is in
    subst (λ m. entry_of (of_length m reserved) (str_to_ascii_lowercase text) ≡ word_of text) low
    (entry_of_length reserved (str_to_ascii_lowercase text))

-- how long the reserved words are
abbrev pub lengths : List ℕ
lengths = 2 ∷ 3 ∷ 4 ∷ 5 ∷ 6 ∷ 7 ∷ 8 ∷ 9 ∷ 10 ∷ 11 ∷ 12 ∷ 13 ∷ 15 ∷ []

none_of_length : {X : Type 0} (ms : List ℕ) (table : List (List ℕ × X)) (bytes : List ℕ)
    → list_any (λ k. length bytes == k) ms ≡ false
    → list_all (λ entry. list_any (λ k. length entry.0 == k) ms) table ≡ true
    → None ≡ entry_of table bytes
unfolding entry_of
none_of_length ms [] bytes none each = refl
none_of_length ms (entry ∷ table) bytes none each =
    let parts = and_parts _ _ each in
    let other : (length entry.0 == length bytes) ≡ false =
    false_from_ne_true (length entry.0 == length bytes) (λ same. false≢true (sym none
    ∙ ap (λ n. list_any (λ k. n == k) ms) (sym (eqb-true (length entry.0) (length bytes) same))
    ∙ parts.0)) in
    none_of_length ms table bytes none parts.1
    ∙ sym (ap (λ b. cond b (Some entry.1) (entry_of table bytes)) (differs bytes entry.0 other))

-- a text of another length than each reserved word is none
pub no_word_of_length : (text : List ℕ) → list_any (λ k. length text == k) lengths ≡ false
    → None ≡ word_of text
no_word_of_length text none =
    none_of_length lengths reserved (str_to_ascii_lowercase text)
    (ap (λ n. list_any (λ k. n == k) lengths) (length-map text to_ascii_lowercase) ∙ none) refl
