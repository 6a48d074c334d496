-- A table that is searched from its front.
use Rattle.std.proofs.Common.{◌≡◌, ℕ, ◌+◌, ◌<◌, ◌≤◌, Bool, true, false, cond, List, Option, Some}
use Rattle.std.proofs.Common.{None, length, get_or, drop, refl, sym, ap, ◌∙◌, add-one, Bor}
use Rattle.std.proofs.Common.{drop-cons}
use Rattle.std.specs.Str.{bytes_eq, str_to_ascii_lowercase}
use Rattle.std.proofs.lemmas.List.{drop_all}
use Rattle.std.proofs.lemmas.Bool.{false_from_ne_true}
use Rattle.std.proofs.lemmas.Slice.Eq.{bytes_eq-Decides}
use Rattle.mrc_mig_symbols.specs.Tables.{plain, entry_of, AreLowercase}

-- the entry at a place is the first of the rest
entry_at : {X : Type 0} (table : List (Bor (List ℕ) × X)) (i : ℕ) (d : Bor (List ℕ) × X)
    (bytes : List ℕ) → i < length table
    → entry_of (plain (drop i table)) bytes ≡ cond (bytes_eq bytes (get_or table i d).0.now)
    (Some (get_or table i d).1) (entry_of (plain (drop (i + 1) table)) bytes)
unfolding entry_of
entry_at table i d bytes lt = rw (add-one, drop-cons table i d) refl

-- an entry that is found is the answer
pub entry_found : {X : Type 0} (table : List (Bor (List ℕ) × X)) (i : ℕ) (d : Bor (List ℕ) × X)
    (bytes : List ℕ) (total : Option X) → i < length table
    → bytes_eq bytes (get_or table i d).0.now ≡ true → entry_of (plain (drop i table)) bytes ≡ total
    → Some (get_or table i d).1 ≡ total
entry_found table i d bytes total lt same so_far =
    sym (entry_at table i d bytes lt
    ∙ ap (λ (b : Bool). cond b (Some (get_or table i d).1)
    (entry_of (plain (drop (i + 1) table)) bytes)) same) ∙ so_far

-- any other entry is passed
pub entry_passed : {X : Type 0} (table : List (Bor (List ℕ) × X)) (i : ℕ) (d : Bor (List ℕ) × X)
    (bytes : List ℕ) (total : Option X) → i < length table
    → bytes_eq bytes (get_or table i d).0.now ≡ false
    → entry_of (plain (drop i table)) bytes ≡ total
    → entry_of (plain (drop (i + 1) table)) bytes ≡ total
entry_passed table i d bytes total lt other so_far =
    sym (entry_at table i d bytes lt
    ∙ ap (λ (b : Bool). cond b (Some (get_or table i d).1)
    (entry_of (plain (drop (i + 1) table)) bytes)) other) ∙ so_far

-- behind the last entry there is none
pub no_entry : {X : Type 0} (table : List (Bor (List ℕ) × X)) (i : ℕ) (bytes : List ℕ)
    (total : Option X) → length table ≤ i
    → entry_of (plain (drop i table)) bytes ≡ total → None ≡ total
unfolding entry_of
no_entry table i bytes total le so_far =
    sym (ap (λ (rest : List _). entry_of (plain rest) bytes) (drop_all i table le)) ∙ so_far

-- the names of the rest are in lower case too
pub lower_at : {X : Type 0} (table : List (Bor (List ℕ) × X)) (i : ℕ) (d : Bor (List ℕ) × X)
    → i < length table → AreLowercase (drop i table)
    → (str_to_ascii_lowercase (get_or table i d).0.now ≡ (get_or table i d).0.now)
    × AreLowercase (drop (i + 1) table)
lower_at table i d lt lower = rw add-one (rw (drop-cons table i d) at lower)

-- two texts that are equal in lower case, one of them in lower case
pub lower_same : (text name : List ℕ) → str_to_ascii_lowercase name ≡ name
    → str_to_ascii_lowercase text ≡ str_to_ascii_lowercase name
    → bytes_eq (str_to_ascii_lowercase text) name ≡ true
lower_same text name low same = (bytes_eq-Decides (str_to_ascii_lowercase text) name).1 (same ∙ low)

-- two that are not
pub lower_differs : (text name : List ℕ) → str_to_ascii_lowercase name ≡ name
    → (str_to_ascii_lowercase text ≡ str_to_ascii_lowercase name → ⊥)
    → bytes_eq (str_to_ascii_lowercase text) name ≡ false
lower_differs text name low differs =
    false_from_ne_true (bytes_eq (str_to_ascii_lowercase text) name)
    (λ e. differs ((bytes_eq-Decides (str_to_ascii_lowercase text) name).0 e ∙ sym low))
