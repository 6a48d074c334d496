-- Where the types that are declared stand.
use Rattle.std.proofs.Common.{◌≡◌, ℕ, suc, ◌<◌, Bool, true, false, cond, List, [], ◌∷◌, ◌++◌}
use Rattle.std.proofs.Common.{length, get_or, Option, Some, None, option_map, Bor, refl, sym, ap, ◌∙◌}
use Rattle.std.proofs.Common.{arith, subst}
use Rattle.std.specs.Str.{bytes_eq}
use Rattle.std.proofs.lemmas.Bool.{false_from_ne_true}
use Rattle.std.proofs.lemmas.Option.{same_Some}
use Rattle.std.proofs.lemmas.Slice.Eq.{bytes_eq-Decides}
use Rattle.mrc_mig_symbols.specs.Tables.{plain, entry_of}
use Rattle.mrc_mig_parse.specs.Places.{place_of}

-- an entry is found at its name's place
pub record FoundAt {X : Type 0} (entries : List (Bor (List ℕ) × X)) (found : Option X) (i : ℕ) :
    Type 0 where
  pub within : i < length entries
  pub is : (d : Bor (List ℕ) × X) → Some (get_or entries i d).1 ≡ found

found_further : {X : Type 0} (entry : Bor (List ℕ) × X) (others : List (Bor (List ℕ) × X))
    (found : Option X) (i : ℕ) → FoundAt others found i → FoundAt (entry ∷ others) found (suc i)
found_further entry others found i at =
    let within = at.within in record { within = omega arith; is = at.is }

pub found_at_place : {X : Type 0} (entries : List (Bor (List ℕ) × X)) (name : List ℕ) (i : ℕ)
    → place_of (plain entries) name ≡ Some i → FoundAt entries (entry_of (plain entries) name) i
unfolding place_of entry_of
found_at_place [] name i e = absurd cc
found_at_place {X} (entry ∷ others) name i e =
    by (bytes_eq name entry.0.now) (found_at_place others name) e
  where
    further : (place : Option ℕ) → place_of (plain others) name ≡ place
        → option_map suc place ≡ Some i
        → ((j : ℕ) → place_of (plain others) name ≡ Some j
        → FoundAt others (entry_of (plain others) name) j)
        → FoundAt (entry ∷ others) (entry_of (plain others) name) i
    further None is f found = absurd cc
    further (Some j) is f found =
        subst (λ k. FoundAt (entry ∷ others) (entry_of (plain others) name) k) (same_Some _ _ f)
        (found_further entry others (entry_of (plain others) name) j (found j is))

    by : (b : Bool) → ((j : ℕ) → place_of (plain others) name ≡ Some j
        → FoundAt others (entry_of (plain others) name) j)
        → cond b (Some 0) (option_map suc (place_of (plain others) name)) ≡ Some i
        → FoundAt (entry ∷ others) (cond b (Some entry.1) (entry_of (plain others) name)) i
    by true found f = subst (λ k. FoundAt (entry ∷ others) (Some entry.1) k) (same_Some _ _ f)
        (record { within = omega arith; is = λ d. refl })
    by false found f = further (place_of (plain others) name) refl f found

none_within : (place : Option ℕ) → option_map suc place ≡ None → place ≡ None
none_within None e = refl
none_within (Some i) e = absurd cc

-- a name with no place has no entry
pub no_place : {X : Type 0} (entries : List (List ℕ × X)) (name : List ℕ)
    → place_of entries name ≡ None → entry_of entries name ≡ None
unfolding place_of entry_of
no_place [] name e = refl
no_place {X} (entry ∷ others) name e = by (bytes_eq name entry.0) (no_place others name) e
  where
    by : (b : Bool) → (place_of others name ≡ None → entry_of others name ≡ None)
        → cond b (Some 0) (option_map suc (place_of others name)) ≡ None
        → cond b (Some entry.1) (entry_of others name) ≡ None
    by true further f = absurd cc
    by false further f = further (none_within _ f)

same_from : (b : Bool) (xs ys : List ℕ) → bytes_eq xs ys ≡ b → bytes_eq ys xs ≡ b
same_from true xs ys e =
    (bytes_eq-Decides ys xs).1 (sym ((bytes_eq-Decides xs ys).0 e))
same_from false xs ys e =
    false_from_ne_true (bytes_eq ys xs)
    (λ t. let back = (bytes_eq-Decides xs ys).1 (sym ((bytes_eq-Decides ys xs).0 t)) in cc)

new_further : {X : Type 0} (b : Bool) (x : X) (others : Option X) → cond b (Some x) others ≡ None
    → (b ≡ false) × (others ≡ None)
new_further true x others e = absurd cc
new_further false x others e = (refl, e)

placed_behind : (b c : Bool) (n : ℕ) (place : Option ℕ) → (b ≡ true → c ≡ false)
    → cond c (Some 0) (option_map suc (cond b (Some n) place))
    ≡ cond b (Some (suc n)) (cond c (Some 0) (option_map suc place))
placed_behind true true n place apart = let no = apart refl in absurd cc
placed_behind true false n place apart = refl
placed_behind false c n place apart = refl

-- behind entries that lack a name, the name's place is the last one
pub last_place : {X : Type 0} (entries : List (List ℕ × X)) (name : List ℕ) (x : X)
    → entry_of entries name ≡ None → (other : List ℕ)
    → place_of (entries ++ (name, x) ∷ []) other
    ≡ cond (bytes_eq name other) (Some (length entries)) (place_of entries other)
unfolding place_of entry_of
last_place [] name x new other =
    ap (λ (b : Bool). cond b (Some 0) None) (same_from (bytes_eq name other) name other refl)
last_place (entry ∷ others) name x new other =
    let further = new_further (bytes_eq name entry.0) entry.1 (entry_of others name) new in
    ap (λ place. cond (bytes_eq other entry.0) (Some 0) (option_map suc place))
    (last_place others name x further.1 other)
    ∙ placed_behind (bytes_eq name other) (bytes_eq other entry.0) (length others)
    (place_of others other)
    (λ same. ap (λ n. bytes_eq n entry.0) (sym ((bytes_eq-Decides name other).0 same)) ∙ further.0)
