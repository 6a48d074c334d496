-- What stands between commas, and an item of each.
use Rattle.std.proofs.Common.{◌≡◌, ℕ, zero, suc, ◌<◌, Bool, false, List, [], ◌∷◌, map}
use Rattle.std.proofs.Common.{length, get_or, Option, Some, None, Bor, refl, sym, ap, ◌∙◌, arith}
use Rattle.std.proofs.Common.{inl, inr, Result, Ok, Err, IfOk, Vec, ◌≤◌, take, subst}
use Rattle.std.specs.List.{slice_split, onto_first}
use Rattle.std.proofs.lemmas.Bool.{cases_Bool}
use Rattle.std.proofs.lemmas.List.{take_all}
use Rattle.mrc_wiring_text.specs.declared.items.Item.{Item}
use Rattle.mrc_wiring_text.specs.Lexis.{is_comma}
use Rattle.mrc_wiring_text.specs.Items.{item_of, first_of_all, all_of, is_none, items_of}

-- the words of a part
abbrev pub part_words : Bor (List (Bor (List ℕ))) → List (List ℕ)
part_words part = map (λ (w : Bor (List ℕ)). w.now) part.now

map-onto_first : {X Y : Type 0} (f : X → Y) (x : X) (parts : List (List X))
    → map (map f) (onto_first x parts) ≡ onto_first (f x) (map (map f) parts)
map-onto_first f x [] = refl
map-onto_first f x (part ∷ parts) = refl

-- lists of what f makes of elements are cut where the elements are
pub slice_split-map : {X Y : Type 0} (f : X → Y) (p : Y → Bool) (xs : List X)
    → map (map f) (slice_split (λ x. p (f x)) xs) ≡ slice_split p (map f xs)
slice_split-map f p [] = refl
slice_split-map f p (x ∷ xs) =
    elim (cases_Bool (p (f x))) [
      | inl e ↦ rw e (ap (λ parts. [] ∷ parts) (slice_split-map f p xs))
      | inr e ↦ rw e (map-onto_first f x (slice_split (λ x. p (f x)) xs)
          ∙ ap (onto_first (f x)) (slice_split-map f p xs))
    ]

map-part_words : (parts : List (Bor (List (Bor (List ℕ)))))
    → map part_words parts
    ≡ map (map (λ (w : Bor (List ℕ)). w.now)) (map (λ (p : Bor (List (Bor (List ℕ)))). p.now) parts)
map-part_words [] = refl
map-part_words (part ∷ parts) = ap (λ ws. part_words part ∷ ws) (map-part_words parts)

-- the words of the parts that a search for commas gave
pub at_parts : {Z E : Type 0} (found : Result (Vec (Bor (List (Bor (List ℕ)))) Z) E)
    (words : List (Bor (List ℕ)))
    → IfOk found (λ v. map (λ (p : Bor (List (Bor (List ℕ)))). p.now) v.items
    ≡ slice_split (λ (w : Bor (List ℕ)). is_comma w.now) words)
    → IfOk found (λ v. map part_words v.items
    ≡ slice_split is_comma (map (λ (w : Bor (List ℕ)). w.now) words))
at_parts (Ok v) words is =
    map-part_words v.items ∙ ap (map (map (λ (w : Bor (List ℕ)). w.now))) is
    ∙ slice_split-map (λ (w : Bor (List ℕ)). w.now) is_comma words
at_parts (Err e) words is = is

-- each element has a value
pub all_found : {X Y Z : Type 0} (f : Y → Option Z) (h : X → Y) (xs : List X) (zs : List Z)
    → map (λ x. f (h x)) xs ≡ map (λ z. Some z) zs
    → all_of f (map h xs) ≡ Some zs
all_found f h [] [] e = refl
all_found f h [] (z ∷ zs) e = absurd (cc)
all_found f h (x ∷ xs) [] e = absurd (cc)
all_found f h (x ∷ xs) (z ∷ zs) e =
    let head : f (h x) ≡ Some z = cc in
    let tail : map (λ x. f (h x)) xs ≡ map (λ z. Some z) zs = cc in
    rw (head, all_found f h xs zs tail) refl

none_first : {X : Type 0} (x : Option X) → first_of_all x None ≡ None
none_first (Some x) = refl
none_first None = refl

-- one element has none
pub one_missing : {X Y Z : Type 0} (f : Y → Option Z) (h : X → Y) (xs : List X) (i : ℕ) (d : X)
    → i < length xs
    → f (h (get_or xs i d)) ≡ None
    → all_of f (map h xs) ≡ None
one_missing f h [] i d within e = absurd (omega arith)
one_missing f h (x ∷ xs) zero d within e = rw e refl
one_missing f h (x ∷ xs) (suc i) d within e =
    rw (one_missing f h xs i d (omega arith) e) (none_first (f (h x)))

-- what words say, where the parts between their commas say items
pub items_read : (words : List (List ℕ)) (test : Bool)
    (parts view : List (Bor (List (Bor (List ℕ))))) (i : ℕ) (items : List Item)
    → test ≡ is_none words
    → test ≡ false
    → view ≡ parts
    → map part_words parts ≡ slice_split is_comma words
    → map (λ part. item_of (part_words part)) (take i view) ≡ map (λ item. Some item) items
    → length view ≤ i
    → items_of words ≡ Some items
unfolding items_of
items_read words test parts view i items is tested same cut said all =
    let one : is_none words ≡ false = sym is ∙ tested in
    let each : map (λ part. item_of (part_words part)) view ≡ map (λ item. Some item) items = subst
    (λ ps. map (λ part. item_of (part_words part)) ps ≡ map (λ item. Some item) items)
    (take_all i view all) said in
    rw (one, sym cut, sym same) (all_found item_of part_words view items each)

-- the same, where one of the parts says none
pub items_refused : (words : List (List ℕ)) (test : Bool)
    (parts view : List (Bor (List (Bor (List ℕ))))) (i : ℕ) (d : Bor (List (Bor (List ℕ))))
    → test ≡ is_none words
    → test ≡ false
    → view ≡ parts
    → map part_words parts ≡ slice_split is_comma words
    → i < length view
    → item_of (part_words (get_or view i d)) ≡ None
    → items_of words ≡ None
unfolding items_of
items_refused words test parts view i d is tested same cut within none =
    let one : is_none words ≡ false = sym is ∙ tested in
    rw (one, sym cut, sym same) (one_missing item_of part_words view i d within none)
