-- Elements of lists that are made of other lists.
use Rattle.std.proofs.Common.{◌≡◌, ◌+◌, ◌<◌, ◌⊎◌, inl, inr, ℕ, zero, suc, List, [], ◌∷◌, ◌++◌}
use Rattle.std.proofs.Common.{map, length, get_or, refl, sym, ap, ◌∙◌, subst, arith, Contains}
use Rattle.std.specs.Prelude.{Some, slice_get}
use Rattle.std.specs.List.{flat_map}
use Rattle.std.proofs.lemmas.List.Concat.{flat_map-cons}
use Rattle.mrc_wiring_text.specs.declared.items.Item.TheVariants as item
use Rattle.mrc_wiring_text.specs.declared.wiring.WiringSays.TheVariants as core
use Rattle.mrc_stand_for.specs.Products.{births_lines, reply_lines, once_line}
use Rattle.mrc_stand_for.specs.Products.{admit_line, trust_line}
use Rattle.mrc_stand_for.specs.Products.{verb_lines, trust_none}
use Rattle.mrc_stand_for.specs.ProductLaws.{BirthsAreOfEachTask, RepliesAreOfEachTask}
use Rattle.mrc_stand_for.specs.ProductLaws.{OncesAreProducts, AdmitsAreProducts, TrustsAreProducts}
use Rattle.mrc_stand_for.specs.ProductLaws.{NonesAreProducts}

cons_at : {X : Type 0} (x y : X) (xs : List X) (k : ℕ)
    → k < length (x ∷ xs) → get_or (x ∷ xs) k y ≡ y → (y ≡ x) ⊎ Contains xs y
cons_at x y xs zero less is = inl (sym is)
cons_at x y xs (suc k) less is = inr (k, omega arith, is)

-- an element is the first, or one of the others
cons_to : {X : Type 0} (x y : X) (xs : List X) → Contains (x ∷ xs) y → (y ≡ x) ⊎ Contains xs y
cons_to x y xs h = cons_at x y xs h.0 h.1 h.2

pub first_in : {X : Type 0} (x : X) (xs : List X) → Contains (x ∷ xs) x
first_in x xs = (0, omega arith, refl)

later_in : {X : Type 0} (x y : X) (xs : List X) → Contains xs y → Contains (x ∷ xs) y
later_in x y xs h = (suc h.0, (let less = h.1 in omega arith), h.2)

none_in : {X P : Type 0} (y : X) → Contains [] y → P
none_in y h = let less : h.0 < 0 = h.1 in absurd (omega arith)

-- an element of two lists together is one of the first or of the second
append_to : {X : Type 0} (xs ys : List X) (y : X)
    → Contains (xs ++ ys) y → Contains xs y ⊎ Contains ys y
append_to [] ys y h = inr h
append_to (x ∷ xs) ys y h =
    elim (cons_to x y (xs ++ ys) h) [
      | inl e ↦ inl (subst (λ z. Contains (z ∷ xs) y) e (first_in y xs))
      | inr more ↦ elim (append_to xs ys y more) [
        | inl l ↦ inl (later_in x y xs l)
        | inr r ↦ inr r
      ]
    ]

append_left : {X : Type 0} (xs ys : List X) (y : X) → Contains xs y → Contains (xs ++ ys) y
append_left [] ys y h = none_in y h
append_left (x ∷ xs) ys y h =
    elim (cons_to x y xs h) [
      | inl e ↦ subst (λ z. Contains (z ∷ (xs ++ ys)) y) e (first_in y (xs ++ ys))
      | inr more ↦ later_in x y (xs ++ ys) (append_left xs ys y more)
    ]

append_right : {X : Type 0} (xs ys : List X) (y : X) → Contains ys y → Contains (xs ++ ys) y
append_right [] ys y h = h
append_right (x ∷ xs) ys y h = later_in x y (xs ++ ys) (append_right xs ys y h)

-- what is made of each element
map_to : {X Y : Type 0} (f : X → Y) (xs : List X) (y : Y)
    → Contains (map f xs) y → (x : X) × Contains xs x × (y ≡ f x)
map_to f [] y h = none_in y h
map_to f (x ∷ xs) y h =
    elim (cons_to (f x) y (map f xs) h) [
      | inl e ↦ (x, first_in x xs, e)
      | inr more ↦ let m = map_to f xs y more in (m.0, later_in x m.0 xs m.1, m.2)
    ]

map_from : {X Y : Type 0} (f : X → Y) (xs : List X) (x : X) → Contains xs x
    → Contains (map f xs) (f x)
map_from f [] x h = none_in x h
map_from f (z ∷ xs) x h =
    elim (cons_to z x xs h) [
      | inl e ↦ subst (λ w. Contains (f w ∷ map f xs) (f x)) e (first_in (f x) (map f xs))
      | inr more ↦ later_in (f z) (f x) (map f xs) (map_from f xs x more)
    ]

-- what the lists of each element have
pub lists_to : {X Y : Type 0} (f : X → List Y) (xs : List X) (y : Y)
    → Contains (flat_map f xs) y → (x : X) × Contains xs x × Contains (f x) y
lists_to f [] y h = none_in y h
lists_to f (x ∷ xs) y h =
    let parts = subst (λ zs. Contains zs y) (flat_map-cons f x xs) h in
    elim (append_to (f x) (flat_map f xs) y parts) [
      | inl l ↦ (x, first_in x xs, l)
      | inr r ↦ let m = lists_to f xs y r in (m.0, later_in x m.0 xs m.1, m.2)
    ]

pub lists_from : {X Y : Type 0} (f : X → List Y) (xs : List X) (x : X) (y : Y)
    → Contains xs x → Contains (f x) y → Contains (flat_map f xs) y
lists_from f [] x y h has = none_in x h
lists_from f (z ∷ xs) x y h has =
    subst (λ zs. Contains zs y) (sym (flat_map-cons f z xs))
    (elim (cons_to z x xs h) [
      | inl e ↦ append_left (f z) (flat_map f xs) y (subst (λ w. Contains (f w) y) e has)
      | inr more ↦ append_right (f z) (flat_map f xs) y (lists_from f xs x y more has)
    ])

-- a product of two lists
pair_to : {X Y Z : Type 0} (f : X → Y → Z) (xs : List X) (ys : List Y) (z : Z)
    → Contains (flat_map (λ x. map (f x) ys) xs) z
    → (x : X) × (y : Y) × Contains xs x × Contains ys y × (z ≡ f x y)
pair_to f xs ys z h =
    let a = lists_to (λ x. map (f x) ys) xs z h in
    let b = map_to (f a.0) ys z a.2 in
    (a.0, b.0, a.1, b.1, b.2)

pair_from : {X Y Z : Type 0} (f : X → Y → Z) (xs : List X) (ys : List Y) (z : Z)
    → (x : X) × (y : Y) × Contains xs x × Contains ys y × (z ≡ f x y)
    → Contains (flat_map (λ x. map (f x) ys) xs) z
pair_from f xs ys z m =
    subst (Contains (flat_map (λ x. map (f x) ys) xs)) (sym m.4)
    (lists_from (λ x. map (f x) ys) xs m.0 (f m.0 m.1) m.2 (map_from (f m.0) ys m.1 m.3))

pub births_are_of_each_task : BirthsAreOfEachTask
births_are_of_each_task = λ tasks kind accepts says. (
  map_to (λ task. core.Births task kind accepts) tasks says,
  λ m. subst (Contains (births_lines tasks kind accepts)) (sym m.2)
      (map_from (λ task. core.Births task kind accepts) tasks m.0 m.1),
)

pub replies_are_of_each_task : RepliesAreOfEachTask
replies_are_of_each_task = λ tasks kind subsystems says. (
  lists_to (λ task. reply_lines task kind subsystems) tasks says,
  λ m. lists_from (λ task. reply_lines task kind subsystems) tasks m.0 says m.1 m.2,
)

pub kinds_count_up : (task : List ℕ) (kind : ℕ) (subsystems : List (List ℕ)) (i : ℕ)
    (subsystem : List ℕ) → slice_get subsystems i ≡ Some subsystem
    → slice_get (reply_lines task kind subsystems) i
    ≡ Some (core.Births task (kind + i) (item.Reply subsystem ∷ []))
kinds_count_up task kind [] i subsystem at = absurd cc
kinds_count_up task kind (first ∷ rest) zero subsystem at =
    let is : first ≡ subsystem = cc in
    let same : kind ≡ kind + 0 = omega arith in
    ap (λ name. Some (core.Births task kind (item.Reply name ∷ []))) is
    ∙ ap (λ n. Some (core.Births task n (item.Reply subsystem ∷ []))) same
kinds_count_up task kind (first ∷ rest) (suc i) subsystem at =
    let same : kind + 1 + i ≡ kind + suc i = omega arith in
    kinds_count_up task (kind + 1) rest i subsystem at
    ∙ ap (λ n. Some (core.Births task n (item.Reply subsystem ∷ []))) same

pub onces_are_products : OncesAreProducts
onces_are_products = λ tasks ports says. (
  pair_to once_line tasks ports says,
  pair_from once_line tasks ports says,
)

pub admits_are_products : AdmitsAreProducts
admits_are_products = λ slots classes says. (
  pair_to admit_line slots classes says,
  pair_from admit_line slots classes says,
)

pub nones_are_products : NonesAreProducts
nones_are_products = λ tasks verbs says. (
  pair_to trust_none tasks verbs says,
  pair_from trust_none tasks verbs says,
)

pub trusts_are_products : TrustsAreProducts
trusts_are_products = λ task verbs rights classes says. (
  λ h. let a = lists_to (verb_lines task rights classes) verbs says h in
      let b = pair_to (trust_line task a.0) rights classes says a.2 in
      (a.0, b.0, b.1, a.1, b.2, b.3, b.4),
  λ m. lists_from (verb_lines task rights classes) verbs m.0 says m.3
      (pair_from (trust_line task m.0) rights classes says (m.1, m.2, m.4, m.5, m.6)),
)
