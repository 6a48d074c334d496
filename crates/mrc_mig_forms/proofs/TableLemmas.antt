-- The table of a file: what stands at an id is the row that takes it, and a table is made by
-- putting the rows of the text at their places.
use Rattle.std.proofs.Common.{◌≡◌, ◌≤◌, ◌<◌, ◌⊎◌, ℕ, zero, suc, ◌+◌, ◌-◌, Bool, true, false}
use Rattle.std.proofs.Common.{List, []}
use Rattle.std.proofs.Common.{◌∷◌, ◌++◌, length, map, Some, refl, ap, sym, subst, ◌∙◌}
use Rattle.std.proofs.Common.{arith, inl, inr, if◌then◌else◌, get_or, take}
use Rattle.std.specs.Prelude.{◌&&◌, ◌==◌, All, slice_get, slice_set}
use Rattle.std.specs.List.{fold, range_with_len}
use Rattle.std.proofs.lemmas.Bool.{and_parts, eqb-true, eq-eqb, ne_eqb}
use Rattle.std.proofs.lemmas.List.{map_more, length-map}
use Rattle.std.proofs.lemmas.List.FromFn.{map-range_with_len_more, length-map-range_with_len}
use Rattle.std.proofs.lemmas.List.Sums.{fold-append}
use Rattle.mrc_model.specs.IsIn.{IsIn, here, later}
use Rattle.mrc_model.proofs.Maps.{same_Some, not_None}
use Rattle.mrc_mig_rows.specs.Files.{FileSays}
use Rattle.mrc_mig_rows.specs.Rows.{RowSays}
use Rattle.mrc_forms.specs.Tables.{Row}
use Rattle.mrc_mig_forms.specs.Bounds.{RowFits, OutcomeFits}
use Rattle.mrc_mig_forms.specs.Files.{forms_at, forms_of_row, no_forms, takes, is_read}
use Rattle.mrc_mig_forms.specs.Puts.{put}
use Rattle.mrc_mig_forms.proofs.FileLemmas.{FileHolds}
use Rattle.mrc_mig_rows.specs.Rows.{Outcome, IsRead, IsLeftOut}
use mathlib.Core.Path.{fun_ext}

-- a test of two equal numbers, and of two others
same_passes : (a b : ℕ) → a ≡ b → (a == b) ≡ true
same_passes a b e = eq-eqb a b e

other_fails : (a b : ℕ) → (a ≡ b → ⊥) → (a == b) ≡ false
other_fails a b differ = ne_eqb a b differ

-- an id below all of these is none of them
none_of : {X : Type 0} (f : ℕ → X) (x : X) (b a n : ℕ) → b < a
    → map f (range_with_len a n)
    ≡ map (λ id. if b == id then x else f id) (range_with_len a n)
none_of f x b a zero less = refl
none_of f x b a (suc n) less =
    rw (other_fails b a (λ e. absurd (omega (arith, less, e))))
    (ap (λ xs. f a ∷ xs) (none_of f x b (a + 1) n (omega (arith, less))))

-- what is set at a place among those of ids
set_range : {X : Type 0} (f : ℕ → X) (x : X) (a n k b : ℕ) → b ≡ a + k
    → slice_set (map f (range_with_len a n)) k x
    ≡ map (λ id. if b == id then x else f id) (range_with_len a n)
set_range f x a zero k b e = refl
set_range f x a (suc n) zero b e =
    let same : b ≡ a = omega (arith, e) in
    rw (same_passes b a same)
    (ap (λ xs. x ∷ xs) (none_of f x b (a + 1) n (omega (arith, e))))
set_range f x a (suc n) (suc k) b e =
    rw (other_fails b a (λ is. absurd (omega (arith, e, is))))
    (ap (λ xs. f a ∷ xs) (set_range f x (a + 1) n k b (omega (arith, e))))

-- one row more, at each id
at_id : (id : ℕ) (rows : List RowSays) (row : RowSays)
    → forms_at id (rows ++ row ∷ [])
    ≡ (if takes id row then forms_of_row row else forms_at id rows)
at_id id rows row =
    fold-append (λ found row. if takes id row then forms_of_row row else found) no_forms rows
    (row ∷ [])

and_true : (b : Bool) → (b && true) ≡ b
and_true true = refl
and_true false = refl

and_false : (b : Bool) → (b && false) ≡ false
and_false true = refl
and_false false = refl

-- and in the table
pub put_more : (base n : ℕ) (rows : List RowSays) (row : RowSays)
    → (is_read row.outcome ≡ true → base ≤ row.id)
    → put base (map (λ id. forms_at id rows) (range_with_len base n)) row
    ≡ map (λ id. forms_at id (rows ++ row ∷ [])) (range_with_len base n)
put_more base n rows row above = by (is_read row.outcome) refl
  where
    table : List Row
    table = map (λ id. forms_at id rows) (range_with_len base n)

    by : (b : Bool) → is_read row.outcome ≡ b
        → (if b then slice_set table (row.id - base) (forms_of_row row) else table)
        ≡ map (λ id. forms_at id (rows ++ row ∷ [])) (range_with_len base n)
    by true e =
        let le = above e in
        set_range (λ id. forms_at id rows) (forms_of_row row) base n (row.id - base) row.id
        (omega (arith, le))
        ∙ ap (λ (f : ℕ → Row). map f (range_with_len base n))
        (fun_ext (λ id. ap (λ b. if b then forms_of_row row else forms_at id rows)
        (sym (ap (λ b. (row.id == id) && b) e ∙ and_true (row.id == id)))
        ∙ sym (at_id id rows row)))
    by false e =
        ap (λ (f : ℕ → Row). map f (range_with_len base n))
        (fun_ext (λ id. ap (λ b. if b then forms_of_row row else forms_at id rows)
        (sym (ap (λ b. (row.id == id) && b) e ∙ and_false (row.id == id)))
        ∙ sym (at_id id rows row)))

-- one id more, at which nothing stands
pub nothing_more : (base n : ℕ)
    → map (λ id. forms_at id []) (range_with_len base (n + 1))
    ≡ map (λ id. forms_at id []) (range_with_len base n) ++ no_forms ∷ []
nothing_more base n = map-range_with_len_more (λ id. forms_at id []) base n (base + n) refl

-- what stands at a place among those of ids
pub at_place : {X : Type 0} (f : ℕ → X) (a n i : ℕ) (x : X)
    → slice_get (map f (range_with_len a n)) i ≡ Some x → (i < n) × (f (a + i) ≡ x)
at_place f a zero i x e = absurd (not_None x (sym e))
at_place f a (suc n) zero x e =
    let same : a + 0 ≡ a = omega arith in (omega arith, ap f same ∙ same_Some (f a) x e)
at_place f a (suc n) (suc i) x e =
    let (less, is) = at_place f (a + 1) n i x e in
    let same : a + suc i ≡ a + 1 + i = omega arith in (omega (arith, less), ap f same ∙ is)

pub place_at : {X : Type 0} (f : ℕ → X) (a n i : ℕ) → i < n
    → slice_get (map f (range_with_len a n)) i ≡ Some (f (a + i))
place_at f a zero i less = absurd (omega (arith, less))
place_at f a (suc n) zero less =
    let same : a ≡ a + 0 = omega arith in ap (λ k. Some (f k)) same
place_at f a (suc n) (suc i) less =
    let same : a + 1 + i ≡ a + suc i = omega arith in
    place_at f (a + 1) n i (omega (arith, less)) ∙ ap (λ k. Some (f k)) same

-- a row takes this id and is read, and its forms are these
abbrev pub IsTaken : ℕ → List RowSays → Row → Type 0
IsTaken id rows found =
    (row : RowSays) × IsIn row rows × (takes id row ≡ true) × (found ≡ forms_of_row row)

abbrev pub TakesNone : ℕ → List RowSays → Type 0
TakesNone id rows = (row : RowSays) → IsIn row rows → takes id row ≡ false

-- the search from the front on
abbrev from : ℕ → Row → List RowSays → Row
from id start rows = fold (λ found row. if takes id row then forms_of_row row else found) start rows

cons_none : (id : ℕ) (row : RowSays) (rows : List RowSays) → takes id row ≡ false
    → TakesNone id rows → TakesNone id (row ∷ rows)
cons_none id row rows e none other (here) = e
cons_none id row rows e none other (later h) = none other h

search_from : (id : ℕ) (start : Row) (rows : List RowSays)
    → ((from id start rows ≡ start) × TakesNone id rows) ⊎ IsTaken id rows (from id start rows)
search_from id start [] = inl (refl, λ row h. elim h [ ])
search_from id start (row ∷ rows) =
    by (takes id row) refl (search_from id start rows) (search_from id (forms_of_row row) rows)
  where
    by : (b : Bool) → takes id row ≡ b
        → ((from id start rows ≡ start) × TakesNone id rows) ⊎ IsTaken id rows (from id start rows)
        → ((from id (forms_of_row row) rows ≡ forms_of_row row) × TakesNone id rows)
        ⊎ IsTaken id rows (from id (forms_of_row row) rows)
        → ((from id (if b then forms_of_row row else start) rows ≡ start)
        × TakesNone id (row ∷ rows))
        ⊎ IsTaken id (row ∷ rows) (from id (if b then forms_of_row row else start) rows)
    by false e (inl none) other = inl (none.0, cons_none id row rows e none.1)
    by false e (inr found) other = inr (found.0, later found.1, found.2, found.3)
    by true e other (inl none) = inr (row, here, e, none.0)
    by true e other (inr found) = inr (found.0, later found.1, found.2, found.3)

-- what stands at an id is nothing, or the forms of a row that takes it
pub stands_at : (id : ℕ) (rows : List RowSays)
    → ((forms_at id rows ≡ no_forms) × TakesNone id rows) ⊎ IsTaken id rows (forms_at id rows)
stands_at id rows = search_from id no_forms rows

-- a row that takes an id
pub takes_is : (id : ℕ) (row : RowSays) → takes id row ≡ true
    → (row.id ≡ id) × (is_read row.outcome ≡ true)
takes_is id row e =
    let both = and_parts (row.id == id) (is_read row.outcome) e in
    (eqb-true row.id id both.0, both.1)

pub is_takes : (id : ℕ) (row : RowSays) → row.id ≡ id → is_read row.outcome ≡ true
    → takes id row ≡ true
is_takes id row same is =
    ap (λ b. b && is_read row.outcome) (same_passes row.id id same) ∙ is

-- a row that is read stands at its id
pub own_place : (file : FileSays) → FileHolds file → (row : RowSays) → IsIn row file.rows
    → is_read row.outcome ≡ true → forms_at row.id file.rows ≡ forms_of_row row
own_place file holds row there is = elim (stands_at row.id file.rows) [
  | inl none ↦ let e : true ≡ false = sym (is_takes row.id row refl is) ∙ none.1 row there in
      absurd cc
  | inr found ↦ let (same, read) = takes_is row.id found.0 found.2 in
      found.3 ∙ ap forms_of_row (holds.own found.0 row found.1 there read same)
]

-- an element at a place of a list
in_place : {X : Type 0} (xs : List X) (k : ℕ) (d : X) → k < length xs → IsIn (get_or xs k d) xs
in_place [] k d less = absurd (omega (arith, less))
in_place (x ∷ xs) zero d less = here
in_place (x ∷ xs) (suc k) d less = later (in_place xs k d (omega (arith, less)))

pub all_fit : (file : FileSays) → FileHolds file
    → All (RowFits file.heading.base file.ids) file.rows
all_fit file holds k d less =
    holds.fits (get_or file.rows k d) (in_place file.rows k d less)

-- a row that is read is not below the first id
pub above : (base ids id : ℕ) (outcome : Outcome) → OutcomeFits base ids id outcome
    → is_read outcome ≡ true → base ≤ id
above base ids id (IsRead answered request reply) fits is = fits.above
above base ids id (IsLeftOut told carried) fits is = absurd cc

-- the rows so far, with the one in this place
pub rows_more : {X : Type 0} (f : X → RowSays) (xs : List X) (i : ℕ) (d : X) (base n : ℕ)
    (rows new : List Row) → i < length xs
    → (is_read (f (get_or xs i d)).outcome ≡ true → base ≤ (f (get_or xs i d)).id)
    → rows ≡ map (λ id. forms_at id (map f (take i xs))) (range_with_len base n)
    → new ≡ put base rows (f (get_or xs i d))
    → new ≡ map (λ id. forms_at id (map f (take (i + 1) xs))) (range_with_len base n)
rows_more f xs i d base n rows new less above so_far is =
    is ∙ (ap (λ (rs : List Row). put base rs (f (get_or xs i d))) so_far
    ∙ (put_more base n (map f (take i xs)) (f (get_or xs i d)) above
    ∙ ap (λ (rs : List RowSays). map (λ id. forms_at id rs) (range_with_len base n))
    (sym (map_more f xs i d less))))

-- a list for each of so many ids
pub so_many : {X : Type 0} (f : ℕ → X) (base n : ℕ) (table : List X)
    → table ≡ map f (range_with_len base n) → length table ≡ n
so_many f base n table is = ap length is ∙ length-map-range_with_len f base n

-- the row in this place fits
made_at : {X Y : Type 0} (f : X → Y) (xs : List X) (i : ℕ) (d : X)
    → get_or (map f xs) i (f d) ≡ f (get_or xs i d)
made_at f [] i d = refl
made_at f (x ∷ xs) zero d = refl
made_at f (x ∷ xs) (suc i) d = made_at f xs i d

pub fits_at : {X : Type 0} (f : X → RowSays) (xs : List X) (i : ℕ) (d : X) (base n : ℕ)
    → i < length xs → All (RowFits base n) (map f xs) → RowFits base n (f (get_or xs i d))
fits_at f xs i d base n less all =
    let there : i < length (map f xs) = rw (length-map xs f) less in
    subst (RowFits base n) (made_at f xs i d) (all i (f d) there)
