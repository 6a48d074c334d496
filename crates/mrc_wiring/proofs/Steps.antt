-- One turn of a loop over rows, slots, items or interfaces.
use Rattle.std.proofs.Common.{◌≡◌, ℕ, ◌+◌, ◌<◌, Bool, ◌||◌, List, ◌∷◌, ◌++◌}
use Rattle.std.proofs.Common.{length, get_or, drop, ap, sym, ◌∙◌}
use Rattle.std.proofs.Common.{drop-cons, append_assoc, add-one, take, ◌≤◌}
use Rattle.std.proofs.lemmas.List.{take_all}
use Rattle.std.specs.List.{list_any}
use Rattle.mrc_forms.specs.Tables.{Table as Interface}
use Rattle.mrc_wiring.specs.Sorts.{Sort, interface_sorts}
use Rattle.mrc_wiring.specs.Sorts.{sorts_from}
use Rattle.mrc_wiring.specs.Resolving.{has_twice, is_named}

-- what is left of a list, from a place that is in it
pub next_is : {X : Type 0} (xs : List X) (i : ℕ) (d : X)
    → i < length xs
    → drop i xs ≡ get_or xs i d ∷ drop (i + 1) xs
next_is xs i d less =
    drop-cons xs i d less ∙ ap (λ n. get_or xs i d ∷ drop n xs) (sym (add-one i))

-- a part moves from what is left to what is done
pub moves : {X : Type 0} (old new part left rest all : List X)
    → new ≡ old ++ part
    → left ≡ part ++ rest
    → old ++ left ≡ all
    → new ++ rest ≡ all
moves old new part left rest all e f told =
    ap (λ xs. xs ++ rest) e ∙ append_assoc old part rest ∙ ap (λ xs. old ++ xs) (sym f) ∙ told

-- whether two interfaces have one name, from a place on
pub twice_next : (xs : List Interface) (i : ℕ) (d : Interface)
    → i < length xs
    → has_twice (drop i xs)
    ≡ (list_any (is_named (get_or xs i d).name) (drop (i + 1) xs) || has_twice (drop (i + 1) xs))
twice_next xs i d less = ap has_twice (next_is xs i d less)

-- one turn of the search for two interfaces of one name
pub twice_turn : (xs : List Interface) (i n : ℕ) (x : Interface) (name : List ℕ) (found : Bool)
    → i < length xs
    → x ≡ get_or xs i x
    → name ≡ x.name
    → found ≡ list_any (is_named name) (take n (drop (i + 1) xs))
    → length (drop (i + 1) xs) ≤ n
    → has_twice (drop i xs) ≡ (found || has_twice (drop (i + 1) xs))
twice_turn xs i n x name found less is e told all =
    let same : name ≡ (get_or xs i x).name = e ∙ ap (λ (y : Interface). y.name) is in
    let here : found ≡ list_any (is_named (get_or xs i x).name) (drop (i + 1) xs) = told
    ∙ ap (list_any (is_named name)) (take_all n (drop (i + 1) xs) all)
    ∙ ap (λ y. list_any (is_named y) (drop (i + 1) xs)) same in
    twice_next xs i x less ∙ ap (λ b. b || has_twice (drop (i + 1) xs)) (sym here)

-- one turn over interfaces
pub interfaces_turn : (xs : List Interface) (i : ℕ) (x : Interface) (old new all : List Sort)
    → i < length xs
    → x ≡ get_or xs i x
    → new ≡ old ++ interface_sorts i x
    → old ++ sorts_from i (drop i xs) ≡ all
    → new ++ sorts_from (i + 1) (drop (i + 1) xs) ≡ all
interfaces_turn xs i x old new all less is made told =
    moves old new (interface_sorts i x) (sorts_from i (drop i xs)) (sorts_from (i + 1) (drop (i +
    1) xs)) all made
    (ap (sorts_from i) (next_is xs i x less)
    ∙ ap (λ y. interface_sorts i y ++ sorts_from (i + 1) (drop (i + 1) xs)) (sym is)) told
