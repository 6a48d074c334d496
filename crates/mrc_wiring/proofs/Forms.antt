-- Tests of the forms of interfaces, row by row, and the model's interface of a number.
use Rattle.std.proofs.Common.{◌≡◌, ℕ, zero, suc, ◌+◌, ◌<◌, Bool, ◌||◌, List, [], ◌∷◌}
use Rattle.std.proofs.Common.{length, get_or, drop, Some, None, refl, ap, sym, ◌∙◌}
use Rattle.std.proofs.Common.{arith}
use Rattle.std.specs.Prelude.{slice_get, flat_map, unwrap_or}
use Rattle.std.specs.List.{list_any}
use Rattle.std.proofs.lemmas.List.Folds.{list_any-append}
use Rattle.mrc_forms.specs.Tables.{Table as Text}
use Rattle.mrc_model.specs.Wiring.{Interface}
use Rattle.mrc_model.specs.Wiring.{interface}
use Rattle.mrc_wiring.specs.Sorts.{Sort, sorts_of}
use Rattle.mrc_wiring.specs.ModelForms.{interface_of, interfaces_from}
use Rattle.mrc_wiring.specs.Table.{Table, wiring_of}
use Rattle.mrc_wiring.proofs.Steps.{next_is}

-- one turn over a label's items
pub items_turn : {X Y : Type 0} (p : Y → Bool) (f : X → List Y) (xs : List X) (i : ℕ) (x : X)
    (found : Bool)
    → i < length xs
    → x ≡ get_or xs i x
    → found ≡ list_any p (f x)
    → list_any p (flat_map f (drop i xs)) ≡ (found || list_any p (flat_map f (drop (i + 1) xs)))
items_turn p f xs i x found less is e =
    ap (λ ys. list_any p (flat_map f ys)) (next_is xs i x less)
    ∙ list_any-append p (f (get_or xs i x)) (flat_map f (drop (i + 1) xs))
    ∙ ap (λ b. b || list_any p (flat_map f (drop (i + 1) xs)))
    (ap (λ y. list_any p (f y)) (sym is) ∙ sym e)

abbrev pub no_interface : Interface
no_interface = record { requests = []; replies = [] }

at_number : (sorts : List Sort) (k s n : ℕ) (is : List Text) (i : Text)
    → slice_get is s ≡ Some i
    → n ≡ k + s
    → unwrap_or (slice_get (interfaces_from sorts k is) s) no_interface ≡ interface_of sorts n i
at_number sorts k s n [] i e f = cc
at_number sorts k zero n (t ∷ ts) i e f =
    let same : t ≡ i = cc in
    let number : k ≡ n = omega arith in
    ap (interface_of sorts k) same ∙ ap (λ m. interface_of sorts m i) number
at_number sorts k (suc s) n (t ∷ ts) i e f =
    at_number sorts (k + 1) s n ts i e (omega arith)

at_none : (sorts : List Sort) (k s : ℕ) (is : List Text)
    → slice_get is s ≡ None
    → unwrap_or (slice_get (interfaces_from sorts k is) s) no_interface ≡ no_interface
at_none sorts k s [] e = refl
at_none sorts k zero (t ∷ ts) e = cc
at_none sorts k (suc s) (t ∷ ts) e = at_none sorts (k + 1) s ts e

-- the model's interface of a number is that of the table's
pub interface_there : (table : Table) (s : ℕ) (i : Text)
    → slice_get table.interfaces s ≡ Some i
    → interface (wiring_of table) s ≡ interface_of (sorts_of table.interfaces) s i
interface_there table s i e =
    at_number (sorts_of table.interfaces) 0 s s table.interfaces i e (omega arith)

pub interface_not : (table : Table) (s : ℕ)
    → slice_get table.interfaces s ≡ None
    → interface (wiring_of table) s ≡ no_interface
interface_not table s e = at_none (sorts_of table.interfaces) 0 s table.interfaces e
