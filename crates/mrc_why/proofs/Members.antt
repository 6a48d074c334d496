-- Elements of lists by their places.
use Rattle.std.proofs.Common.{◌≡◌, ℕ, suc, ◌<◌, List, [], ◌∷◌, length, get_or, Some}
use Rattle.std.proofs.Common.{refl}
use Rattle.std.specs.Prelude.{slice_get}
use Rattle.std.proofs.lemmas.Option.{slice_get_read, slice_get-get_or}
use Rattle.mrc_model.specs.IsIn.{IsIn, here, later}
use Rattle.mrc_model.proofs.Members.{in_get}

-- and so is what is read there
pub in_read : {X : Type 0} (xs : List X) (i : ℕ) (x : X) → i < length xs → x ≡ get_or xs i x
    → IsIn x xs
in_read xs i x less is = in_get xs i x (slice_get_read xs (length xs) i x refl less is)

-- an element stands at a place
pub get_in : {X : Type 0} (xs : List X) (x : X) → IsIn x xs
    → (i : ℕ) × (slice_get xs i ≡ Some x)
get_in [] x at = elim at [ ]
get_in (y ∷ xs) x here = (0, refl)
get_in (y ∷ xs) x (later at) = let rest = get_in xs x at in (suc rest.0, rest.1)

-- what is read at a place is an element
pub in_at : {X : Type 0} (xs : List X) (i : ℕ) (d : X) → i < length xs → IsIn (get_or xs i d) xs
in_at xs i d less = in_get xs i (get_or xs i d) (slice_get-get_or xs i d less)
