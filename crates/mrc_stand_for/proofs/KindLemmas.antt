-- Lists of what each of the first numbers has.
use Rattle.std.proofs.Common.{◌≡◌, ◌+◌, ℕ, zero, suc, List, [], ◌∷◌, ◌++◌, ap, ◌∙◌, arith}
use Rattle.std.proofs.Common.{add-one}
use Rattle.std.specs.List.{flat_map, range_with_len}
use Rattle.std.proofs.lemmas.Grind.{flat_map-append}
use Rattle.std.proofs.lemmas.List.{append-nil}

range_next : (a n : ℕ) → range_with_len a (suc n) ≡ range_with_len a n ++ (a + n) ∷ []
range_next a zero = ap (λ m. m ∷ []) (let e : a ≡ a + 0 = omega arith in e)
range_next a (suc n) =
    ap (λ rest. a ∷ rest) (range_next (a + 1) n
    ∙ ap (λ m. range_with_len (a + 1) n ++ m ∷ [])
    (let e : a + 1 + n ≡ a + suc n = omega arith in e))

-- one number more
pub kinds_more : {X : Type 0} (f : ℕ → List X) (n : ℕ)
    → flat_map f (range_with_len 0 (n + 1)) ≡ flat_map f (range_with_len 0 n) ++ f n
kinds_more f n =
    ap (λ m. flat_map f (range_with_len 0 m)) (add-one n)
    ∙ ap (flat_map f) (range_next 0 n)
    ∙ flat_map-append f (range_with_len 0 n) ((0 + n) ∷ [])
    ∙ ap (λ m. flat_map f (range_with_len 0 n) ++ flat_map f (m ∷ []))
    (let e : 0 + n ≡ n = omega arith in e)
    ∙ ap (λ ys. flat_map f (range_with_len 0 n) ++ ys) (append-nil (f n))
