-- Believe. Ascending lists, of which maps are made. This profile's own choice of a model for Rust's
-- `BTreeMap`.
use Rattle.std.specs.Prelude.{◌≡◌, ℕ, ◌+◌, ◌≤◌, Bool, true, false, ◌&&◌, T, List, [], ◌∷◌, Option}
use Rattle.std.specs.Prelude.{Some, None, nat_lt, nat_le, ◌==◌, if◌then◌else◌, refl}
use Rattle.std.proofs.Common.{sym, subst, arith}
use Rattle.std.proofs.lemmas.Bool.{eqb-true, eqb-false, ltb-true, ltb-false, leb-true, le-leb}

-- the keys rise, from this one on
abbrev pub is_rising : {X : Type 0} → ℕ → List (ℕ × X) → Bool
is_rising low [] = true
is_rising low (e ∷ es) = nat_le low e.0 && is_rising (e.0 + 1) es

-- the value at a key
abbrev pub find_key : {X : Type 0} → ℕ → List (ℕ × X) → Option X
find_key k [] = None
find_key k (e ∷ es) = if k == e.0 then Some e.1 else find_key k es

-- the list with this value at the key, in its place
abbrev pub put_key : {X : Type 0} → ℕ → X → List (ℕ × X) → List (ℕ × X)
put_key k v [] = (k, v) ∷ []
put_key k v (e ∷ es) =
    if nat_lt k e.0 then (k, v) ∷ e ∷ es else if k == e.0 then (k, v) ∷ es else e ∷ put_key k v es

-- an entry for the key, if there is a value
abbrev pub cons_some : {X : Type 0} → ℕ → Option X → List (ℕ × X) → List (ℕ × X)
cons_some k None es = es
cons_some k (Some v) es = (k, v) ∷ es

-- each value changed, or its entry dropped
abbrev pub alter_list : {X Y : Type 0} → (ℕ → X → Option Y) → List (ℕ × X) → List (ℕ × Y)
alter_list g [] = []
alter_list g (e ∷ es) = cons_some e.0 (g e.0 e.1) (alter_list g es)

-- the keys still rise after a change

-- both tests hold
pub both_hold : (a b : Bool) → T a → T b → T (a && b)
both_hold true b p q = q
both_hold false b p q = p

-- the first of both tests holds
pub left_holds : (a b : Bool) → T (a && b) → T a
left_holds true b p = tt
left_holds false b p = p

-- and so does the second
pub right_holds : (a b : Bool) → T (a && b) → T b
right_holds true b p = p
right_holds false b p = absurd p

-- what holds is true
is_so : (b : Bool) → T b → b ≡ true
is_so true p = refl
is_so false p = absurd p

-- what the test says
pub at_least : (a b : ℕ) → T (nat_le a b) → a ≤ b
at_least a b h = leb-true a b (is_so _ h)

-- and the other way round
pub is_at_least : (a b : ℕ) → a ≤ b → T (nat_le a b)
is_at_least a b h = subst T (sym (le-leb a b h)) tt

-- keys that rise from a number rise from each lesser one
pub rising_from : {X : Type 0} (low high : ℕ) (es : List (ℕ × X)) → low ≤ high
    → T (is_rising high es) → T (is_rising low es)
rising_from low high [] h r = tt
rising_from low high (e ∷ es) h r =
    let k : high ≤ e.0 = at_least high e.0 (left_holds _ _ r) in both_hold _ _
    (is_at_least low e.0 (omega arith)) (right_holds _ _ r)

-- after a new value
pub rising-put_from : {X : Type 0} (low k : ℕ) (v : X) (es : List (ℕ × X)) → low ≤ k
    → T (is_rising low es) → T (is_rising low (put_key k v es))
rising-put_from low k v [] h r = both_hold _ _ (is_at_least low k h) tt
rising-put_from {X} low k v (e ∷ es) h r =
    elim (nat_lt k e.0) as (λ b. nat_lt k e.0 ≡ b → T (is_rising low
    (if b then (k, v) ∷ e ∷ es else if k == e.0 then (k, v) ∷ es else e ∷ put_key k v es))) [
      | true ↦ λ l. let m : k + 1 ≤ e.0 = omega (arith, ltb-true k e.0 l) in both_hold _ _
          (is_at_least low k h) (both_hold _ _ (is_at_least (k + 1) e.0 m) (right_holds _ _ r))
      | false ↦ λ l. elim (k == e.0) as (λ b. (k == e.0) ≡ b
          → T (is_rising low (if b then (k, v) ∷ es else e ∷ put_key k v es))) [
            | true ↦ λ t. both_hold _ _ (is_at_least low k h)
                (rw (eqb-true k e.0 t) (right_holds _ _ r))
            | false ↦ λ t. let m : e.0 + 1 ≤ k = omega
                (arith, ltb-false k e.0 l, eqb-false k e.0 t) in both_hold _ _ (left_holds _ _ r)
                (rising-put_from (e.0 + 1) k v es m (right_holds _ _ r))
          ] refl
    ] refl

-- after all values are changed
pub rising-alter_from : {X Y : Type 0} (g : ℕ → X → Option Y) (low : ℕ) (es : List (ℕ × X))
    → T (is_rising low es) → T (is_rising low (alter_list g es))
rising-alter_from g low [] r = tt
rising-alter_from g low (e ∷ es) r =
    let k : low ≤ e.0 + 1 = omega (arith, at_least low e.0 (left_holds _ _ r)) in
    let rest = rising-alter_from g (e.0 + 1) es (right_holds _ _ r) in
    elim (g e.0 e.1) as (λ o. T (is_rising low (cons_some e.0 o (alter_list g es)))) [
      | None ↦ rising_from low (e.0 + 1) _ k rest
      | Some y ↦ both_hold _ _ (left_holds _ _ r) rest
    ]

-- a changed list still rises
pub rising-put : {X : Type 0} (k : ℕ) (v : X) (es : List (ℕ × X)) → T (is_rising 0 es)
    → T (is_rising 0 (put_key k v es))
rising-put k v es r = rising-put_from 0 k v es (omega arith) r

-- the same from 0
pub rising-alter : {X Y : Type 0} (g : ℕ → X → Option Y) (es : List (ℕ × X)) → T (is_rising 0 es)
    → T (is_rising 0 (alter_list g es))
rising-alter g es r = rising-alter_from g 0 es r
