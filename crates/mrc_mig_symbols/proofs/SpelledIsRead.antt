-- What is spelled is read: over an operand's, a product's and a sum's symbols a run leads behind
-- it.
use Rattle.std.proofs.Common.{◌≡◌, ℕ, ◌+◌, ◌-◌, ◌*◌, ◌/◌, ◌<◌, ◌≤◌, Bool, true, false, List, []}
use Rattle.std.proofs.Common.{◌∷◌, ◌++◌, Some, None, refl, ap, ◌∙◌, arith, if◌then◌else◌}
use Rattle.std.proofs.Math.Nat.{div-le_self}
use Rattle.std.proofs.lemmas.Bool.{le-leb, le-ltb, ne_eqb}
use Rattle.mrc_base.specs.Limits.{limit_of_number}
use Rattle.mrc_mig_lex.specs.declared.token.Sign.TheVariants.{OpenParenthesis, CloseParenthesis}
use Rattle.mrc_mig_lex.specs.declared.token.Sign.TheVariants.{Star, Plus, Minus, Slash}
use Rattle.mrc_mig_symbols.specs.declared.symbol.Symbol.{Symbol}
use Rattle.mrc_mig_symbols.specs.declared.symbol.Symbol.TheVariants.{Number, Sign}
use Rattle.mrc_mig_symbols.specs.Symbols.{◌>>=◌}
use Rattle.mrc_mig_symbols.specs.Expressions.{Partial, part, nothing_read, next_factor}
use Rattle.mrc_mig_symbols.specs.Expressions.{next_summand, with_operand, value_of, next_product}
use Rattle.mrc_mig_symbols.specs.Expressions.{operand_read, operand_wanted, step}
use Rattle.mrc_mig_symbols.specs.ExpressionGrammar.{Level, Sum, Product, Operand, Spells}
use Rattle.mrc_mig_symbols.specs.ExpressionGrammar.{product_alone, plus, minus, operand_alone}
use Rattle.mrc_mig_symbols.specs.ExpressionGrammar.{times, divided, whole_number, parenthesized}
use Rattle.mrc_mig_symbols.proofs.ExpressionRuns.{run, run_then, wanting, behind}

-- a sum whose product and its operator are read so far
abbrev pub partial : ℕ → Bool → ℕ → Bool → Partial
partial total subtracts product divides = record {
  total = total;
  subtracts = subtracts;
  product = product;
  divides = divides;
}

part_within : (n m : ℕ) → n ≡ m → m ≤ limit_of_number → part n ≡ Some m
part_within n m e le = ap (λ k. part k) e
    ∙ ap (λ b. if b then Some m else None) (le-leb m limit_of_number le)

less_than_all : (m n : ℕ) → n ≤ m → next_summand true m n ≡ Some (m - n)
less_than_all m n le = ap (λ b. if b then None else Some (m - n)) (le-ltb m n le)

quotient : (m n : ℕ) → 0 < n → next_factor true m n ≡ Some (m / n)
quotient m n positive = ap (λ b. if b then None else Some (m / n))
    (ne_eqb n 0 (omega (arith, positive)))

-- over these symbols a run leads behind what they spell
abbrev pub Reads : Level → List Symbol → ℕ → Type 0
Reads Operand symbols n = (outer : List Partial) (sum after : Partial)
    → with_operand n sum ≡ Some after → run (wanting outer sum) symbols ≡ Some (behind outer after)
Reads Product symbols n = (n ≤ limit_of_number)
    × ((outer : List Partial) (total : ℕ) (subtracts : Bool)
    → (divides : Bool)
    × (run (wanting outer (partial total subtracts 1 false)) symbols
    ≡ Some (behind outer (partial total subtracts n divides))))
Reads Sum symbols n = (outer : List Partial) → (sum : Partial) × (value_of sum ≡ Some n)
    × (run (wanting outer nothing_read) symbols ≡ Some (behind outer sum))

reads_product : (p : List Symbol) (n : ℕ) → Reads Product p n → Reads Sum p n
unfolding value_of
reads_product p n d outer =
    let (divides, ran) = d.1 outer 0 false in
    (partial 0 false n divides, part_within (0 + n) n (omega arith) d.0, ran)

-- behind a sum another product begins
next_begins : (outer : List Partial) (sum : Partial) (subtracts : Bool) (m : ℕ)
    → value_of sum ≡ Some m
    → (next_product subtracts sum >>= λ s. operand_wanted outer s)
    ≡ Some (wanting outer (partial m subtracts 1 false))
unfolding next_product
next_begins outer sum subtracts m e =
    ap (λ o. (o >>= λ total. Some (partial total subtracts 1 false))
    >>= λ s. operand_wanted outer s) e

reads_plus : (s p : List Symbol) (m n : ℕ) → Reads Sum s m → Reads Product p n
    → m + n ≤ limit_of_number → Reads Sum (s ++ Sign Plus ∷ p) (m + n)
unfolding value_of step
reads_plus s p m n d e le outer =
    let (sum, valued, ran) = d outer in
    let (divides, more) = e.1 outer m false in (
      partial m false n divides,
      part_within (m + n) (m + n) refl le,
      run_then s (Sign Plus ∷ p) (wanting outer nothing_read) (behind outer sum)
          (behind outer (partial m false n divides)) ran
          (ap (λ o. o >>= λ v. run v p) (next_begins outer sum false m valued) ∙ more),
    )

reads_minus : (s p : List Symbol) (m n : ℕ) → Reads Sum s m → Reads Product p n → n ≤ m
    → Reads Sum (s ++ Sign Minus ∷ p) (m - n)
unfolding value_of step
reads_minus s p m n d e le outer =
    let (sum, valued, ran) = d outer in
    let (divides, more) = e.1 outer m true in (
      partial m true n divides,
      less_than_all m n le,
      run_then s (Sign Minus ∷ p) (wanting outer nothing_read) (behind outer sum)
          (behind outer (partial m true n divides)) ran
          (ap (λ o. o >>= λ v. run v p) (next_begins outer sum true m valued) ∙ more),
    )

-- a product with one more operand
with_next : (total : ℕ) (subtracts : Bool) (m : ℕ) (divides : Bool) (n k : ℕ)
    → next_factor divides m n ≡ Some k
    → with_operand n (partial total subtracts m divides) ≡ Some (partial total subtracts k divides)
unfolding with_operand
with_next total subtracts m divides n k e =
    ap (λ o. o >>= λ product. Some (partial total subtracts product divides)) e

reads_operand : (o : List Symbol) (n : ℕ) → Reads Operand o n → n ≤ limit_of_number
    → Reads Product o n
reads_operand o n d le = (
  le,
  λ outer total subtracts. (
    false,
    d outer (partial total subtracts 1 false) (partial total subtracts n false)
        (with_next total subtracts 1 false n n (part_within (1 * n) n (omega arith) le)),
  ),
)

reads_times : (p o : List Symbol) (m n : ℕ) → Reads Product p m → Reads Operand o n
    → m * n ≤ limit_of_number → Reads Product (p ++ Sign Star ∷ o) (m * n)
unfolding step
reads_times p o m n d e le = (
  le,
  λ outer total subtracts.
      let (divides, ran) = d.1 outer total subtracts in (
        false,
        run_then p (Sign Star ∷ o) (wanting outer (partial total subtracts 1 false))
            (behind outer (partial total subtracts m divides))
            (behind outer (partial total subtracts (m * n) false)) ran
            (e outer (partial total subtracts m false) (partial total subtracts (m * n) false)
            (with_next total subtracts m false n (m * n) (part_within (m * n) (m * n) refl le))),
      ),
)

reads_divided : (p o : List Symbol) (m n : ℕ) → Reads Product p m → Reads Operand o n → 0 < n
    → Reads Product (p ++ Sign Slash ∷ o) (m / n)
unfolding step
reads_divided p o m n d e positive = (
  within d.0 (div-le_self m n),
  λ outer total subtracts.
      let (divides, ran) = d.1 outer total subtracts in (
        true,
        run_then p (Sign Slash ∷ o) (wanting outer (partial total subtracts 1 false))
            (behind outer (partial total subtracts m divides))
            (behind outer (partial total subtracts (m / n) true)) ran
            (e outer (partial total subtracts m true) (partial total subtracts (m / n) true)
            (with_next total subtracts m true n (m / n) (quotient m n positive))),
      ),
)
  where
    within : {a b : ℕ} → b ≤ limit_of_number → a ≤ b → a ≤ limit_of_number
    within x y = omega arith

reads_number : (n : ℕ) → Reads Operand (Number n ∷ []) n
unfolding step
reads_number n outer sum after e = ap (λ o. (o >>= λ s. operand_read outer s) >>= λ v. run v []) e

reads_parenthesized : (s : List Symbol) (n : ℕ) → Reads Sum s n
    → Reads Operand (Sign OpenParenthesis ∷ (s ++ Sign CloseParenthesis ∷ [])) n
unfolding step
reads_parenthesized s n d outer sum after e =
    let (inner, valued, ran) = d (sum ∷ outer) in
    run_then s (Sign CloseParenthesis ∷ []) (wanting (sum ∷ outer) nothing_read)
    (behind (sum ∷ outer) inner) (behind outer after) ran
    (ap (λ o. (o >>= λ m. with_operand m sum >>= λ t. operand_read outer t) >>= λ v. run v [])
    valued
    ∙ ap (λ o. (o >>= λ t. operand_read outer t) >>= λ v. run v []) e)

pub reads : {level : Level} {symbols : List Symbol} {n : ℕ} → Spells level symbols n
    → Reads level symbols n
reads (product_alone {p} {n} d) = reads_product p n (reads d)
reads (plus {s} {p} {m} {n} d e le) = reads_plus s p m n (reads d) (reads e) le
reads (minus {s} {p} {m} {n} d e le) = reads_minus s p m n (reads d) (reads e) le
reads (operand_alone {o} {n} d le) = reads_operand o n (reads d) le
reads (times {p} {o} {m} {n} d e le) = reads_times p o m n (reads d) (reads e) le
reads (divided {p} {o} {m} {n} d e positive) = reads_divided p o m n (reads d) (reads e) positive
reads (whole_number n) = reads_number n
reads (parenthesized {s} {n} d) = reads_parenthesized s n (reads d)
