-- What is spelled is read: over an operand's, a product's and a sum's symbols a run leads behind
-- it.
use Rattle.std.proofs.Common.{◌≡◌, ℕ, Bool, true, false, List, [], ◌∷◌, ◌++◌, Option, Some, refl}
use Rattle.std.proofs.Common.{ap}
use Rattle.std.proofs.Common.{◌∙◌}
use Rattle.mrc_mig_lex.specs.declared.token.Sign.TheVariants.{OpenParenthesis, CloseParenthesis}
use Rattle.mrc_mig_lex.specs.declared.token.Sign.TheVariants.{Star, Plus, Minus, Slash}
use Rattle.mrc_mig_symbols.specs.ExpressionGrammar.{Level, Sum, Product, Operand}
use Rattle.mrc_mig_tokens.specs.declared.symbol.Symbol.{Symbol}
use Rattle.mrc_mig_tokens.specs.declared.symbol.Symbol.TheVariants.{Number, Sign}
use Rattle.mrc_mig_tokens.specs.Sums.{Partial, part, multiplied, divided, added, subtracted}
use Rattle.mrc_mig_tokens.specs.Sums.{nothing_read, with_operand, value_of, step}
use Rattle.mrc_mig_tokens.specs.SumGrammar.{Spells, product_alone, plus, minus, operand_alone}
use Rattle.mrc_mig_tokens.specs.SumGrammar.{times, divided_by, whole_number, parenthesized}
use Rattle.mrc_mig_tokens.proofs.SumRanges.{InRange, in_range, added_zero, multiplied_one}
use Rattle.mrc_mig_tokens.proofs.SumRuns.{run, run_then, wanting, behind}

-- a sum whose product and its operator are read so far
abbrev pub partial : Option ℕ → Bool → Option ℕ → Bool → Partial
partial total subtracts product divides = record {
  total = total;
  subtracts = subtracts;
  product = product;
  divides = divides;
}

-- over these symbols a run leads behind what they spell
abbrev pub Reads : Level → List Symbol → Option ℕ → Type 0
Reads Operand symbols n = (outer : List Partial) (sum : Partial)
    → run (wanting outer sum) symbols ≡ Some (behind outer (with_operand n sum))
Reads Product symbols n = (outer : List Partial) (total : Option ℕ) (subtracts : Bool)
    → (divides : Bool)
    × (run (wanting outer (partial total subtracts (Some 1) false)) symbols
    ≡ Some (behind outer (partial total subtracts n divides)))
Reads Sum symbols n = (outer : List Partial) → (sum : Partial) × (value_of sum ≡ n)
    × (run (wanting outer nothing_read) symbols ≡ Some (behind outer sum))

reads_product : (p : List Symbol) (n : Option ℕ) → InRange n → Reads Product p n → Reads Sum p n
reads_product p n range d outer =
    let (divides, ran) = d outer (Some 0) false in
    (partial (Some 0) false n divides, added_zero n range, ran)

reads_plus : (s p : List Symbol) (m n : Option ℕ) → Reads Sum s m → Reads Product p n
    → Reads Sum (s ++ Sign Plus ∷ p) (added m n)
unfolding step
reads_plus s p m n d e outer =
    let (sum, valued, ran) = d outer in
    let (divides, more) = e outer m false in (
      partial m false n divides,
      refl,
      run_then s (Sign Plus ∷ p) (wanting outer nothing_read) (behind outer sum)
          (behind outer (partial m false n divides)) ran
          (ap (λ v. run (wanting outer (partial v false (Some 1) false)) p) valued ∙ more),
    )

reads_minus : (s p : List Symbol) (m n : Option ℕ) → Reads Sum s m → Reads Product p n
    → Reads Sum (s ++ Sign Minus ∷ p) (subtracted m n)
unfolding step
reads_minus s p m n d e outer =
    let (sum, valued, ran) = d outer in
    let (divides, more) = e outer m true in (
      partial m true n divides,
      refl,
      run_then s (Sign Minus ∷ p) (wanting outer nothing_read) (behind outer sum)
          (behind outer (partial m true n divides)) ran
          (ap (λ v. run (wanting outer (partial v true (Some 1) false)) p) valued ∙ more),
    )

reads_operand : (o : List Symbol) (n : Option ℕ) → InRange n → Reads Operand o n
    → Reads Product o n
reads_operand o n range d outer total subtracts = (
  false,
  d outer (partial total subtracts (Some 1) false)
      ∙ ap (λ v. Some (behind outer (partial total subtracts v false))) (multiplied_one n range),
)

reads_times : (p o : List Symbol) (m n : Option ℕ) → Reads Product p m → Reads Operand o n
    → Reads Product (p ++ Sign Star ∷ o) (multiplied m n)
unfolding step
reads_times p o m n d e outer total subtracts =
    let (divides, ran) = d outer total subtracts in (
      false,
      run_then p (Sign Star ∷ o) (wanting outer (partial total subtracts (Some 1) false))
          (behind outer (partial total subtracts m divides))
          (behind outer (partial total subtracts (multiplied m n) false)) ran
          (e outer (partial total subtracts m false)),
    )

reads_divided : (p o : List Symbol) (m n : Option ℕ) → Reads Product p m → Reads Operand o n
    → Reads Product (p ++ Sign Slash ∷ o) (divided m n)
unfolding step
reads_divided p o m n d e outer total subtracts =
    let (divides, ran) = d outer total subtracts in (
      true,
      run_then p (Sign Slash ∷ o) (wanting outer (partial total subtracts (Some 1) false))
          (behind outer (partial total subtracts m divides))
          (behind outer (partial total subtracts (divided m n) true)) ran
          (e outer (partial total subtracts m true)),
    )

reads_number : (n : ℕ) → Reads Operand (Number n ∷ []) (part n)
unfolding step
reads_number n outer sum = refl

reads_parenthesized : (s : List Symbol) (n : Option ℕ) → Reads Sum s n
    → Reads Operand (Sign OpenParenthesis ∷ (s ++ Sign CloseParenthesis ∷ [])) n
unfolding step
reads_parenthesized s n d outer sum =
    let (inner, valued, ran) = d (sum ∷ outer) in
    run_then s (Sign CloseParenthesis ∷ []) (wanting (sum ∷ outer) nothing_read)
    (behind (sum ∷ outer) inner) (behind outer (with_operand n sum)) ran
    (ap (λ v. Some (behind outer (with_operand v sum))) valued)

pub reads : {level : Level} {symbols : List Symbol} {n : Option ℕ} → Spells level symbols n
    → Reads level symbols n
reads (product_alone {p} {n} d) = reads_product p n (in_range d) (reads d)
reads (plus {s} {p} {m} {n} d e) = reads_plus s p m n (reads d) (reads e)
reads (minus {s} {p} {m} {n} d e) = reads_minus s p m n (reads d) (reads e)
reads (operand_alone {o} {n} d) = reads_operand o n (in_range d) (reads d)
reads (times {p} {o} {m} {n} d e) = reads_times p o m n (reads d) (reads e)
reads (divided_by {p} {o} {m} {n} d e) = reads_divided p o m n (reads d) (reads e)
reads (whole_number n) = reads_number n
reads (parenthesized {s} {n} d) = reads_parenthesized s n (reads d)
