-- What is spelled has a value in range, or none.
use Rattle.std.proofs.Common.{◌≡◌, ℕ, ◌+◌, ◌-◌, ◌*◌, ◌/◌, ◌≤◌, Bool, true, false, List, Option}
use Rattle.std.proofs.Common.{Some}
use Rattle.std.proofs.Common.{None, refl, ap, ◌∙◌, arith, ◌==◌, if◌then◌else◌}
use Rattle.std.specs.Prelude.{nat_le, nat_lt}
use Rattle.std.proofs.Math.Nat.{div-le_self}
use Rattle.std.proofs.lemmas.Bool.{leb-true, le-leb}
use Rattle.mrc_base.specs.Limits.{limit_of_number}
use Rattle.mrc_mig_symbols.specs.ExpressionGrammar.{Level}
use Rattle.mrc_mig_tokens.specs.declared.symbol.Symbol.{Symbol}
use Rattle.mrc_mig_tokens.specs.Sums.{part, multiplied, divided, added, subtracted}
use Rattle.mrc_mig_tokens.specs.SumGrammar.{Spells, product_alone, plus, minus, operand_alone}
use Rattle.mrc_mig_tokens.specs.SumGrammar.{times, divided_by, whole_number, parenthesized}

-- no number is above the greatest
abbrev pub InRange : Option ℕ → Type 0
InRange None = Unit {0}
InRange (Some n) = n ≤ limit_of_number

part_by : (n : ℕ) (b : Bool) → nat_le n limit_of_number ≡ b → InRange (if b then Some n else None)
part_by n true e = leb-true n limit_of_number e
part_by n false e = tt

part_range : (n : ℕ) → InRange (part n)
part_range n = part_by n (nat_le n limit_of_number) refl

part_is : (n m : ℕ) → n ≡ m → m ≤ limit_of_number → part n ≡ Some m
part_is n m e le = ap (λ k. part k) e
    ∙ ap (λ b. if b then Some m else None) (le-leb m limit_of_number le)

pub added_zero : (n : Option ℕ) → InRange n → added (Some 0) n ≡ n
added_zero None range = refl
added_zero (Some n) range = part_is (0 + n) n (omega arith) range

pub multiplied_one : (n : Option ℕ) → InRange n → multiplied (Some 1) n ≡ n
multiplied_one None range = refl
multiplied_one (Some n) range = part_is (1 * n) n (omega arith) range

added_range : (m n : Option ℕ) → InRange (added m n)
added_range None n = tt
added_range (Some m) None = tt
added_range (Some m) (Some n) = part_range (m + n)

multiplied_range : (m n : Option ℕ) → InRange (multiplied m n)
multiplied_range None n = tt
multiplied_range (Some m) None = tt
multiplied_range (Some m) (Some n) = part_range (m * n)

below : {a b : ℕ} → b ≤ limit_of_number → a ≤ b → a ≤ limit_of_number
below x y = omega arith

subtracted_range : (m n : Option ℕ) → InRange m → InRange (subtracted m n)
subtracted_range None n range = tt
subtracted_range (Some m) None range = tt
subtracted_range (Some m) (Some n) range = by (nat_lt m n)
  where
    by : (b : Bool) → InRange (if b then None else Some (m - n))
    by true = tt
    by false = below range (omega arith)

divided_range : (m n : Option ℕ) → InRange m → InRange (divided m n)
divided_range None n range = tt
divided_range (Some m) None range = tt
divided_range (Some m) (Some n) range = by (n == 0)
  where
    by : (b : Bool) → InRange (if b then None else Some (m / n))
    by true = tt
    by false = below range (div-le_self m n)

pub in_range : {level : Level} {symbols : List Symbol} {n : Option ℕ} → Spells level symbols n
    → InRange n
in_range (product_alone d) = in_range d
in_range (plus {m = m} {n} d e) = added_range m n
in_range (minus {m = m} {n} d e) = subtracted_range m n (in_range d)
in_range (operand_alone d) = in_range d
in_range (times {m = m} {n} d e) = multiplied_range m n
in_range (divided_by {m = m} {n} d e) = divided_range m n (in_range d)
in_range (whole_number n) = part_range n
in_range (parenthesized d) = in_range d
