-- Step. The sums around an open parenthesis. This profile's own choice.
use Rattle.std.specs.Prelude.{ℕ, zero, suc, ◌-◌, List, [], ◌∷◌, ◌++◌}
use Rattle.mrc_mig_symbols.specs.declared.expressions.Sum.{Sum}
use Rattle.mrc_mig_symbols.specs.declared.outer.Run.{Run}
use Rattle.mrc_mig_symbols.specs.ExpressionStops.{Placed, nothing_placed}

-- a sum
abbrev pub placed_of : Sum → Placed
placed_of sum = record {
  sum = record {
    total = sum.total;
    subtracts = sum.subtracts;
    product = sum.product;
    divides = sum.divides;
  };
  operand = sum.operand_left;
  from = sum.left;
  product = sum.product_left;
}

-- Behind so many parentheses at the front of a sum that begins here, the sum that the next one
-- opens, of which nothing is read. A place is how many tokens are left there.
abbrev pub inner : ℕ → ℕ → Placed
inner from more = nothing_placed (from - more) (from - more - 1)

-- a sum and so many that open at its front, the innermost first
abbrev pub opened : Placed → ℕ → List Placed
opened p zero = p ∷ []
opened p (suc more) = inner p.from more ∷ opened p more

-- the sums of all runs, the innermost first
abbrev pub unrolled : List Run → List Placed
unrolled [] = []
unrolled (run ∷ runs) = unrolled runs ++ opened (placed_of run.sum) run.more
