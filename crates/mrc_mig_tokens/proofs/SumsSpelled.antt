-- What is read is spelled: each state that a run leads to stands for what the symbols read so far
-- spell.
use Rattle.std.proofs.Common.{◌≡◌, ℕ, Bool, true, false, List, [], ◌∷◌, ◌++◌, Option, Some}
use Rattle.std.proofs.Common.{sym, ap, ◌∙◌, subst, append_assoc}
use Rattle.std.proofs.lemmas.List.{append-nil}
use Rattle.std.proofs.lemmas.Option.{same_Some, option_and_then_some}
use Rattle.mrc_mig_lex.specs.declared.token.Sign.TheVariants.{OpenParenthesis, CloseParenthesis}
use Rattle.mrc_mig_lex.specs.declared.token.Sign.TheVariants.{Star, Plus, Minus, Slash}
use Rattle.mrc_mig_symbols.specs.ExpressionGrammar.{Sum, Product, Operand}
use Rattle.mrc_mig_tokens.specs.declared.symbol.Symbol.{Symbol}
use Rattle.mrc_mig_tokens.specs.declared.symbol.Symbol.TheVariants.{Number, Sign}
use Rattle.mrc_mig_tokens.specs.Sums.{Partial, Reading, part, nothing_read, next_factor}
use Rattle.mrc_mig_tokens.specs.Sums.{next_summand, with_operand, value_of, next_product}
use Rattle.mrc_mig_tokens.specs.Sums.{operand_step, closed_by, operator_step, step}
use Rattle.mrc_mig_tokens.specs.SumGrammar.{Spells, product_alone, plus, minus, operand_alone}
use Rattle.mrc_mig_tokens.specs.SumGrammar.{times, divided_by, whole_number, parenthesized}
use Rattle.mrc_mig_tokens.proofs.SumRanges.{in_range, added_zero, multiplied_one}
use Rattle.mrc_mig_tokens.proofs.SumRuns.{run, wanting, behind, Whole}

-- before a product: nothing, or a sum and its operator
data Opened : List Symbol → Option ℕ → Bool → Type 0 where
  begins : Opened [] (Some 0) false
  adds : {s : List Symbol} {n : Option ℕ} → Spells Sum s n → Opened (s ++ Sign Plus ∷ []) n false
  takes : {s : List Symbol} {n : Option ℕ} → Spells Sum s n → Opened (s ++ Sign Minus ∷ []) n true

-- before an operand: nothing, or a product and its operator
data Factored : List Symbol → Option ℕ → Bool → Type 0 where
  first : Factored [] (Some 1) false
  multiplies : {p : List Symbol} {n : Option ℕ} → Spells Product p n
      → Factored (p ++ Sign Star ∷ []) n false
  divides : {p : List Symbol} {n : Option ℕ} → Spells Product p n
      → Factored (p ++ Sign Slash ∷ []) n true

-- before the innermost open parenthesis, and with it
data Enclosed : List Symbol → List Partial → Type 0 where
  outside : Enclosed [] []
  inside : (before a b : List Symbol) (outer : List Partial) (sum : Partial) → Enclosed before outer
      → Opened a sum.total sum.subtracts → Factored b sum.product sum.divides
      → Enclosed (before ++ (a ++ (b ++ Sign OpenParenthesis ∷ []))) (sum ∷ outer)

-- these symbols are read in this state
data Stands : List Symbol → Reading → Type 0 where
  wants : (before a b : List Symbol) (outer : List Partial) (sum : Partial) → Enclosed before outer
      → Opened a sum.total sum.subtracts → Factored b sum.product sum.divides
      → Stands (before ++ (a ++ b)) (wanting outer sum)
  has : (before a b : List Symbol) (outer : List Partial) (sum : Partial) → Enclosed before outer
      → Opened a sum.total sum.subtracts → Spells Product b sum.product
      → Stands (before ++ (a ++ b)) (behind outer sum)

sum_of : (a b : List Symbol) (m n : Option ℕ) (subtracts : Bool) → Opened a m subtracts
    → Spells Product b n → Spells Sum (a ++ b) (next_summand subtracts m n)
sum_of _ b _ n _ begins d =
    subst (λ v. Spells Sum b v) (sym (added_zero n (in_range d))) (product_alone d)
sum_of _ b m n _ (adds {s} c) d =
    subst (λ l. Spells Sum l (next_summand false m n)) (sym (append_assoc s (Sign Plus ∷ []) b))
    (plus c d)
sum_of _ b m n _ (takes {s} c) d =
    subst (λ l. Spells Sum l (next_summand true m n)) (sym (append_assoc s (Sign Minus ∷ []) b))
    (minus c d)

product_of : (a b : List Symbol) (m n : Option ℕ) (divides : Bool) → Factored a m divides
    → Spells Operand b n → Spells Product (a ++ b) (next_factor divides m n)
product_of _ b _ n _ first d =
    subst (λ v. Spells Product b v) (sym (multiplied_one n (in_range d))) (operand_alone d)
product_of _ b m n _ (multiplies {p} c) d =
    subst (λ l. Spells Product l (next_factor false m n)) (sym (append_assoc p (Sign Star ∷ []) b))
    (times c d)
product_of _ b m n _ (divides {p} c) d =
    subst (λ l. Spells Product l (next_factor true m n)) (sym (append_assoc p (Sign Slash ∷ []) b))
    (divided_by c d)

regroup : (before a b c : List Symbol) → (before ++ (a ++ b)) ++ c ≡ before ++ (a ++ (b ++ c))
regroup before a b c = append_assoc before (a ++ b) c ∙ ap (λ l. before ++ l) (append_assoc a b c)

-- behind one more operand
after_operand : (before a b c : List Symbol) (outer : List Partial) (sum : Partial) (n : Option ℕ)
    → Enclosed before outer → Opened a sum.total sum.subtracts
    → Factored b sum.product sum.divides → Spells Operand c n
    → Stands (before ++ (a ++ (b ++ c))) (behind outer (with_operand n sum))
after_operand before a b c outer sum n around opened factored d =
    has before a (b ++ c) outer (with_operand n sum) around opened
    (product_of b c sum.product n sum.divides factored d)

operand_kept : (s : Symbol) (before a b : List Symbol) (outer : List Partial) (sum : Partial)
    (v : Reading) → Enclosed before outer → Opened a sum.total sum.subtracts
    → Factored b sum.product sum.divides
    → operand_step s (wanting outer sum) ≡ Some v → Stands ((before ++ (a ++ b)) ++ s ∷ []) v
operand_kept (Number n) before a b outer sum v around opened factored e =
    subst (λ w. Stands ((before ++ (a ++ b)) ++ Number n ∷ []) w)
    (same_Some (behind outer (with_operand (part n) sum)) v e)
    (subst (λ l. Stands l (behind outer (with_operand (part n) sum)))
    (sym (regroup before a b (Number n ∷ [])))
    (after_operand before a b (Number n ∷ []) outer sum (part n) around opened factored
    (whole_number n)))
operand_kept (Sign OpenParenthesis) before a b outer sum v around opened factored e =
    let opening : List Symbol = Sign OpenParenthesis ∷ [] in
    subst (λ w. Stands ((before ++ (a ++ b)) ++ opening) w)
    (same_Some (wanting (sum ∷ outer) nothing_read) v e)
    (subst (λ l. Stands l (wanting (sum ∷ outer) nothing_read))
    (append-nil (before ++ (a ++ (b ++ opening))) ∙ sym (regroup before a b opening))
    (wants (before ++ (a ++ (b ++ opening))) [] [] (sum ∷ outer) nothing_read
    (inside before a b outer sum around opened factored) begins first))
operand_kept _ before a b outer sum v around opened factored e = absurd cc

-- behind the sum, before its next product
after_sum : (s : Symbol) (subtracts : Bool)
    → ((l : List Symbol) (n : Option ℕ) → Spells Sum l n → Opened (l ++ s ∷ []) n subtracts)
    → (before a b : List Symbol) (outer : List Partial) (sum : Partial)
    → Enclosed before outer → Opened a sum.total sum.subtracts → Spells Product b sum.product
    → Stands ((before ++ (a ++ b)) ++ s ∷ []) (wanting outer (next_product subtracts sum))
after_sum s subtracts led before a b outer sum around opened d =
    let next : Partial = next_product subtracts sum in
    subst (λ l. Stands l (wanting outer next))
    (ap (λ l. before ++ l) (append-nil ((a ++ b) ++ s ∷ []))
    ∙ sym (append_assoc before (a ++ b) (s ∷ [])))
    (wants before ((a ++ b) ++ s ∷ []) [] outer next around
    (led (a ++ b) (value_of sum) (sum_of a b sum.total sum.product sum.subtracts opened d)) first)

regroup_closed : (before a b c : List Symbol)
    → ((before ++ (a ++ (b ++ Sign OpenParenthesis ∷ []))) ++ c)
    ++ Sign CloseParenthesis ∷ [] ≡ before
    ++ (a ++ (b ++ Sign OpenParenthesis ∷ (c ++ Sign CloseParenthesis ∷ [])))
regroup_closed before a b c =
    append_assoc (before ++ (a ++ (b ++ Sign OpenParenthesis ∷ []))) c (Sign CloseParenthesis ∷ [])
    ∙ regroup before a (b ++ Sign OpenParenthesis ∷ []) (c ++ Sign CloseParenthesis ∷ [])
    ∙ ap (λ l. before ++ (a ++ l))
    (append_assoc b (Sign OpenParenthesis ∷ []) (c ++ Sign CloseParenthesis ∷ []))

closed_kept : (before a b : List Symbol) (outer : List Partial) (sum : Partial) (v : Reading)
    → Enclosed before outer → Opened a sum.total sum.subtracts → Spells Product b sum.product
    → closed_by outer sum ≡ Some v → Stands ((before ++ (a ++ b)) ++ Sign CloseParenthesis ∷ []) v
closed_kept _ a b _ sum v outside opened d e = absurd cc
closed_kept _ a b _ sum v (inside before a' b' outer around enclosed opened' factored) opened d e =
    subst (λ w. Stands
    (((before ++ (a' ++ (b' ++ Sign OpenParenthesis ∷ []))) ++ (a ++ b))
    ++ Sign CloseParenthesis ∷ []) w)
    (same_Some (behind outer (with_operand (value_of sum) around)) v e)
    (subst (λ l. Stands l (behind outer (with_operand (value_of sum) around)))
    (sym (regroup_closed before a' b' (a ++ b)))
    (after_operand before a' b' (Sign OpenParenthesis ∷ ((a ++ b) ++ Sign CloseParenthesis ∷ []))
    outer around (value_of sum) enclosed opened' factored
    (parenthesized (sum_of a b sum.total sum.product sum.subtracts opened d))))

operator_kept : (s : Symbol) (before a b : List Symbol) (outer : List Partial) (sum : Partial)
    (v : Reading) → Enclosed before outer → Opened a sum.total sum.subtracts
    → Spells Product b sum.product
    → operator_step s (behind outer sum) ≡ Some v → Stands ((before ++ (a ++ b)) ++ s ∷ []) v
operator_kept (Sign Star) before a b outer sum v around opened d e =
    subst (λ w. Stands ((before ++ (a ++ b)) ++ Sign Star ∷ []) w)
    (same_Some (wanting outer (record sum { divides = false })) v e)
    (subst (λ l. Stands l (wanting outer (record sum { divides = false })))
    (sym (regroup before a b (Sign Star ∷ [])))
    (wants before a (b ++ Sign Star ∷ []) outer (record sum { divides = false }) around opened
    (multiplies d)))
operator_kept (Sign Slash) before a b outer sum v around opened d e =
    subst (λ w. Stands ((before ++ (a ++ b)) ++ Sign Slash ∷ []) w)
    (same_Some (wanting outer (record sum { divides = true })) v e)
    (subst (λ l. Stands l (wanting outer (record sum { divides = true })))
    (sym (regroup before a b (Sign Slash ∷ [])))
    (wants before a (b ++ Sign Slash ∷ []) outer (record sum { divides = true }) around opened
    (divides d)))
operator_kept (Sign Plus) before a b outer sum v around opened d e =
    subst (λ w. Stands ((before ++ (a ++ b)) ++ Sign Plus ∷ []) w)
    (same_Some (wanting outer (next_product false sum)) v e)
    (after_sum (Sign Plus) false (λ l n c. adds c) before a b outer sum around opened d)
operator_kept (Sign Minus) before a b outer sum v around opened d e =
    subst (λ w. Stands ((before ++ (a ++ b)) ++ Sign Minus ∷ []) w)
    (same_Some (wanting outer (next_product true sum)) v e)
    (after_sum (Sign Minus) true (λ l n c. takes c) before a b outer sum around opened d)
operator_kept (Sign CloseParenthesis) before a b outer sum v around opened d e =
    closed_kept before a b outer sum v around opened d e
operator_kept _ before a b outer sum v around opened d e = absurd cc

-- one symbol more
kept : (s : Symbol) {read : List Symbol} {u : Reading} (v : Reading) → Stands read u
    → step s u ≡ Some v → Stands (read ++ s ∷ []) v
unfolding step
kept s v (wants before a b outer sum around opened factored) e =
    operand_kept s before a b outer sum v around opened factored e
kept s v (has before a b outer sum around opened d) e =
    operator_kept s before a b outer sum v around opened d e

-- some symbols more
kept_over : (symbols read : List Symbol) (u v : Reading) → Stands read u → run u symbols ≡ Some v
    → Stands (read ++ symbols) v
kept_over [] read u v standing e = subst (λ w. Stands (read ++ []) w) (same_Some u v e)
    (subst (λ l. Stands l u) (sym (append-nil read)) standing)
kept_over (s ∷ symbols) read u v standing e =
    option_and_then_some (λ w. run w symbols) (step s u) v e (λ w stepped ran.
    subst (λ l. Stands l v) (append_assoc read (s ∷ []) symbols)
    (kept_over symbols (read ++ s ∷ []) w v (kept s w standing stepped) ran))

spelled_at_end : {read : List Symbol} {u : Reading} (n : Option ℕ) → Stands read u
    → Whole u n → Spells Sum read n
spelled_at_end n (wants before a b outer sum around opened factored) w =
    let e = w.wants in absurd cc
spelled_at_end n (has _ a b _ sum outside opened d) w =
    subst (λ v. Spells Sum (a ++ b) v) w.value
    (sum_of a b sum.total sum.product sum.subtracts opened d)
spelled_at_end n
    (has _ a b _ sum (inside before a' b' outer around enclosed opened' factored) opened d) w =
    let e = w.alone in absurd cc

-- the symbols of a run from the beginning to the end of an expression spell its value
pub spelled : (symbols : List Symbol) (v : Reading) (n : Option ℕ)
    → run (wanting [] nothing_read) symbols ≡ Some v → Whole v n → Spells Sum symbols n
spelled symbols v n ran whole =
    spelled_at_end n
    (kept_over symbols [] (wanting [] nothing_read) v
    (wants [] [] [] [] nothing_read outside begins first) ran) whole
