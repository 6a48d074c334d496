-- What is read is spelled: each state that a run leads to stands for what the symbols read so far
-- spell.
use Rattle.std.proofs.Common.{◌≡◌, ℕ, ◌+◌, ◌-◌, ◌*◌, ◌/◌, Bool, true, false, List, [], ◌∷◌, ◌++◌}
use Rattle.std.proofs.Common.{Some, None, refl, sym, ap, ◌∙◌, subst, arith, append_assoc, ◌==◌}
use Rattle.std.proofs.Common.{if◌then◌else◌}
use Rattle.std.specs.Prelude.{nat_le, nat_lt}
use Rattle.std.proofs.lemmas.List.{append-nil}
use Rattle.std.proofs.lemmas.Bool.{leb-true, ltb-false, eqb-false}
use Rattle.std.proofs.lemmas.Option.{same_Some, cond_some, option_and_then_some}
use Rattle.mrc_base.specs.Limits.{limit_of_number}
use Rattle.mrc_mig_lex.specs.declared.token.Sign.TheVariants.{OpenParenthesis, CloseParenthesis}
use Rattle.mrc_mig_lex.specs.declared.token.Sign.TheVariants.{Star, Plus, Minus, Slash}
use Rattle.mrc_mig_symbols.specs.declared.symbol.Symbol.{Symbol}
use Rattle.mrc_mig_symbols.specs.declared.symbol.Symbol.TheVariants.{Number, Sign}
use Rattle.mrc_mig_symbols.specs.Symbols.{◌>>=◌}
use Rattle.mrc_mig_symbols.specs.Expressions.{Partial, Unfinished, nothing_read, next_factor}
use Rattle.mrc_mig_symbols.specs.Expressions.{next_summand, with_operand, value_of, next_product}
use Rattle.mrc_mig_symbols.specs.Expressions.{operand_read, operand_wanted, operand_step, closed}
use Rattle.mrc_mig_symbols.specs.Expressions.{operator_step, step, whole_value}
use Rattle.mrc_mig_symbols.specs.ExpressionGrammar.{Sum, Product, Operand, Spells, product_alone}
use Rattle.mrc_mig_symbols.specs.ExpressionGrammar.{plus, minus, operand_alone, times, divided}
use Rattle.mrc_mig_symbols.specs.ExpressionGrammar.{whole_number, parenthesized}
use Rattle.mrc_mig_symbols.proofs.ExpressionRuns.{run, wanting, behind}

-- before a product: nothing, or a sum and its operator
data Opened : List Symbol → ℕ → Bool → Type 0 where
  begins : Opened [] 0 false
  adds : {s : List Symbol} {n : ℕ} → Spells Sum s n → Opened (s ++ Sign Plus ∷ []) n false
  takes : {s : List Symbol} {n : ℕ} → Spells Sum s n → Opened (s ++ Sign Minus ∷ []) n true

-- before an operand: nothing, or a product and its operator
data Factored : List Symbol → ℕ → Bool → Type 0 where
  first : Factored [] 1 false
  multiplies : {p : List Symbol} {n : ℕ} → Spells Product p n
      → Factored (p ++ Sign Star ∷ []) n false
  divides : {p : List Symbol} {n : ℕ} → Spells Product p n → Factored (p ++ Sign Slash ∷ []) n true

-- before the innermost open parenthesis, and with it
data Enclosed : List Symbol → List Partial → Type 0 where
  outside : Enclosed [] []
  inside : (before a b : List Symbol) (outer : List Partial) (sum : Partial) → Enclosed before outer
      → Opened a sum.total sum.subtracts → Factored b sum.product sum.divides
      → Enclosed (before ++ (a ++ (b ++ Sign OpenParenthesis ∷ []))) (sum ∷ outer)

-- these symbols are read in this state
data Stands : List Symbol → Unfinished → Type 0 where
  wants : (before a b : List Symbol) (outer : List Partial) (sum : Partial) → Enclosed before outer
      → Opened a sum.total sum.subtracts → Factored b sum.product sum.divides
      → Stands (before ++ (a ++ b)) (wanting outer sum)
  has : (before a b : List Symbol) (outer : List Partial) (sum : Partial) → Enclosed before outer
      → Opened a sum.total sum.subtracts → Spells Product b sum.product
      → Stands (before ++ (a ++ b)) (behind outer sum)

cond_none : {A : Type 0} (b : Bool) (x y : A) → (if b then None else Some x) ≡ Some y
    → (b ≡ false) × (x ≡ y)
cond_none true x y e = absurd cc
cond_none false x y e = (refl, same_Some x y e)

sum_of : (a b : List Symbol) (m n k : ℕ) (subtracts : Bool) → Opened a m subtracts
    → Spells Product b n → next_summand subtracts m n ≡ Some k → Spells Sum (a ++ b) k
sum_of _ b _ n k _ begins d e =
    let (small, same) = cond_some (nat_le (0 + n) limit_of_number) (0 + n) k e in
    let is : n ≡ k = omega (arith, same) in
    subst (λ v. Spells Sum b v) is (product_alone d)
sum_of _ b m n k _ (adds {s} c) d e =
    let (small, same) = cond_some (nat_le (m + n) limit_of_number) (m + n) k e in
    subst (λ v. Spells Sum ((s ++ Sign Plus ∷ []) ++ b) v) same
    (subst (λ l. Spells Sum l (m + n)) (sym (append_assoc s (Sign Plus ∷ []) b))
    (plus c d (leb-true (m + n) limit_of_number small)))
sum_of _ b m n k _ (takes {s} c) d e =
    let (small, same) = cond_none (nat_lt m n) (m - n) k e in
    subst (λ v. Spells Sum ((s ++ Sign Minus ∷ []) ++ b) v) same
    (subst (λ l. Spells Sum l (m - n)) (sym (append_assoc s (Sign Minus ∷ []) b))
    (minus c d (ltb-false m n small)))

product_of : (a b : List Symbol) (m n k : ℕ) (divided_by : Bool) → Factored a m divided_by
    → Spells Operand b n → next_factor divided_by m n ≡ Some k → Spells Product (a ++ b) k
product_of _ b _ n k _ first d e =
    let (small, same) = cond_some (nat_le (1 * n) limit_of_number) (1 * n) k e in
    let is : n ≡ k = omega (arith, same) in
    let few = leb-true (1 * n) limit_of_number small in
    subst (λ v. Spells Product b v) is (operand_alone d (omega (arith, few)))
product_of _ b m n k _ (multiplies {p} c) d e =
    let (small, same) = cond_some (nat_le (m * n) limit_of_number) (m * n) k e in
    subst (λ v. Spells Product ((p ++ Sign Star ∷ []) ++ b) v) same
    (subst (λ l. Spells Product l (m * n)) (sym (append_assoc p (Sign Star ∷ []) b))
    (times c d (leb-true (m * n) limit_of_number small)))
product_of _ b m n k _ (divides {p} c) d e =
    let (some, same) = cond_none (n == 0) (m / n) k e in
    let other = eqb-false n 0 some in
    subst (λ v. Spells Product ((p ++ Sign Slash ∷ []) ++ b) v) same
    (subst (λ l. Spells Product l (m / n)) (sym (append_assoc p (Sign Slash ∷ []) b))
    (divided c d (omega (arith, other))))

regroup : (before a b c : List Symbol) → (before ++ (a ++ b)) ++ c ≡ before ++ (a ++ (b ++ c))
regroup before a b c = append_assoc before (a ++ b) c ∙ ap (λ l. before ++ l) (append_assoc a b c)

-- behind one more operand
after_operand : (before a b c : List Symbol) (outer : List Partial) (sum : Partial) (n : ℕ)
    (v : Unfinished) → Enclosed before outer → Opened a sum.total sum.subtracts
    → Factored b sum.product sum.divides
    → Spells Operand c n → (with_operand n sum >>= λ t. operand_read outer t) ≡ Some v
    → Stands (before ++ (a ++ (b ++ c))) v
unfolding with_operand
after_operand before a b c outer sum n v around opened factored d e =
    option_and_then_some (λ t. operand_read outer t) (with_operand n sum) v e (λ t with_it same.
    option_and_then_some (λ k. Some (record sum { product = k }))
    (next_factor sum.divides sum.product n) t with_it (λ k value made.
    subst (λ w. Stands (before ++ (a ++ (b ++ c))) w)
    (ap (λ s. behind outer s) (same_Some (record sum { product = k }) t made)
    ∙ same_Some (behind outer t) v same)
    (has before a (b ++ c) outer (record sum { product = k }) around opened
    (product_of b c sum.product n k sum.divides factored d value))))

operand_kept : (s : Symbol) (before a b : List Symbol) (outer : List Partial) (sum : Partial)
    (v : Unfinished) → Enclosed before outer → Opened a sum.total sum.subtracts
    → Factored b sum.product sum.divides
    → operand_step s outer sum ≡ Some v → Stands ((before ++ (a ++ b)) ++ s ∷ []) v
operand_kept (Number n) before a b outer sum v around opened factored e =
    subst (λ l. Stands l v) (sym (regroup before a b (Number n ∷ [])))
    (after_operand before a b (Number n ∷ []) outer sum n v around opened factored
    (whole_number n) e)
operand_kept (Sign OpenParenthesis) before a b outer sum v around opened factored e =
    let opening : List Symbol = Sign OpenParenthesis ∷ [] in
    subst (λ w. Stands ((before ++ (a ++ b)) ++ opening) w)
    (same_Some (wanting (sum ∷ outer) nothing_read) v e)
    (subst (λ l. Stands l (wanting (sum ∷ outer) nothing_read))
    (append-nil (before ++ (a ++ (b ++ opening))) ∙ sym (regroup before a b opening))
    (wants (before ++ (a ++ (b ++ opening))) [] [] (sum ∷ outer) nothing_read
    (inside before a b outer sum around opened factored) begins first))
operand_kept _ before a b outer sum v around opened factored e = absurd cc

-- behind the sum, before its next product
after_sum : (s : Symbol) (subtracts : Bool)
    → ((l : List Symbol) (n : ℕ) → Spells Sum l n → Opened (l ++ s ∷ []) n subtracts)
    → (before a b : List Symbol) (outer : List Partial) (sum : Partial) (v : Unfinished)
    → Enclosed before outer → Opened a sum.total sum.subtracts → Spells Product b sum.product
    → (next_product subtracts sum >>= λ t. operand_wanted outer t) ≡ Some v
    → Stands ((before ++ (a ++ b)) ++ s ∷ []) v
unfolding next_product value_of
after_sum s subtracts led before a b outer sum v around opened d e =
    option_and_then_some (λ t. operand_wanted outer t) (next_product subtracts sum) v e
    (λ t begun same.
    option_and_then_some
    (λ m. Some (record { total = m; subtracts = subtracts; product = 1; divides = false }))
    (value_of sum) t begun (λ m value made.
    let next : Partial = record {
      total = m;
      subtracts = subtracts;
      product = 1;
      divides = false;
    } in
    subst (λ w. Stands ((before ++ (a ++ b)) ++ s ∷ []) w)
    (ap (λ x. wanting outer x) (same_Some next t made) ∙ same_Some (wanting outer t) v same)
    (subst (λ l. Stands l (wanting outer next))
    (ap (λ l. before ++ l) (append-nil ((a ++ b) ++ s ∷ []))
    ∙ sym (append_assoc before (a ++ b) (s ∷ [])))
    (wants before ((a ++ b) ++ s ∷ []) [] outer next around
    (led (a ++ b) m (sum_of a b sum.total sum.product m sum.subtracts opened d value)) first))))

regroup_closed : (before a b c : List Symbol)
    → ((before ++ (a ++ (b ++ Sign OpenParenthesis ∷ []))) ++ c)
    ++ Sign CloseParenthesis ∷ [] ≡ before
    ++ (a ++ (b ++ Sign OpenParenthesis ∷ (c ++ Sign CloseParenthesis ∷ [])))
regroup_closed before a b c =
    append_assoc (before ++ (a ++ (b ++ Sign OpenParenthesis ∷ []))) c (Sign CloseParenthesis ∷ [])
    ∙ regroup before a (b ++ Sign OpenParenthesis ∷ []) (c ++ Sign CloseParenthesis ∷ [])
    ∙ ap (λ l. before ++ (a ++ l))
    (append_assoc b (Sign OpenParenthesis ∷ []) (c ++ Sign CloseParenthesis ∷ []))

closed_kept : (before a b : List Symbol) (outer : List Partial) (sum : Partial) (v : Unfinished)
    → Enclosed before outer → Opened a sum.total sum.subtracts → Spells Product b sum.product
    → closed outer sum ≡ Some v → Stands ((before ++ (a ++ b)) ++ Sign CloseParenthesis ∷ []) v
unfolding value_of
closed_kept _ a b _ sum v outside opened d e = absurd cc
closed_kept _ a b _ sum v (inside before a' b' outer around enclosed opened' factored) opened d e =
    option_and_then_some (λ n. with_operand n around >>= λ t. operand_read outer t) (value_of sum) v
    e (λ n value more.
    subst (λ l. Stands l v) (sym (regroup_closed before a' b' (a ++ b)))
    (after_operand before a' b' (Sign OpenParenthesis ∷ ((a ++ b) ++ Sign CloseParenthesis ∷ []))
    outer around n v enclosed opened' factored
    (parenthesized (sum_of a b sum.total sum.product n sum.subtracts opened d value)) more))

operator_kept : (s : Symbol) (before a b : List Symbol) (outer : List Partial) (sum : Partial)
    (v : Unfinished) → Enclosed before outer → Opened a sum.total sum.subtracts
    → Spells Product b sum.product
    → operator_step s outer sum ≡ Some v → Stands ((before ++ (a ++ b)) ++ s ∷ []) v
operator_kept (Sign Star) before a b outer sum v around opened d e =
    subst (λ w. Stands ((before ++ (a ++ b)) ++ Sign Star ∷ []) w)
    (same_Some (wanting outer (record sum { divides = false })) v e)
    (subst (λ l. Stands l (wanting outer (record sum { divides = false })))
    (sym (regroup before a b (Sign Star ∷ [])))
    (wants before a (b ++ Sign Star ∷ []) outer (record sum { divides = false }) around opened
    (multiplies d)))
operator_kept (Sign Slash) before a b outer sum v around opened d e =
    subst (λ w. Stands ((before ++ (a ++ b)) ++ Sign Slash ∷ []) w)
    (same_Some (wanting outer (record sum { divides = true })) v e)
    (subst (λ l. Stands l (wanting outer (record sum { divides = true })))
    (sym (regroup before a b (Sign Slash ∷ [])))
    (wants before a (b ++ Sign Slash ∷ []) outer (record sum { divides = true }) around opened
    (divides d)))
operator_kept (Sign Plus) before a b outer sum v around opened d e =
    after_sum (Sign Plus) false (λ l n c. adds c) before a b outer sum v around opened d e
operator_kept (Sign Minus) before a b outer sum v around opened d e =
    after_sum (Sign Minus) true (λ l n c. takes c) before a b outer sum v around opened d e
operator_kept (Sign CloseParenthesis) before a b outer sum v around opened d e =
    closed_kept before a b outer sum v around opened d e
operator_kept _ before a b outer sum v around opened d e = absurd cc

-- one symbol more
kept : (s : Symbol) {read : List Symbol} {u : Unfinished} (v : Unfinished) → Stands read u
    → step s u ≡ Some v → Stands (read ++ s ∷ []) v
unfolding step
kept s v (wants before a b outer sum around opened factored) e =
    operand_kept s before a b outer sum v around opened factored e
kept s v (has before a b outer sum around opened d) e =
    operator_kept s before a b outer sum v around opened d e

-- some symbols more
kept_over : (symbols read : List Symbol) (u v : Unfinished) → Stands read u → run u symbols ≡ Some v
    → Stands (read ++ symbols) v
kept_over [] read u v standing e = subst (λ w. Stands (read ++ []) w) (same_Some u v e)
    (subst (λ l. Stands l u) (sym (append-nil read)) standing)
kept_over (s ∷ symbols) read u v standing e =
    option_and_then_some (λ w. run w symbols) (step s u) v e (λ w stepped ran.
    subst (λ l. Stands l v) (append_assoc read (s ∷ []) symbols)
    (kept_over symbols (read ++ s ∷ []) w v (kept s w standing stepped) ran))

spelled_at_end : {read : List Symbol} {u : Unfinished} (n : ℕ) → Stands read u
    → whole_value u ≡ Some n → Spells Sum read n
unfolding whole_value value_of
spelled_at_end n (wants before a b outer sum around opened factored) e = absurd cc
spelled_at_end n (has _ a b _ sum outside opened d) e =
    sum_of a b sum.total sum.product n sum.subtracts opened d e
spelled_at_end n
    (has _ a b _ sum (inside before a' b' outer around enclosed opened' factored) opened d) e =
    absurd cc

-- the symbols of a run from the beginning to the end of an expression spell its value
pub spelled : (symbols : List Symbol) (v : Unfinished) (n : ℕ)
    → run (wanting [] nothing_read) symbols ≡ Some v → whole_value v ≡ Some n → Spells Sum symbols n
spelled symbols v n ran whole =
    spelled_at_end n
    (kept_over symbols [] (wanting [] nothing_read) v
    (wants [] [] [] [] nothing_read outside begins first) ran) whole
