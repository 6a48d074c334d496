-- The order of facts is total, and facts that tie are equal.
use Rattle.std.proofs.Common.{◌≡◌, refl, ap, ◌∙◌, false, subst}
use Rattle.std.specs.Prelude.{IsTrue}
use Rattle.std.specs.Cmp.{IsTotalOrder}
use Rattle.std.specs.declared.cmp.Ordering.{Ordering}
use Rattle.std.specs.declared.cmp.Ordering.TheVariants.{Less, Equal, Greater}
use Rattle.std.specs.Ordering.{nat_cmp, ordering_then, ordering_reverse, is_lt, is_eq}
use Rattle.std.proofs.lemmas.Cmp.{nat_cmp_total, on_total, then_total, tied_itself}
use Rattle.std.proofs.lemmas.Map.Lookups.{CmpEqualImpliesEq, exact_unsigned}
use Rattle.mrc_base.specs.declared.Fact.{Fact}
use Rattle.mrc_base.specs.declared.Fact.TheVariants.{Hold, Carry, Backup}
use Rattle.mrc_base.specs.declared.PortRight.{PortRight}
use Rattle.mrc_base.specs.declared.PortRight.TheVariants.{Send, Receive, SendOnce}
use Rattle.mrc_facts.specs.Order.{right_number, kind, first_number, second_number, last_byte}
use Rattle.mrc_facts.specs.Order.{fact_cmp, is_before, is_same}
use Rattle.mrc_facts.specs.Laws.{SameAreEqual}

pub fact_total : IsTotalOrder fact_cmp
fact_total =
    then_total (on_total kind nat_cmp_total) (then_total (on_total first_number nat_cmp_total)
    (then_total (on_total second_number nat_cmp_total) (on_total last_byte nat_cmp_total)))

pub then_both : (o p : Ordering) → ordering_then o p ≡ Equal → (o ≡ Equal) × (p ≡ Equal)
then_both Less p e = absurd cc
then_both Equal p e = (refl, e)
then_both Greater p e = absurd cc

pub same_right : (r s : PortRight) → right_number r ≡ right_number s → r ≡ s
same_right Send Send e = refl
same_right Send Receive e = absurd cc
same_right Send SendOnce e = absurd cc
same_right Receive Send e = absurd cc
same_right Receive Receive e = refl
same_right Receive SendOnce e = absurd cc
same_right SendOnce Send e = absurd cc
same_right SendOnce Receive e = absurd cc
same_right SendOnce SendOnce e = refl

pub exact : CmpEqualImpliesEq fact_cmp
exact (Hold t c r) (Hold u d s) e =
    let a = then_both (nat_cmp t u) (ordering_then (nat_cmp c d)
    (nat_cmp (right_number r) (right_number s))) e in
    let b = then_both (nat_cmp c d) (nat_cmp (right_number r) (right_number s)) a.1 in
    let x = exact_unsigned t u a.0 in
    let y = exact_unsigned c d b.0 in
    let z = same_right r s (exact_unsigned (right_number r) (right_number s) b.1) in
    cc
exact (Hold t c r) (Carry u d s) e = absurd cc
exact (Hold t c r) (Backup u d) e = absurd cc
exact (Carry t c r) (Hold u d s) e = absurd cc
exact (Carry t c r) (Carry u d s) e =
    let a = then_both (nat_cmp t u) (ordering_then (nat_cmp c d)
    (nat_cmp (right_number r) (right_number s))) e in
    let b = then_both (nat_cmp c d) (nat_cmp (right_number r) (right_number s)) a.1 in
    let x = exact_unsigned t u a.0 in
    let y = exact_unsigned c d b.0 in
    let z = same_right r s (exact_unsigned (right_number r) (right_number s) b.1) in
    cc
exact (Carry t c r) (Backup u d) e = absurd cc
exact (Backup t c) (Hold u d s) e = absurd cc
exact (Backup t c) (Carry u d s) e = absurd cc
exact (Backup t c) (Backup u d) e =
    let a = then_both (nat_cmp t u) (ordering_then (nat_cmp c d) Equal) e in
    let b = then_both (nat_cmp c d) Equal a.1 in
    let x = exact_unsigned t u a.0 in
    let y = exact_unsigned c d b.0 in
    cc

-- an answer by its test
pub Less-is : (o : Ordering) → IsTrue (is_lt o) → o ≡ Less
Less-is Less h = refl
Less-is Equal h = absurd cc
Less-is Greater h = absurd cc

pub Equal-is : (o : Ordering) → IsTrue (is_eq o) → o ≡ Equal
Equal-is Less h = absurd cc
Equal-is Equal h = refl
Equal-is Greater h = absurd cc

pub same_itself : (f : Fact) → IsTrue (is_same f f)
same_itself f = ap is_eq (tied_itself fact_total f)

pub equal_from_same : (f g : Fact) → IsTrue (is_same f g) → f ≡ g
equal_from_same f g h = exact f g (Equal-is (fact_cmp f g) h)

pub same_are_equal : SameAreEqual
same_are_equal f g =
    (equal_from_same f g, λ e. subst (λ (x : Fact). IsTrue (is_same f x)) e (same_itself f))

-- no fact comes before itself, or before one that comes before it
pub not_before_itself : (f : Fact) → is_before f f ≡ false
not_before_itself f = ap is_lt (tied_itself fact_total f)

pub not_before : (f g : Fact) → IsTrue (is_before f g) → is_before g f ≡ false
not_before f g h =
    ap is_lt (fact_total.antisymm g f ∙ ap (λ o. ordering_reverse o) (Less-is (fact_cmp f g) h))
