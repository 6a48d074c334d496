-- The order that `Fact` derives is the one that the definitions go by.
use Rattle.std.proofs.Common.{◌≡◌, refl, ap}
use Rattle.std.specs.declared.cmp.Ordering.{Ordering}
use Rattle.std.specs.declared.cmp.Ordering.TheVariants.{Less, Equal, Greater}
use Rattle.std.specs.Ordering.{nat_cmp, ordering_then}
use Rattle.mrc_base.specs.declared.Fact.{Fact}
use Rattle.mrc_base.specs.declared.Fact.TheVariants.{Hold, Carry, Backup}
use Rattle.mrc_base.specs.declared.PortRight.{PortRight}
use Rattle.mrc_base.specs.declared.PortRight.TheVariants.{Send, Receive, SendOnce}
use Rattle.mrc_base.specs.contracts.FactOrd.TheImpl as facts
use Rattle.mrc_base.specs.contracts.PortRightOrd.TheImpl as rights
use Rattle.mrc_facts.specs.Order.{right_number, fact_cmp}

right_at : (r s : PortRight) → (rights.cmp-value).it r s ≡ nat_cmp (right_number r) (right_number s)
right_at Send Send = refl
right_at Send Receive = refl
right_at Send SendOnce = refl
right_at Receive Send = refl
right_at Receive Receive = refl
right_at Receive SendOnce = refl
right_at SendOnce Send = refl
right_at SendOnce Receive = refl
right_at SendOnce SendOnce = refl

pub then_equal : (o : Ordering) → o ≡ ordering_then o Equal
then_equal Less = refl
then_equal Equal = refl
then_equal Greater = refl

derived_at : (f g : Fact) → (facts.cmp-value).it f g ≡ fact_cmp f g
derived_at (Hold t c r) (Hold u d s) =
    ap (λ o. ordering_then (nat_cmp t u) (ordering_then (nat_cmp c d) o)) (right_at r s)
derived_at (Hold t c r) (Carry u d s) = refl
derived_at (Hold t c r) (Backup u d) = refl
derived_at (Carry t c r) (Hold u d s) = refl
derived_at (Carry t c r) (Carry u d s) =
    ap (λ o. ordering_then (nat_cmp t u) (ordering_then (nat_cmp c d) o)) (right_at r s)
derived_at (Carry t c r) (Backup u d) = refl
derived_at (Backup t c) (Hold u d s) = refl
derived_at (Backup t c) (Carry u d s) = refl
derived_at (Backup t c) (Backup u d) = ap (ordering_then (nat_cmp t u)) (then_equal (nat_cmp c d))

-- as functions
pub derived : (facts.cmp-value).it ≡ fact_cmp
derived i f g = derived_at f g i
