use Rattle.std.proofs.Common.{◌≡◌, Bool, true, false, refl, IsTrue}
use Rattle.std.proofs.lemmas.Bool.{false≢true}
use Rattle.mrc_facts.specs.Sets.{has}
use Rattle.mrc_facts.proofs.Members.{one_list}
use Rattle.mrc_closure.proofs.laws.one_least.Goals as goal

same : (p q : Bool) → (IsTrue p → IsTrue q) → (IsTrue q → IsTrue p) → p ≡ q
same true true f g = refl
same true false f g = absurd (false≢true (f refl))
same false true f g = absurd (false≢true (g refl))
same false false f g = refl

pub returns : goal.returns
returns c = λ W fs gs up_f up_g x y.
    one_list fs gs up_f up_g (λ f. same (has fs f) (has gs f)
    (λ h. x.least f h (has gs) y.closed) (λ h. y.least f h (has fs) x.closed))
