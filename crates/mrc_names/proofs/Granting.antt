-- What it takes to show that a step is not refused.
use Rattle.std.proofs.Common.{◌≡◌, Result, Ok, Err, refl, sym, subst}
use Rattle.std.specs.Prelude.{IsOk, IfErr, IsErrAnd}
use Rattle.mrc_base.specs.declared.memory.OrMemory.{OrMemory}
use Rattle.mrc_base.specs.declared.memory.OrMemory.TheVariants.{Memory}
use Rattle.mrc_model.specs.declared.Code.{Code}
use Rattle.mrc_model.specs.Reply.{Try}
use Rattle.mrc_names.specs.Refusals.{IsRefusal}

-- a step that gives a value
pub granted : {A : Type 0} (m : Try A) (a : A) → m ≡ Ok a → IsOk m
granted m a is = subst IsOk (sym is) refl

-- memory may run out in such a step
pub wanting : {A T : Type 0} (r : Result T (OrMemory Code)) (m : Try A)
    → IsErrAnd r (λ e. e ≡ Memory)
    → IsOk m
    → IfErr r (λ e. IsRefusal e m)
wanting (Ok t) m is ok = tt
wanting (Err e) m is ok = subst (λ k. IsRefusal k m) (sym is) ok
