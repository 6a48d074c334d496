-- What texts mean over the interfaces of MIG files, and what they mean with the files.
use Rattle.std.proofs.Common.{◌≡◌, ◌∙◌, ℕ, List, Result, Ok, Err, refl, ap, subst}
use Rattle.std.specs.Prelude.{IfOk}
use Rattle.std.proofs.lemmas.List.Elements.{All-weaker}
use Rattle.mrc_base.specs.Reading.{◌>>=◌}
use Rattle.mrc_forms.specs.Tables.{Table as Interface}
use Rattle.mrc_interface.specs.Reading.{step, interfaces_of}
use Rattle.mrc_check.specs.Texts.{InDefs, InWiring, InPolicy, Meant, Policy, Stated, system_over}
use Rattle.mrc_check.specs.Texts.{demanded_by, stated_by, stated_of, stated_over}
use Rattle.mrc_mend.specs.declared.answers.Answer.{Answer}
use Rattle.mrc_mend.specs.declared.answers.Answer.TheVariants.{Nothing, Found}
use Rattle.mrc_mend.specs.declared.answers.Mend.{Mend}
use Rattle.mrc_mend.specs.Mending.{mended}
use Rattle.mrc_mend.specs.Judging.{Texts, MendOver, IsMend, AreAnswered}

-- what holds of what the later step gives holds of what both give
after_step : {A B E F : Type 0} (P : B → Type 0) (place : E → F) (r : Result A E)
    (f : A → Result B F)
    → ((x : A) → IfOk (f x) P) → IfOk (step place r >>= f) P
after_step P place (Ok x) f holds = holds x
after_step P place (Err fault) f holds = tt

-- a policy leaves the table of a system unchanged
pub table_kept : (system : Meant) (policy : Policy) (stated : Stated)
    → stated_by system policy ≡ Ok stated
    → stated.claim.table ≡ system.table
table_kept system policy stated e =
    subst (λ r. IfOk r (λ (stated : Stated). stated.claim.table ≡ system.table)) e
    (after_step _ InPolicy (demanded_by system.known system.table policy.bytes) _ (λ made. refl))

-- if the files have these interfaces, what the files mean is what is meant over them
pub stated_same : (defs : List (List ℕ)) (wiring : List ℕ) (policy : Policy) (interfaces : List Interface)
    → interfaces_of defs ≡ Ok interfaces
    → stated_of defs wiring policy ≡ stated_over interfaces wiring policy
stated_same defs wiring policy interfaces e =
    ap (λ r. (step InDefs r >>= λ is. step InWiring (system_over is wiring))
    >>= λ system. stated_by system policy) e

-- and what mends over them mends the wiring of the files
pub mends_of : (defs : List (List ℕ)) (interfaces : List Interface) (texts : Texts)
    (answer : Answer)
    → interfaces_of defs ≡ Ok interfaces
    → AreAnswered (MendOver interfaces texts) answer
    → AreAnswered (IsMend defs texts.wiring texts.policy texts.only) answer
mends_of defs interfaces texts Nothing e all = tt
mends_of defs interfaces texts (Found mends) e all =
    All-weaker (λ (m : Mend). MendOver interfaces texts m.changes.items)
    (λ (m : Mend). IsMend defs texts.wiring texts.policy texts.only m.changes.items)
    (λ m mend. record {
      stated = mend.stated;
      means = stated_same defs (mended texts.wiring m.changes.items) texts.policy interfaces e
          ∙ mend.means;
      yes = mend.yes;
    }) mends.mends.items all
