use Rattle.std.proofs.Common.{◌≡◌, Ok, rules, subst}
use Rattle.mrc_model.specs.Rules.{Least}
use Rattle.mrc_wiring.specs.Table.{wiring_of}
use Rattle.mrc_check.specs.Texts.{Meant}
use Rattle.mrc_answer.specs.Explained.{IsNamed}
use Rattle.mrc_answer.specs.Texts.{system}
use Rattle.mrc_answer.proofs.explain.explained.Goals as goal

pub returns-in-Ok-None : goal.returns-in-Ok-None
returns-in-Ok-None c =
    let fact = c.in-Some.named in
    let says : system c.args.files.now.texts ≡ Ok c.in-Ok.system = search rules in
    let named : IsNamed c.in-Ok.system.table c.args.fact.now fact = search rules in
    record {
      right = record {
        says = says;
        named = named;
        outside = subst (λ (m : Meant). Least (wiring_of m.table) fact → ⊥) c.system.view_is
            (rw c.in-Ok-None.field-0-is at c.in-Ok-None.ensures.none);
      };
    }
