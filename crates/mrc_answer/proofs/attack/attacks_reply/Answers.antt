use Rattle.std.proofs.Common.{◌∙◌, List, Option, ap, refl}
use Rattle.mrc_check.specs.declared.demands.Demand.{Demand}
use Rattle.mrc_why.specs.Broken.{BrokenLine, ExposedTask}
use Rattle.mrc_attack.specs.Attacks.{aims}
use Rattle.mrc_answer.specs.Verified.{searched}
use Rattle.mrc_answer.proofs.attack.attacks_reply.Goals as goal

pub returns-in-Ok-both : goal.returns-in-Ok-both
returns-in-Ok-both g c =
    let both = c.in-Ok-both.ensures in
    let s = c.in-Ok.ensures in
    record {
      attacked = record {
        stated = c.args.stated;
        only = c.args.only;
        found = c.in-Ok-both.found;
        told = c.args.found.told;
      };
      is = refl;
      of = refl;
      only_is = refl;
      told_is = refl;
      lines = both.lines
          ∙ ap (λ (x : Option ExposedTask). aims c.args.only x c.in-Ok.verdict.broken.items)
          s.exposed
          ∙ ap (λ (b : List BrokenLine). aims c.args.only c.args.found.verdict.exposed b) s.broken
          ∙ ap (λ (ds : List Demand). aims c.args.only c.args.found.verdict.exposed
          (searched ds c.args.found.verdict.broken.items)) c.as_slice.ensures.value;
      leaks = both.leaks;
      are_notices = both.notices;
    }
