use Rattle.std.proofs.Common.{◌∙◌, refl, sym}
use Rattle.mrc_answer.proofs.VerdictLaws.{all_searched}
use Rattle.mrc_answer.proofs.attack.searched.Goals as goal

pub returns-in-Ok : goal.returns-in-Ok
returns-in-Ok c = record { facts = refl; exposed = refl; broken = c.in-Ok.ensures }

pub returns-else-has_waived : goal.returns-else-has_waived
returns-else-has_waived c = record {
  facts = refl;
  exposed = refl;
  broken = sym (all_searched c.args.told.now c.args.verdict.broken.items
      (sym c.has_waived.ensures ∙ c.if-has_waived.false));
}
