use Rattle.std.proofs.Common.{◌∙◌, subst, sym}
use Rattle.mrc_model.specs.IsIn.{IsIn}
use Rattle.mrc_why.proofs.Members.{in_at}
use Rattle.mrc_why.proofs.slots.passes.Goals as goal

-- the disposition is one of the slot's
pub returns-then-hands_over : goal.returns-then-hands_over
returns-then-hands_over c = λ admitted.
    let both = c.hands_over.ensures c.if-hands_over.true in
    record {
      disposition = _;
      of_slot = subst (IsIn _) c.dispositions-disp-items.ensures
          (in_at c.dispositions-disp-items.result.now c.loop-disp.disp-index _
          c.loop-disp-test.true);
      needs = both.0;
      gives = both.1;
      admits = sym c.admits.ensures ∙ admitted;
    }
