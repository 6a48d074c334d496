use Rattle.std.proofs.Common.{rules, arith}
use Rattle.std.proofs.lemmas.Grind.{common_steps}
use Rattle.std.proofs.lemmas.List.Elements.{All-pop, All-push, All-same}
use Rattle.mrc_mend.specs.declared.answers.Mend.{Mend}
use Rattle.mrc_mend.specs.Judging.{MendOver}
use Rattle.mrc_mend.proofs.counting.all_counted.Goals as goal

-- one mend more is counted, and what is left mends
pub loop-mend-preserved : goal.loop-mend-preserved
loop-mend-preserved c =
    let P : Mend → Type 0 = λ m. MendOver c.args.interfaces c.args.texts.now m.changes.items in
    let popped = All-pop P c.loop-mend.mends.items c.pop.new.self.items c.pop.result
    c.pop.ensures.items c.loop-mend.invariant.left in
    record {
      kept = grind (arith, common_steps);
      left = popped.0;
      done = All-same P _ _ c.in_ok-push.ensures.items
          (All-push P c.loop-mend.counted.items _ c.loop-mend.invariant.done
          (rw c.in-Some.is at popped.1));
      all = grind (arith, common_steps);
    }
