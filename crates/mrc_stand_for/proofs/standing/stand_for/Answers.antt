-- One line more, a line that is refused, and the end.
use Rattle.std.proofs.Common.{rules, ap, sym, ◌∙◌}
use Rattle.mrc_stand_for.specs.Standing.{add_line, all_or_front}
use Rattle.mrc_stand_for.proofs.EachLemmas.{each_goes, each_done}
use Rattle.mrc_stand_for.proofs.StoodLemmas.{each_stood, refused_front}
use Rattle.mrc_stand_for.proofs.standing.stand_for.Goals as goal

pub loop-line-preserved : goal.loop-line-preserved
loop-line-preserved c =
    each_goes add_line _ _ _ c.args.lines.now
    c.loop-line.line-index c.line-item.result (search rules) c.line-item.is
    c.loop-line.invariant c.in-Ok.ensures

pub returns-in-Err-Fault : goal.returns-in-Err-Fault
returns-in-Err-Fault c =
    let told = rw c.in-Err-Fault.field-0-is at c.front.ensures in
    record {
      exact = told
          ∙ refused_front c.in-Err-Fault.field-0 _ _ _ c.in-Err-Fault.field-0-is
          (each_stood c.in-Err-Fault.field-0 _ add_line _ _
          c.args.lines.now c.loop-line.line-index c.line-item.result (search rules) c.line-item.is
          c.loop-line.invariant c.in-Err-Fault.ensures);
    }

pub returns : goal.returns
returns c = record {
  exact = c.whole.ensures
      ∙ sym (ap all_or_front (each_done add_line _ _ c.args.lines.now
      c.loop-line.line-index (search rules) c.loop-line.invariant));
}
