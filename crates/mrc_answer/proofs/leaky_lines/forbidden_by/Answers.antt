use Rattle.std.proofs.Common.{ap, ◌||◌, ◌∙◌}
use Rattle.mrc_base.specs.declared.Fact.{Fact}
use Rattle.mrc_facts.specs.Order.{is_same}
use Rattle.mrc_facts.specs.Sets.{has}
use Rattle.mrc_answer.proofs.LeakLaws.{forbidden_more}
use Rattle.mrc_answer.proofs.leaky_lines.forbidden_by.Goals as goal

pub loop-line-preserved : goal.loop-line-preserved
loop-line-preserved c =
    forbidden_more c.args.lines.now c.loop-line.line-index c.line-item.result c.loop-line-test.true
    c.line-item.is (has c.loop-line.set) (has c.insert.new.self) c.loop-line.invariant
    (λ g. c.in_ok-_new.ensures.members g
    ∙ ap (λ (f : Fact). is_same g f || has c.loop-line.set g) c.forbidden_fact.ensures)
