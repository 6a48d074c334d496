use Rattle.std.proofs.Common.{◌∙◌, ap}
use Rattle.mrc_model.specs.Map.{alter_all}
use Rattle.mrc_model.specs.Death.{perished_entry}
use Rattle.mrc_index.proofs.PerishLaws.{step_later, end_later}
use Rattle.mrc_index.proofs.names.Names.perish_ports.Goals as goal

pub loop-number-preserved : goal.loop-number-preserved
loop-number-preserved c =
    step_later c.loop-number.self c.perish.new.self _ c.in-Some.number.now
    c.loop-number.number-iterator c.next.new.self c.loop-number.invariant
    c.in-Some.ensures.steps c.perish.ensures

pub returns : goal.returns
returns c =
    end_later c.loop-number.self _ c.loop-number.number-iterator c.in-None.ensures.steps.0
    c.loop-number.invariant
    ∙ ap (λ l. alter_all (λ n e. perished_entry l e) c.args.self.now)
    (c.into_iter-number-iterator.ensures.into_iter_gives ∙ c.iter-number-items.ensures)
