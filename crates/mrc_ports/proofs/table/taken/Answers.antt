use Rattle.std.proofs.Common.{ap, ◌∙◌}
use Rattle.mrc_model.specs.Map.{insert}
use Rattle.mrc_ports.proofs.TableLaws.{insert_twice, stands_there}
use Rattle.mrc_ports.proofs.table.taken.Goals as goal

pub returns-clause-others : goal.returns-clause-others
returns-clause-others c = λ x.
    ap (λ m. insert m c.args.port x)
    (c.replace.ensures.changed
    ∙ ap (λ k. insert c.args.ports.now k c.new.result) c.port.view_is)
    ∙ insert_twice c.args.ports.now c.args.port c.new.result x

pub returns-clause-there : goal.returns-clause-there
returns-clause-there c =
    stands_there c.args.ports.now c.replace.new.self c.args.port c.new.result
    (c.replace.ensures.changed
    ∙ ap (λ k. insert c.args.ports.now k c.new.result) c.port.view_is)
