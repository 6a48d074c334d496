use Rattle.std.proofs.Common.{sym, ◌∙◌}
use Rattle.mrc_wiring.specs.Table.{wiring_of}
use Rattle.mrc_model.specs.Wiring.{classes}
use Rattle.mrc_facts.specs.Sets.{has}
use Rattle.mrc_classes.specs.Marking.{is_marked}
use Rattle.mrc_classes.proofs.Putting.{new_both, new_one}
use Rattle.mrc_classes.proofs.conclude.new_row_of.Goals as goal

pub returns-then-has_two : goal.returns-then-has_two
returns-then-has_two c =
    new_both (wiring_of c.args.rules.now) (has c.args.all.now) (has c.args.new.now)
    (has c.args.all.now) c.args.rule c.args.row (classes (wiring_of c.args.rules.now)) (is_marked c.args.out.now)
    (is_marked c.row_of.new.out) (is_marked c.row_of-then-has_two.new.out)
    (sym c.has_two.ensures ∙ c.if-has_two.true) c.row_of.ensures c.row_of-then-has_two.ensures

pub returns-else-has_two : goal.returns-else-has_two
returns-else-has_two c =
    new_one (wiring_of c.args.rules.now) (has c.args.all.now) (has c.args.new.now)
    (has c.args.all.now) c.args.rule c.args.row (classes (wiring_of c.args.rules.now)) (is_marked c.args.out.now)
    (is_marked c.row_of.new.out) (sym c.has_two.ensures ∙ c.if-has_two.false) c.row_of.ensures
