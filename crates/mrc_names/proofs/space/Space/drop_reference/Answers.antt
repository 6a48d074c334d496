use Rattle.std.proofs.Common.{sym, ap, ◌∙◌}
use Rattle.std.specs.Option.{option_map}
use Rattle.mrc_names.specs.Changes.{change_of}
use Rattle.mrc_names.proofs.ChangingLaws.{one_no_name, one_no_right, one_changed}
use Rattle.mrc_names.proofs.space.Space.drop_reference.Goals as goal

pub returns-in_default-clause-refused : goal.returns-in_default-clause-refused
returns-in_default-clause-refused c =
    one_no_name c.args.self.now c.args.name (sym c.get.ensures ∙ c.in_default.is)

pub returns-in-Some-drop_one-clause-ok : goal.returns-in-Some-drop_one-clause-ok
returns-in-Some-drop_one-clause-ok c =
    one_changed c.args.self.now c.change.new.self c.args.name c.in-Some.held
    (change_of c.in-Some-drop_one.change) c.change.result (sym c.get.ensures ∙ c.in-Some.is)
    (sym c.drop_one.ensures.dropped ∙ ap (option_map change_of) c.in-Some-drop_one.is)
    c.change.ensures

pub returns-in-None-clause-refused : goal.returns-in-None-clause-refused
returns-in-None-clause-refused c =
    one_no_right c.args.self.now c.args.name c.in-Some.held (sym c.get.ensures ∙ c.in-Some.is)
    (sym c.drop_one.ensures.dropped ∙ ap (option_map change_of) c.in-None.is)
