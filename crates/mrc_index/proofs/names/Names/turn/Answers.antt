use Rattle.std.proofs.Common.{◌∙◌, sym, ap}
use Rattle.mrc_model.proofs.Maps.{same_Some}
use Rattle.mrc_index.specs.Names.{is_on}
use Rattle.mrc_index.proofs.PerishLaws.{turned_same, turned_less}
use Rattle.mrc_index.proofs.names.Names.turn.Goals as goal

pub returns-clause-same : goal.returns-clause-same
returns-clause-same c =
    turned_same c.args.self.now c.fade.new.self c.args.port c.args.name c.in-Some.entry
    (sym c.get.ensures ∙ c.in-Some.is)
    (ap (is_on c.args.port) (same_Some c.in-Some.entry c.requires.0
    (sym c.in-Some.is ∙ c.get.ensures ∙ c.requires.1)) ∙ c.requires.2) c.fade.ensures

pub returns-clause-less : goal.returns-clause-less
returns-clause-less c =
    turned_less c.args.self.now c.fade.new.self c.args.port c.args.name c.in-Some.entry
    (sym c.get.ensures ∙ c.in-Some.is)
    (ap (is_on c.args.port) (same_Some c.in-Some.entry c.requires.0
    (sym c.in-Some.is ∙ c.get.ensures ∙ c.requires.1)) ∙ c.requires.2) c.fade.ensures
