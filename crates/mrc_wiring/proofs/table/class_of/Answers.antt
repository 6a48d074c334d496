use Rattle.std.proofs.Common.{sym, ◌∙◌}
use Rattle.mrc_wiring.proofs.BirthLaws.{no_kind_class, kind_class_at}
use Rattle.mrc_wiring.proofs.table.class_of.Goals as goal

pub returns-in_err-row-in-Births-clause-exact : goal.returns-in_err-row-in-Births-clause-exact
returns-in_err-row-in-Births-clause-exact c =
    c.from_residual.ensures ∙ sym (no_kind_class c.args.ports c.args.tasks c.args.births.now
    c.args.class.kind _ _ _ c.in-Births.kind c.row_of.result c.in-Births.is c.row_of.ensures.exact
    c.from-in-Births.ensures c.from-in-Births-2.ensures c.in_err-row-in-Births.was)

pub returns-in_ok-row-in-Births-clause-exact : goal.returns-in_ok-row-in-Births-clause-exact
returns-in_ok-row-in-Births-clause-exact c =
    sym (kind_class_at c.args.ports c.args.tasks c.args.births.now
    c.args.class.kind _ _ _ c.in-Births.kind c.in_ok-row-in-Births.row c.row_of.result
    c.in-Births.is
    c.row_of.ensures.exact c.from-in-Births.ensures c.from-in-Births-2.ensures
    c.in_ok-row-in-Births.was)
