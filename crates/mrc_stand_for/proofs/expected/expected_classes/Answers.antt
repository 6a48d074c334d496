-- One step more, a step that is refused, and the end.
use Rattle.std.proofs.Common.{rules}
use Rattle.std.proofs.lemmas.Result.{err_from_is_err_and}
use Rattle.mrc_stand_for.specs.Expected.{add_expected}
use Rattle.mrc_stand_for.proofs.EachLemmas.{each_goes, each_refused, each_done}
use Rattle.mrc_stand_for.proofs.expected.expected_classes.Goals as goal

pub loop-class-preserved : goal.loop-class-preserved
loop-class-preserved c =
    each_goes (add_expected c.args.known.now c.args.line c.args.holder.now) _ _ _ c.args.classes.now
    c.loop-class.class-index c.class-item.result (search rules) c.class-item.is
    c.loop-class.invariant c.in_ok-add_expected.ensures

pub returns-in_err-add_expected : goal.returns-in_err-add_expected
returns-in_err-add_expected c =
    let p = err_from_is_err_and c.from_residual.result c.from_residual.ensures.1 in
    rw (p.1, p.2) (each_refused c.in_err-add_expected.field-0.0
    (add_expected c.args.known.now c.args.line c.args.holder.now) _ _ c.args.classes.now
    c.loop-class.class-index c.class-item.result (search rules) c.class-item.is
    c.loop-class.invariant c.in_err-add_expected.ensures)

pub returns : goal.returns
returns c =
    each_done (add_expected c.args.known.now c.args.line c.args.holder.now) _ _ c.args.classes.now
    c.loop-class.class-index (search rules) c.loop-class.invariant
