-- One step more, a step that is refused, and the end.
use Rattle.std.proofs.Common.{rules}
use Rattle.std.proofs.lemmas.Result.{err_from_is_err_and}
use Rattle.mrc_stand_for.specs.Lists.{add_who}
use Rattle.mrc_stand_for.proofs.EachLemmas.{each_goes, each_refused, each_done}
use Rattle.mrc_stand_for.proofs.lists.whos_of.Goals as goal

pub loop-name-preserved : goal.loop-name-preserved
loop-name-preserved c =
    each_goes (add_who c.args.known.now c.args.line) _ _ _ c.args.names.now
    c.loop-name.name-index c.name-item.result (search rules) c.name-item.is
    c.loop-name.invariant c.in_ok-add_who.ensures

pub returns-in_err-add_who : goal.returns-in_err-add_who
returns-in_err-add_who c =
    let p = err_from_is_err_and c.from_residual.result c.from_residual.ensures.1 in
    rw (p.1, p.2) (each_refused c.in_err-add_who.field-0.0
    (add_who c.args.known.now c.args.line) _ _ c.args.names.now
    c.loop-name.name-index c.name-item.result (search rules) c.name-item.is
    c.loop-name.invariant c.in_err-add_who.ensures)

pub returns : goal.returns
returns c =
    each_done (add_who c.args.known.now c.args.line) _ _ c.args.names.now
    c.loop-name.name-index (search rules) c.loop-name.invariant
