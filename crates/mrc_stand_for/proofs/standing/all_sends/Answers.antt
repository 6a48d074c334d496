-- One step more, a step that is refused, and the end.
use Rattle.std.proofs.Common.{rules}
use Rattle.std.proofs.lemmas.Result.{err_from_is_err_and}
use Rattle.mrc_stand_for.specs.Standing.{add_sends}
use Rattle.mrc_stand_for.proofs.EachLemmas.{each_goes, each_refused, each_done}
use Rattle.mrc_stand_for.proofs.standing.all_sends.Goals as goal

pub loop-holder-preserved : goal.loop-holder-preserved
loop-holder-preserved c =
    each_goes (add_sends c.args.known.now c.args.line c.args.places.now) _ _ _ c.args.holders.now
    c.loop-holder.holder-index c.holder-item.result (search rules) c.holder-item.is
    c.loop-holder.invariant c.in_ok-add_sends.ensures

pub returns-in_err-add_sends : goal.returns-in_err-add_sends
returns-in_err-add_sends c =
    let p = err_from_is_err_and c.from_residual.result c.from_residual.ensures.1 in
    rw (p.1, p.2) (each_refused c.in_err-add_sends.field-0.0
    (add_sends c.args.known.now c.args.line c.args.places.now) _ _ c.args.holders.now
    c.loop-holder.holder-index c.holder-item.result (search rules) c.holder-item.is
    c.loop-holder.invariant c.in_err-add_sends.ensures)

pub returns : goal.returns
returns c =
    each_done (add_sends c.args.known.now c.args.line c.args.places.now) _ _ c.args.holders.now
    c.loop-holder.holder-index (search rules) c.loop-holder.invariant
