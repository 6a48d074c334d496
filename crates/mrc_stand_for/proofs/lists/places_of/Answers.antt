-- One step more, a step that is refused, and the end.
use Rattle.std.proofs.Common.{rules}
use Rattle.std.proofs.lemmas.Result.{err_from_is_err_and}
use Rattle.mrc_stand_for.specs.Lists.{add_place}
use Rattle.mrc_stand_for.proofs.EachLemmas.{each_goes, each_refused, each_done}
use Rattle.mrc_stand_for.proofs.lists.places_of.Goals as goal

pub loop-place-preserved : goal.loop-place-preserved
loop-place-preserved c =
    each_goes (add_place c.args.known.now c.args.line c.args.holder.now) _ _ _ c.args.places.now
    c.loop-place.place-index c.place-item.result (search rules) c.place-item.is
    c.loop-place.invariant c.in_ok-add_place.ensures

pub returns-in_err-add_place : goal.returns-in_err-add_place
returns-in_err-add_place c =
    let p = err_from_is_err_and c.from_residual.result c.from_residual.ensures.1 in
    rw (p.1, p.2) (each_refused c.in_err-add_place.field-0.0
    (add_place c.args.known.now c.args.line c.args.holder.now) _ _ c.args.places.now
    c.loop-place.place-index c.place-item.result (search rules) c.place-item.is
    c.loop-place.invariant c.in_err-add_place.ensures)

pub returns : goal.returns
returns c =
    each_done (add_place c.args.known.now c.args.line c.args.holder.now) _ _ c.args.places.now
    c.loop-place.place-index (search rules) c.loop-place.invariant
