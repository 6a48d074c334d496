-- One step more, a step that is refused, and the end.
use Rattle.std.proofs.Common.{rules}
use Rattle.std.proofs.lemmas.Result.{err_from_is_err_and}
use Rattle.mrc_stand_for.specs.Lists.{add_port}
use Rattle.mrc_stand_for.proofs.EachLemmas.{each_goes, each_refused, each_done}
use Rattle.mrc_stand_for.proofs.lists.ports_of.Goals as goal

pub loop-port-preserved : goal.loop-port-preserved
loop-port-preserved c =
    each_goes (add_port c.args.known.now c.args.line) _ _ _ c.args.ports.now
    c.loop-port.port-index c.port-item.result (search rules) c.port-item.is
    c.loop-port.invariant c.in_ok-add_port.ensures

pub returns-in_err-add_port : goal.returns-in_err-add_port
returns-in_err-add_port c =
    let p = err_from_is_err_and c.from_residual.result c.from_residual.ensures.1 in
    rw (p.1, p.2) (each_refused c.in_err-add_port.field-0.0
    (add_port c.args.known.now c.args.line) _ _ c.args.ports.now
    c.loop-port.port-index c.port-item.result (search rules) c.port-item.is
    c.loop-port.invariant c.in_err-add_port.ensures)

pub returns : goal.returns
returns c =
    each_done (add_port c.args.known.now c.args.line) _ _ c.args.ports.now
    c.loop-port.port-index (search rules) c.loop-port.invariant
