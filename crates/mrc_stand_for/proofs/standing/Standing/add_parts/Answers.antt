-- One part more, a part that is refused, and the end.
use Rattle.std.proofs.Common.{length, drop, rules, arith, ap, sym, ◌∙◌}
use Rattle.std.proofs.lemmas.Iterator.Adapters.{YieldsList-from_vec}
use Rattle.std.proofs.lemmas.Iterator.Consumers.{YieldsList-turn, YieldsList-end}
use Rattle.std.proofs.lemmas.List.{length_push}
use Rattle.std.proofs.lemmas.Result.{err_from_is_err_and}
use Rattle.mrc_stand_for.specs.Steps.{each}
use Rattle.mrc_stand_for.specs.Standing.{add_part}
use Rattle.mrc_stand_for.proofs.EachLemmas.{each_goes, each_done}
use Rattle.mrc_stand_for.proofs.StoodLemmas.{each_stood}
use Rattle.mrc_stand_for.proofs.standing.Standing.add_parts.Goals as goal

pub loop-says-preserved : goal.loop-says-preserved
loop-says-preserved c =
    let turn = YieldsList-turn (YieldsList-from_vec {s = c.into_iter-says-iterator.result}
    c.args.parts.items (search rules) (search rules)) c.loop-says.yielded
    c.loop-says.says-iterator c.loop-says.yielded_by c.next.result c.next.new.self
    c.in-Some.says c.in-Some.is c.next.ensures.steps in
    each_goes (add_part c.args.line) _ _ _ c.args.parts.items (length c.loop-says.yielded)
    c.in-Some.says turn.0 turn.1 c.loop-says.invariant c.in_ok-add_part.ensures
    ∙ ap (λ n. each (add_part c.args.line) c.add_part.new.self (drop n c.args.parts.items))
    (sym (length_push c.loop-says.yielded c.in-Some.says))

pub returns-in_err-add_part : goal.returns-in_err-add_part
returns-in_err-add_part c =
    let turn = YieldsList-turn (YieldsList-from_vec {s = c.into_iter-says-iterator.result}
    c.args.parts.items (search rules) (search rules)) c.loop-says.yielded
    c.loop-says.says-iterator c.loop-says.yielded_by c.next.result c.next.new.self
    c.in-Some.says c.in-Some.is c.next.ensures.steps in
    let p = err_from_is_err_and c.from_residual.result c.from_residual.ensures.1 in
    rw (p.1, p.2) (each_stood c.in_err-add_part.field-0.0 _ (add_part c.args.line) _ _
    c.args.parts.items (length c.loop-says.yielded) c.in-Some.says turn.0 turn.1
    c.loop-says.invariant c.in_err-add_part.ensures)

pub returns : goal.returns
returns c =
    let end = YieldsList-end (YieldsList-from_vec {s = c.into_iter-says-iterator.result}
    c.args.parts.items (search rules) (search rules)) c.loop-says.yielded
    c.loop-says.says-iterator c.loop-says.yielded_by c.next.result c.next.new.self
    c.in-None.is c.next.ensures.steps in
    each_done (add_part c.args.line) _ _ c.args.parts.items (length c.loop-says.yielded)
    (omega (arith, end.1)) c.loop-says.invariant
