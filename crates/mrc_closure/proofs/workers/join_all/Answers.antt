use Rattle.std.proofs.Common.{◌≡◌, ◌+◌, ◌-◌, ◌≤◌, vec_len, rules, sym, subst}
use Rattle.std.specs.Vec.Iter.{into_iter_items, into_iter_len}
use Rattle.mrc_base.proofs.Places.{each_first, each_later}
use Rattle.mrc_wiring.specs.Table.{wiring_of}
use Rattle.mrc_classes.specs.Following.{IsListOf}
use Rattle.mrc_closure.specs.Dealing.{FromFirst}
use Rattle.mrc_closure.specs.Working.{IsWorking}
use Rattle.mrc_closure.proofs.Dealing.{first_taken, promised}
use Rattle.mrc_closure.proofs.workers.join_all.Goals as goal

-- the first of the rest has ended with what it promised
pub loop-one-preserved : goal.loop-one-preserved
loop-one-preserved g c =
    let table = c.args.rules.now in
    let facts = c.args.facts.now in
    let new = c.args.new.now in
    let total = vec_len c.args.working in
    let was = c.loop-one.invariant in
    let rest = into_iter_items c.loop-one.one-iterator in
    let later = into_iter_items c.next.new.self in
    let done = total - into_iter_len c.loop-one.one-iterator in
    let then = total - into_iter_len c.next.new.self in
    let fewer : into_iter_len c.next.new.self ≤ total = search rules in
    let next : then ≡ done + 1 = search rules in
    let steps = c.in-Some.ensures.steps.0 in
    let this : IsWorking table facts new done c.args.workers c.in-Some.one.promise =
    each_first (λ k h. IsWorking table facts new k c.args.workers h.promise) done c.in-Some.one rest later steps was.rest in
    record {
      few = fewer;
      rest = each_later (λ k h. IsWorking table facts new k c.args.workers h.promise) done then c.in-Some.one rest later steps was.rest next;
      found = λ whole. subst (λ n. IsListOf (FromFirst (wiring_of table) facts new n c.args.workers) c.take_in-whole.new.all) (sym next)
          (first_taken (wiring_of table) facts new done c.args.workers c.loop-one.all c.join-found.result c.take_in-whole.new.all
          (was.found (c.take_in-whole.ensures.before whole))
          (promised table facts new done c.args.workers c.in-Some.one.promise c.join-found.result this c.join-found.ensures)
          (c.take_in-whole.ensures.members whole));
    }
