use Rattle.std.proofs.Common.{◌≡◌, ◌-◌, ◌+◌, arith}
use Rattle.mrc_death.proofs.Following.{walk_begun, walk_on, walk_done, link_at}
use Rattle.mrc_death.proofs.search.Search.wake.Goals as goal

pub loop-at-init : goal.loop-at-init
loop-at-init c = walk_begun c.args.store.now c.args.doomed.now c.args.backup c.args.self.now
    c.at-at.result c.at-at.ensures c.requires.kept

pub loop-at-preserved : goal.loop-at-preserved
loop-at-preserved c =
    let s = c.args.store.now in
    let d = c.args.doomed.now in
    let z = c.loop-at.self in
    let at = c.loop-at.at in
    let e = c.index-link.result.now in
    let there = c.loop-at-test.true in
    let one_less : at ≡ at - 1 + 1 = omega arith in
    let o = c.in_ok-wake_one.ensures in
    walk_on s d c.args.backup c.args.self.now z c.wake_one.new.self at (at - 1) e
    c.loop-at.invariant one_less (link_at s d c.args.backup c.args.self.now z at e
    c.loop-at.invariant c.loop-at-test.true c.index-link.ensures) o.step o.woken o.links o.heads

pub wake_one-requires : goal.wake_one-requires
wake_one-requires c =
    let s = c.args.store.now in
    let d = c.args.doomed.now in
    let z = c.loop-at.self in
    let at = c.loop-at.at in
    let e = c.index-link.result.now in
    let step = c.loop-at.invariant.step in
    let known = step.kept.links (at - 1) e (link_at s d c.args.backup c.args.self.now z at e
    c.loop-at.invariant c.loop-at-test.true c.index-link.ensures) in
    record {
      kept = step.kept;
      found = step.dead c.args.backup c.requires.found;
      loses = known.1;
      backup = known.2;
    }

pub returns-clause-woken : goal.returns-clause-woken
returns-clause-woken c = walk_done c.args.store.now c.args.doomed.now c.args.backup c.args.self.now
    c.loop-at.self c.loop-at.at c.loop-at.invariant c.loop-at-test.false
