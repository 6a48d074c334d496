use Rattle.std.proofs.Common.{◌∙◌, ◌≤◌, List, sym, refl, subst, arith, length}
use Rattle.mrc_model.specs.World.{Held}
use Rattle.mrc_death.specs.Search.{Goes, Step}
use Rattle.mrc_death.proofs.Following.{empty_kept, rights_go, begun, finished, finished_lost}
use Rattle.mrc_death.proofs.search.find_deaths.Goals as goal

pub kill_kernel-requires : goal.kill_kernel-requires
kill_kernel-requires c =
    record {
      kept = empty_kept c.args.store.now c.args.doomed.now _ c.new.ensures.items refl
          c.new-2.ensures c.new-3.ensures c.new-4.ensures c.new-5.ensures.items;
    }

pub lose_rights-requires-clause-goes : goal.lose_rights-requires-clause-goes
lose_rights-requires-clause-goes c = subst (λ (hs : List Held). Goes c.args.store.now
    c.args.doomed.now hs) (sym c.rights.ensures) (rights_go c.args.store.now
    c.args.doomed.now)

pub loop-search-init : goal.loop-search-init
loop-search-init c =
    let s = c.args.store.now in
    let d = c.args.doomed.now in
    let y = c.kill_kernel.new.self in
    begun s d _ y c.lose_rights.new.self refl c.in_ok-kill_kernel.ensures.step
    c.in_ok-kill_kernel.ensures.kernel (subst (λ (hs : List Held). Step s d hs
    y c.lose_rights.new.self) c.rights.ensures c.in_ok-lose_rights.ensures)

pub returns-clause-dead : goal.returns-clause-dead
returns-clause-dead c =
    let z = c.loop-search.search in
    let a = c.len.ensures in
    let b = z.dead.ok.0 in
    let t = c.loop-search-test.false in
    let all : length z.dead.items ≤ z.done = omega arith in
    λ p.
    c.loop-search.invariant.kept.same p
    ∙ finished c.args.store.now c.args.doomed.now z c.loop-search.invariant all p

pub returns-clause-lost : goal.returns-clause-lost
returns-clause-lost c =
    let z = c.loop-search.search in
    let a = c.len.ensures in
    let b = z.dead.ok.0 in
    let t = c.loop-search-test.false in
    let all : length z.dead.items ≤ z.done = omega arith in
    λ p. finished_lost c.args.store.now c.args.doomed.now z c.loop-search.invariant all p
