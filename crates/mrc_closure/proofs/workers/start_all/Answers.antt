use Rattle.std.proofs.Common.{◌≡◌, length, rules}
use Rattle.mrc_base.proofs.Places.{each_grown}
use Rattle.mrc_closure.specs.Working.{IsWorking}
use Rattle.mrc_closure.proofs.workers.start_all.Goals as goal

pub loop-worker-preserved : goal.loop-worker-preserved
loop-worker-preserved g c =
    let was = c.loop-worker.working in
    let len : c.loop-worker.worker ≡ length was.items = search rules in (
      search rules,
      search rules,
      each_grown (λ k h. IsWorking c.args.rules.now c.args.facts.now c.args.new.now k c.args.workers h.promise)
          was.items c.push_reserved.new.self.items c.in-Ok.one c.loop-worker.worker
          c.push_reserved.ensures.items len c.loop-worker.invariant.2 c.in-Ok.ensures,
    )
