use Rattle.std.proofs.Common.{◌≡◌, [], length, rules}
use Rattle.mrc_base.proofs.Places.{each_grown}
use Rattle.mrc_report.proofs.serving.seat_all.Goals as goal

pub loop-task-preserved : goal.loop-task-preserved
loop-task-preserved g c =
    let was = c.loop-task.seats in
    let seat = c.in-Ok.seat in
    let len : c.loop-task.task ≡ length was.items = search rules in
    let task : seat.task ≡ c.loop-task.task = search rules in
    let calls : seat.calls ≡ [] = search rules in (
      search rules,
      search rules,
      each_grown (λ t s. (s.task ≡ t) × (s.calls ≡ [])) was.items c.push_reserved.new.self.items
          seat c.loop-task.task c.push_reserved.ensures.items len c.loop-task.invariant.2
          (task, calls),
    )
