use Rattle.std.proofs.Common.{sym, ◌∙◌}
use Rattle.mrc_machine.proofs.RoomLaws.{waits_if, waits_not}
use Rattle.mrc_machine.proofs.world.World.would_wait.Goals as goal

pub returns-then-is_alive : goal.returns-then-is_alive
returns-then-is_alive c = record {
  exact = λ W. waits_if W c.args.self.now c.args.task c.args.name c.args.limit c.self.inside.state
      c.would_wait.result c.self.view_is (sym c.is_alive.ensures.exact ∙ c.if-is_alive.true)
      c.would_wait.ensures.exact;
}

pub returns-else-is_alive : goal.returns-else-is_alive
returns-else-is_alive c = record {
  exact = λ W. waits_not W c.args.self.now c.args.task c.args.name c.args.limit
      c.self.inside.state c.is_alive.result c.self.view_is c.is_alive.ensures.exact
      c.if-is_alive.false;
}
