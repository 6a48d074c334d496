use Rattle.std.proofs.Common.{ap, ◌∙◌}
use Rattle.mrc_model.specs.World.{Store}
use Rattle.mrc_machine.proofs.HousingLaws.{housed_same}
use Rattle.mrc_transit.proofs.ApplyLaws.{restart_spaces, restart_next}
use Rattle.mrc_machine.proofs.state.State.restart_moved.Goals as goal

pub invariant_of-self : goal.invariant_of-self
invariant_of-self c =
    housed_same _ _ _ c.self.invariant (
      ap (λ (s : Store). s.spaces) c.restart.ensures
          ∙ restart_spaces c.self.inside.store c.args.port,
      ap (λ (s : Store). s.next) c.restart.ensures
          ∙ restart_next c.self.inside.store c.args.port,
    )
