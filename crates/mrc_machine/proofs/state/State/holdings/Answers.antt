use Rattle.mrc_machine.proofs.HousingLaws.{short_owners}
use Rattle.mrc_machine.proofs.state.State.holdings.Goals as goal

pub spaces_holdings-requires : goal.spaces_holdings-requires
spaces_holdings-requires c = short_owners _ _ _ c.self.invariant c.spaces.ensures
