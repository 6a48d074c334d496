use Rattle.std.proofs.Common.{◌∙◌, sym, ap, subst}
use Rattle.mrc_wiring.specs.Table.{wiring_of}
use Rattle.mrc_wiring.specs.Claims.{holding_of as forbidden_of}
use Rattle.mrc_machine.specs.Holdings.{holdings_of}
use Rattle.mrc_machine.specs.Breaching.{AreHeld}
use Rattle.mrc_machine.proofs.BreachLaws.{all_held, decided_at}
use Rattle.mrc_machine.proofs.state.State.breach.Goals as goal

pub reached-requires : goal.reached-requires
reached-requires c =
    subst (AreHeld c.args.self.now)
    (sym (ap holdings_of c.as_slice-holdings.ensures.value ∙ c.in_ok-list.ensures))
    (all_held c.args.self.now)

pub returns : goal.returns
returns c = record {
  exact = decided_at (wiring_of c.args.wired.now) c.args.self.now (forbidden_of c.args.line.now)
      c.from.result c.in_ok-ports.ports (holdings_of c.as_slice-holdings.result.now)
      c.has_forbidden.result
      (ap holdings_of c.as_slice-holdings.ensures.value ∙ c.in_ok-list.ensures) c.from.ensures
      c.in_ok-ports.ensures.reached c.in_ok-ports.ensures.all c.has_forbidden.ensures;
}
