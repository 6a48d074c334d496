use Rattle.std.proofs.Common.{sym, ◌∙◌}
use Rattle.mrc_base.proofs.Steps.{ok_or_is}
use Rattle.mrc_wiring.proofs.StateLemmas.{wired_there, next_within}
use Rattle.mrc_wiring.proofs.resolving.Resolving.add_hold_port.Goals as goal

-- a port that is there
pub place_hold-requires-clause-port : goal.place_hold-requires-clause-port
place_hold-requires-clause-port c =
    wired_there c.args.self.now _ c.in_ok-port.port c.requires
    (sym c.port_birth.ensures ∙ ok_or_is c.port_birth.result _ c.in_ok-port.port
    (sym c.ok_or.ensures.value ∙ c.in_ok-port.was))

pub place_hold-requires-clause-near : goal.place_hold-requires-clause-near
place_hold-requires-clause-near c =
    next_within c.args.self.now c.in_ok-port.port c.requires (wired_there c.args.self.now _
    c.in_ok-port.port c.requires
    (sym c.port_birth.ensures ∙ ok_or_is c.port_birth.result _ c.in_ok-port.port
    (sym c.ok_or.ensures.value ∙ c.in_ok-port.was)))
