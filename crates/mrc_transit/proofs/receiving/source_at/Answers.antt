use Rattle.std.proofs.Common.{sym, ◌∙◌}
use Rattle.mrc_transit.proofs.ReceiveCalls.{set_found, set_refused}
use Rattle.mrc_transit.proofs.receiving.source_at.Goals as goal

pub returns-in-PortSet-clause-ok : goal.returns-in-PortSet-clause-ok
returns-in-PortSet-clause-ok c =
    set_found c.args.store.now c.args.task c.args.name c.args.space.now c.in-Some.entry c.requires
    (sym c.get.ensures ∙ c.in-Some.is) c.in-PortSet.is c.member_source.result
    c.member_source.ensures.ok

pub returns-in-PortSet-clause-refused : goal.returns-in-PortSet-clause-refused
returns-in-PortSet-clause-refused c =
    set_refused c.args.store.now c.args.task c.args.name c.args.space.now c.in-Some.entry c.requires
    (sym c.get.ensures ∙ c.in-Some.is) c.in-PortSet.is c.member_source.result
    c.member_source.ensures.refused
