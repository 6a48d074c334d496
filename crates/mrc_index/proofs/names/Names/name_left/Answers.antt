use Rattle.mrc_index.proofs.LeftLaws.{left_none, left_some}
use Rattle.mrc_index.proofs.names.Names.name_left.Goals as goal

pub returns-in-None : goal.returns-in-None
returns-in-None c =
    left_none c.args.self.now c.args.port c.args.name c.args.rest c.other_name.result c.in-None.is
    c.other_name.ensures.some c.other_name.ensures.none

pub returns-in-Some : goal.returns-in-Some
returns-in-Some c =
    left_some c.self.inside.entries c.args.self.now c.self.inside.held c.self.inside.once
    c.self.inside.free c.port.inside.0 c.args.port c.args.name c.args.rest c.in-Some.field-0
    c.least.result c.self.invariant c.self.view_is c.port.view_is c.requires c.in-Some.is
    c.least.ensures.some c.least.ensures.none
