use Rattle.mrc_index.proofs.FadeLaws.{held_named, once_named, none_named, named_as, none_as}
use Rattle.mrc_index.proofs.names.Names.name_of.Goals as goal

pub returns-in-Some-clause-some : goal.returns-in-Some-clause-some
returns-in-Some-clause-some c =
    named_as c.self.inside.entries c.args.self.now c.port.inside.0 c.args.port c.in-Some.name
    c.self.view_is c.port.view_is
    (held_named c.self.inside.entries c.self.inside.held c.self.inside.once c.self.inside.free
    c.port.inside.0 c.in-Some.name c.self.invariant c.in-Some.ensures.some)

pub returns-in-Some-least-clause-some : goal.returns-in-Some-least-clause-some
returns-in-Some-least-clause-some c =
    named_as c.self.inside.entries c.args.self.now c.port.inside.0 c.args.port c.in-Some-least.name
    c.self.view_is c.port.view_is
    (once_named c.self.inside.entries c.self.inside.held c.self.inside.once c.self.inside.free
    c.port.inside.0 c.in-Some-least.name c.self.invariant c.in-Some-least.ensures.some)

pub returns-in-None-least-clause-none : goal.returns-in-None-least-clause-none
returns-in-None-least-clause-none c =
    none_as c.self.inside.entries c.args.self.now c.port.inside.0 c.args.port
    c.self.view_is c.port.view_is
    (none_named c.self.inside.entries c.self.inside.held c.self.inside.once c.self.inside.free
    c.port.inside.0 c.self.invariant c.in-None.ensures.none c.in-None-least.ensures.none)
