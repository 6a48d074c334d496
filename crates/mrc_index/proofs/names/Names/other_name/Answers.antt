use Rattle.std.proofs.Common.{sym, subst}
use Rattle.std.specs.Option.{IfNone}
use Rattle.mrc_index.proofs.LeftLaws.{OnlyName, none_other, none_later, none_short, only_as}
use Rattle.mrc_index.proofs.LeftLaws.{if_none}
use Rattle.mrc_index.proofs.names.Names.other_name.Goals as goal

pub returns-in_err-first-clause-none : goal.returns-in_err-first-clause-none
returns-in_err-first-clause-none c =
    subst (λ o. IfNone o (OnlyName c.args.self.now c.args.port c.args.name))
    (sym c.from_residual.ensures)
    (only_as _ _ _ _ c.args.name c.self.view_is c.port.view_is
    (none_other c.self.inside.entries c.self.inside.held c.self.inside.once c.self.inside.free
    c.port.inside.0 c.args.name c.self.invariant c.in_err-first.ensures.none))

pub returns-then-name-eq4294967295-clause-none : goal.returns-then-name-eq4294967295-clause-none
returns-then-name-eq4294967295-clause-none c =
    only_as _ _ _ _ c.args.name c.self.view_is c.port.view_is
    (none_short c.self.inside.entries c.self.inside.held c.self.inside.once c.self.inside.free
    c.port.inside.0 c.args.name c.in_ok-first.first c.self.invariant c.in_ok-first.ensures.some
    c.if-first-name.false c.if-name-eq4294967295.true)

pub returns-clause-none : goal.returns-clause-none
returns-clause-none c =
    if_none c.least-2.result _ _ (λ h. only_as _ _ _ _ c.args.name c.self.view_is c.port.view_is
    (none_later c.self.inside.entries c.self.inside.held c.self.inside.once c.self.inside.free
    c.port.inside.0 c.args.name c.in_ok-first.first c.self.invariant c.in_ok-first.ensures.some
    c.if-first-name.false h)) c.least-2.ensures.none
