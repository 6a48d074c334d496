use Rattle.std.proofs.Common.{sym, ap, ◌∙◌, subst}
use Rattle.mrc_death.specs.Plans.{IsReady, IsReadyFor, work_done, carried_out}
use Rattle.mrc_death.proofs.WorkLaws.{some_done, none_done}
use Rattle.mrc_death.proofs.plan.Dying.apply.Goals as goal

pub apply-requires : goal.apply-requires
apply-requires c =
    let s = c.args.store.now in
    subst (IsReadyFor s) (sym c.in-Some.work-is)
    (subst (IsReady s) (sym c.self.view_is ∙ c.in-Some.is) c.requires)

pub returns-in-Some : goal.returns-in-Some
returns-in-Some c =
    let s = c.args.store.now in
    some_done s c.apply.new.store c.in-Some.work
    (c.apply.ensures ∙ ap (work_done s) c.in-Some.work-is)
    ∙ ap (carried_out s) (sym c.in-Some.is ∙ c.self.view_is)

pub returns-in-None : goal.returns-in-None
returns-in-None c =
    let s = c.args.store.now in
    none_done s ∙ ap (carried_out s) (sym c.in-None.is ∙ c.self.view_is)
