use Rattle.mrc_death.specs.Taking.{destroyed_of}
use Rattle.mrc_death.proofs.WorkLaws.{plan_none, plan_some, can_remove}
use Rattle.mrc_death.proofs.planning.dying.Goals as goal

pub work_of-requires : goal.work_of-requires
work_of-requires c =
    can_remove c.args.store.now (destroyed_of c.args.what) c.in_ok-taken.field-0 c.in-Some.taken
    c.in_ok-taken.ensures c.in-Some.is

pub returns-in-None : goal.returns-in-None
returns-in-None c =
    plan_none c.args.store.now (destroyed_of c.args.what) c.in_ok-taken.field-0
    c.in_ok-taken.ensures c.in-None.is

pub returns-in_ok-work-in-Some : goal.returns-in_ok-work-in-Some
returns-in_ok-work-in-Some c =
    plan_some c.args.store.now (destroyed_of c.args.what) c.in_ok-taken.field-0 c.in-Some.taken
    c.in_ok-work-in-Some.work c.in_ok-taken.ensures c.in-Some.is c.in_ok-work-in-Some.ensures
