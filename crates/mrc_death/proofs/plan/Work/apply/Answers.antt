use Rattle.std.proofs.Common.{sym, ap, ◌∙◌, subst}
use Rattle.mrc_death.specs.Plans.{IsReadyFor, work_done}
use Rattle.mrc_death.proofs.WorkLaws.{once_room, lost_room, all_done}
use Rattle.mrc_death.proofs.plan.Work.apply.Goals as goal

pub apply-requires : goal.apply-requires
apply-requires c =
    (subst (IsReadyFor c.args.store.now) (sym c.self.view_is) c.requires).can_remove

pub tell_once-requires : goal.tell_once-requires
tell_once-requires c =
    let ready = subst (IsReadyFor c.args.store.now) (sym c.self.view_is) c.requires in
    once_room c.args.store.now c.apply.new.store c.bury_all.new.self _ ready c.apply.ensures
    c.bury_all.ensures

pub tell_destroyed-requires : goal.tell_destroyed-requires
tell_destroyed-requires c =
    let ready = subst (IsReadyFor c.args.store.now) (sym c.self.view_is) c.requires in
    lost_room c.args.store.now c.apply.new.store c.bury_all.new.self _ ready c.apply.ensures
    c.bury_all.ensures c.tell_once.new.store
    c.tell_once.ensures

pub returns : goal.returns
returns c =
    let ready = subst (IsReadyFor c.args.store.now) (sym c.self.view_is) c.requires in
    all_done c.args.store.now c.apply.new.store c.bury_all.new.self _ ready c.apply.ensures
    c.bury_all.ensures c.tell_once.new.store
    c.tell_destroyed.new.store c.tell_once.ensures c.tell_destroyed.ensures
    ∙ ap (work_done c.args.store.now) c.self.view_is
