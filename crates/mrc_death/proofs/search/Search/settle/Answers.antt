use Rattle.std.proofs.Common.{◌≡◌, true, sym, ap, ◌∙◌}
use Rattle.mrc_model.specs.Death.{has, is_lost, dying}
use Rattle.mrc_death.specs.Search.{is_waiting}
use Rattle.mrc_death.proofs.Keeping.{loses_dies}
use Rattle.mrc_death.proofs.search.Search.settle.Goals as goal

pub kill-requires : goal.kill-requires
kill-requires c = record {
  kept = c.requires.kept;
  dies = loses_dies c.args.store.now
      c.args.doomed.now c.args.port c.requires.loses (ap (is_lost (dying c.args.store.now
      c.args.doomed.now)) (c.requires.backup ∙ c.in-Absent.is));
}

pub kill-requires-in-Dead : goal.kill-requires-in-Dead
kill-requires-in-Dead c = record {
  kept = c.requires.kept;
  dies = loses_dies c.args.store.now
      c.args.doomed.now c.args.port c.requires.loses (ap (is_lost (dying c.args.store.now
      c.args.doomed.now)) (c.requires.backup ∙ c.in-Dead.is));
}

pub kill-requires-then-has-clause-dies : goal.kill-requires-then-has-clause-dies
kill-requires-then-has-clause-dies c =
    let found : has c.args.self.now.dead.items c.in-Port.notify
    ≡ true = sym (c.requires.kept.same c.in-Port.notify) ∙ (sym c.has.ensures
    ∙ c.if-has.true) in
    loses_dies c.args.store.now c.args.doomed.now c.args.port c.requires.loses (ap (is_lost (dying
    c.args.store.now c.args.doomed.now)) (c.requires.backup ∙ c.in-Port.is)
    ∙ c.requires.kept.sound c.in-Port.notify found)

pub returns-in_ok-wait-in-Port-clause-settled : goal.returns-in_ok-wait-in-Port-clause-settled
returns-in_ok-wait-in-Port-clause-settled c =
    let e = c.in_ok-wait-in-Port.ensures in
    is_waiting c.in-Port.notify (c.requires.backup ∙ c.in-Port.is) (ap (λ xs. has xs
    c.in-Port.notify) e.dead ∙ sym (c.requires.kept.same c.in-Port.notify) ∙ (sym c.has.ensures
    ∙ c.if-has.false)) e.waits
