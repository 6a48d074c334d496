use Rattle.std.proofs.Common.{refl, sym, subst, ◌∙◌}
use Rattle.mrc_map.specs.Rooms.{AreEntries}
use Rattle.mrc_names.specs.Leaving.{Rests}
use Rattle.mrc_names.proofs.LeavingLaws.{can_patch, patch_end, patched_is}
use Rattle.mrc_names.proofs.space.Space.apply.Goals as goal

pub loop-change-init : goal.loop-change-init
loop-change-init c = record {
  can = can_patch c.args.self.now c.args.rests.now.changes c.into_iter-change-iterator.result
      c.requires
      (subst (λ (r : Rests). AreEntries c.into_iter-change-iterator.result r.changes)
      c.rests.view_is
      (subst (λ l. AreEntries l c.rests.inside.rests.map)
      (sym c.into_iter-change-iterator.ensures.into_iter_gives) c.iter-change-items.ensures));
  same = refl;
}

pub returns : goal.returns
returns c =
    patch_end c.loop-change.change-iterator c.loop-change.self _ c.in-None.ensures.steps.0
    c.loop-change.invariant.same
    ∙ patched_is c.args.self.now c.args.rests.now.changes c.into_iter-change-iterator.result
    (subst (λ (r : Rests). AreEntries c.into_iter-change-iterator.result r.changes)
    c.rests.view_is
    (subst (λ l. AreEntries l c.rests.inside.rests.map)
    (sym c.into_iter-change-iterator.ensures.into_iter_gives) c.iter-change-items.ensures))
