use Rattle.std.proofs.Common.{◌≡◌, sym, ap, subst, ◌∙◌}
use Rattle.mrc_model.specs.World.{space}
use Rattle.mrc_names.specs.Leaving.{AreRests}
use Rattle.mrc_transit.specs.Staging.{Scratch, staged, taken_of}
use Rattle.mrc_transit.proofs.ApplyLaws.{put_staged}
use Rattle.mrc_transit.proofs.scratch.Scratch.put.Goals as goal

pub put_rests-requires-clause-rests : goal.put_rests-requires-clause-rests
put_rests-requires-clause-rests c =
    subst (λ (k : Scratch). AreRests (space c.args.store.now c.args.task) k.rests)
    (sym c.self.view_is) c.requires.rests

pub returns : goal.returns
returns c =
    put_staged c.args.store.now c.put_rests.new.store c.restart_each.new.store c.args.task
    (space c.args.store.now c.args.task) record {
      rests = c.self.inside.rests.changes;
      moved = c.self.inside.moved.items;
      items = c.self.inside.items.items;
    } c.put_rests.ensures _ c.restart_each.ensures
    c.deref.ensures.value
    ∙ ap (λ (k : Scratch). staged c.args.store.now c.args.task
    (taken_of (space c.args.store.now c.args.task) k)) c.self.view_is
