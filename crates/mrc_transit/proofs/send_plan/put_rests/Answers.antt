use Rattle.std.proofs.Common.{sym, ap, ◌∙◌, subst}
use Rattle.std.specs.Prelude.{unwrap_or}
use Rattle.mrc_model.specs.Map.{empty}
use Rattle.mrc_model.specs.World.{set_space}
use Rattle.mrc_names.specs.Leaving.{patched, AreRests}
use Rattle.mrc_ports.proofs.TableLaws.{put_twice}
use Rattle.mrc_transit.proofs.send_plan.put_rests.Goals as goal

pub apply-requires : goal.apply-requires
apply-requires c =
    subst (λ x. AreRests x c.args.rests.now.changes)
    (ap (λ o. unwrap_or o empty) (sym (c.put_space-space.ensures.put c.requires.there).0))
    c.requires.rests

pub returns : goal.returns
returns c =
    let both = put_twice c.args.store.now c.put_space-space.new.self c.put_space.new.self
    c.args.task
    c.put_space-space.result c.apply.new.self c.new.result c.requires.there
    c.put_space-space.ensures.put
    (λ there. (c.put_space.ensures.put there).1) in
    both.1 ∙ ap (set_space c.args.store.now c.args.task) (c.apply.ensures
    ∙ ap (λ o. patched (unwrap_or o empty) c.args.rests.now.changes) (sym both.0))
