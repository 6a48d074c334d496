use Rattle.std.proofs.Common.{sym, ap, ◌∙◌}
use Rattle.mrc_model.specs.Map.{get}
use Rattle.mrc_names.specs.Leaving.{Rests, patched}
use Rattle.mrc_names.proofs.LeavingLaws.{get_changed, get_unchanged}
use Rattle.mrc_names.proofs.leaving.Rests.get.Goals as goal

pub returns-in-Some : goal.returns-in-Some
returns-in-Some c =
    let m = c.self.inside.rests.map in
    sym (get_changed c.args.space.now m c.from.result c.in-Some.rest.now (sym c.in-Some.ensures))
    ∙ ap (get (patched c.args.space.now m)) c.from.ensures
    ∙ ap (λ (r : Rests). get (patched c.args.space.now r.changes) c.args.name) c.self.view_is

pub returns-in-None : goal.returns-in-None
returns-in-None c =
    let m = c.self.inside.rests.map in
    c.get-in-None.ensures ∙ ap (get c.args.space.now) (sym c.from.ensures)
    ∙ sym (get_unchanged c.args.space.now m c.from.result (sym c.in-None.ensures))
    ∙ ap (get (patched c.args.space.now m)) c.from.ensures
    ∙ ap (λ (r : Rests). get (patched c.args.space.now r.changes) c.args.name) c.self.view_is
