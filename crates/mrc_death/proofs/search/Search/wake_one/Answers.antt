use Rattle.std.proofs.Common.{◌≡◌, sym, ap, ◌∙◌, eqb-true}
use Rattle.mrc_model.specs.Death.{has, is_lost, dying}
use Rattle.mrc_death.proofs.Keeping.{loses_dies}
use Rattle.mrc_death.proofs.search.Search.wake_one.Goals as goal

pub kill-requires-clause-dies : goal.kill-requires-clause-dies
kill-requires-clause-dies c =
    let D = dying c.args.store.now c.args.doomed.now in
    let same : c.args.link.backup ≡ c.args.backup = eqb-true c.args.link.backup c.args.backup (sym
    c.eq.ensures ∙ c.if-eq.true) in
    loses_dies c.args.store.now c.args.doomed.now c.args.link.port c.requires.loses (ap (is_lost D)
    c.requires.backup ∙ ap (has D) same ∙ c.requires.kept.sound c.args.backup c.requires.found)
