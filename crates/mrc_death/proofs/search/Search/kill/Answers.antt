use Rattle.std.proofs.Common.{◌==◌, refl, sym, ap, ◌∙◌, eq-eqb}
use Rattle.std.proofs.lemmas.Bool.{not-false, not-true}
use Rattle.mrc_model.specs.Death.{has}
use Rattle.mrc_death.specs.declared.search.Search.{Search}
use Rattle.mrc_death.proofs.Keeping.{killed, killed_before, has_push}
use Rattle.std.proofs.lemmas.Bool.{or_right}
use Rattle.mrc_death.proofs.search.Search.kill.Goals as goal

pub returns-in_ok-push-clause-step : goal.returns-in_ok-push-clause-step
returns-in_ok-push-clause-step c =
    let z = c.args.self.now in
    let b : Search = record {
      dead = c.push.new.self;
      done = z.done;
      seen = c.insert.new.self;
      gone
          = z.gone;
      heads = z.heads;
      links = z.links;
    } in
    killed c.args.store.now c.args.doomed.now z b c.args.port c.requires.kept c.requires.dies
    (not-true (has z.seen c.args.port) (sym c.in_ok-insert.ensures.new ∙ c.if-branch.true))
    c.in_ok-push.ensures.items c.in_ok-insert.ensures.ok refl refl refl refl

pub returns-in_ok-push-clause-dead : goal.returns-in_ok-push-clause-dead
returns-in_ok-push-clause-dead c =
    ap (λ xs. has xs c.args.port) c.in_ok-push.ensures.items
    ∙ has_push c.args.self.now.dead.items c.args.port c.args.port
    ∙ or_right (has c.args.self.now.dead.items c.args.port) (c.args.port == c.args.port)
    (eq-eqb c.args.port c.args.port refl)

pub returns-else-branch-clause-step : goal.returns-else-branch-clause-step
returns-else-branch-clause-step c =
    let z = c.args.self.now in
    killed_before c.args.store.now c.args.doomed.now z c.insert.new.self c.args.port
    c.requires.kept (not-false (has z.seen c.args.port)
    (sym c.in_ok-insert.ensures.new ∙ c.if-branch.false)) c.in_ok-insert.ensures.ok

pub returns-else-branch-clause-dead : goal.returns-else-branch-clause-dead
returns-else-branch-clause-dead c = sym (c.requires.kept.same c.args.port)
    ∙ not-false (has c.args.self.now.seen c.args.port)
    (sym c.in_ok-insert.ensures.new ∙ c.if-branch.false)
