use Rattle.std.proofs.Common.{if◌then◌else◌, [], ◌==◌, refl, ap, ◌∙◌}
use Rattle.mrc_death.specs.Search.{Step, Linked}
use Rattle.mrc_death.specs.declared.search.Search.{Search}
use Rattle.mrc_death.proofs.Keeping.{waited}
use Rattle.mrc_death.specs.declared.search.Link.{Link}
use Rattle.mrc_death.specs.Heads.{head_at}
use Rattle.mrc_death.proofs.search.Search.wait.Goals as goal

both : (c : goal.In_ok-put) → Step c.args.store.now c.args.doomed.now [] c.args.self.now (record {
  dead = c.args.self.now.dead;
  done = c.args.self.now.done;
  seen = c.args.self.now.seen;
  gone =
      c.args.self.now.gone;
  heads = c.put.new.self;
  links = c.push.new.self;
})
    × Linked c.push.new.self.items c.args.backup (head_at c.put.new.self c.args.backup) c.args.port
both c =
    let z = c.args.self.now in
    let b : Search = record {
      dead = z.dead;
      done = z.done;
      seen = z.seen;
      gone = z.gone;
      heads =
          c.put.new.self;
      links = c.push.new.self;
    } in
    let e : Link = record {
      port = c.args.port;
      backup = c.args.backup;
      before = c.at-before.result;
    } in
    waited c.args.store.now c.args.doomed.now z b c.args.port c.args.backup e c.requires.kept
    c.requires.loses c.requires.backup refl refl c.at-before.ensures c.in_ok-push.ensures.items
    (λ q. c.in_ok-put.ensures q ∙ ap (λ n. if c.args.backup == q then n else head_at z.heads q)
    (c.len.ensures ∙ c.push.new.self.ok.0)) refl refl refl refl

pub returns-clause-step : goal.returns-clause-step
returns-clause-step c = (both c).0

pub returns-clause-waits : goal.returns-clause-waits
returns-clause-waits c = (both c).1
