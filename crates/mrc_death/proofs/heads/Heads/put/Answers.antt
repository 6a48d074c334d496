use Rattle.std.proofs.Common.{◌∙◌, ap, ◌==◌, if◌then◌else◌}
use Rattle.mrc_death.specs.Heads.{head_at}
use Rattle.mrc_death.proofs.Words.{head_after}
use Rattle.mrc_death.proofs.heads.Heads.put.Goals as goal

pub returns : goal.returns
returns c = λ q.
    head_after c.insert.new.self.entries c.self.inside.places.entries c.port.inside.0 q c.args.link
    (c.in_ok-insert.ensures.updates.0 q)
    ∙ ap (λ es. if c.port.inside.0 == q then c.args.link else head_at es q) c.self.view_is
    ∙ ap (λ p. if p == q then c.args.link else head_at c.args.self.now q) c.port.view_is
