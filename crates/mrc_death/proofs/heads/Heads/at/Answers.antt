use Rattle.std.proofs.Common.{◌∙◌, ap, unwrap_or}
use Rattle.mrc_death.specs.Heads.{head_at}
use Rattle.mrc_death.proofs.Words.{head_is}
use Rattle.mrc_death.proofs.heads.Heads.at.Goals as goal

pub returns : goal.returns
returns c =
    c.unwrap_or.ensures
    ∙ ap (λ o. unwrap_or o 0) (c.copied.ensures ∙ c.get.ensures.value)
    ∙ head_is c.self.inside.places.entries c.port.inside.0
    ∙ ap (λ es. head_at es c.port.inside.0) c.self.view_is
    ∙ ap (head_at c.args.self.now) c.port.view_is
