use Rattle.std.proofs.Common.{◌∙◌, ap, ◌==◌, ◌&&◌, not}
use Rattle.mrc_index.specs.Pairs.{has_pair}
use Rattle.mrc_index.proofs.PairLaws.{pair_out}
use Rattle.mrc_index.proofs.pairs.Pairs.remove.Goals as goal

pub returns : goal.returns
returns c = λ p n.
    pair_out c.remove.new.self.keys c.self.inside.pairs.keys c.args.port c.args.name p n
    (c.remove.ensures.updates.0 (p, n))
    ∙ ap (λ z. not (c.args.port == p && c.args.name == n) && has_pair z p n) c.self.view_is
