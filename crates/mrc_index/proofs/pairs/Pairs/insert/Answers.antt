use Rattle.std.proofs.Common.{◌∙◌, ap, ◌==◌, ◌&&◌, ◌||◌}
use Rattle.mrc_index.specs.Pairs.{has_pair}
use Rattle.mrc_index.proofs.PairLaws.{pair_in}
use Rattle.mrc_index.proofs.pairs.Pairs.insert.Goals as goal

pub returns-clause-ok : goal.returns-clause-ok
returns-clause-ok c = λ p n.
    pair_in c.insert.new.self.keys c.self.inside.pairs.keys c.args.port c.args.name p n
    (c.in_ok-insert.ensures.updates.0 (p, n))
    ∙ ap (λ z. (c.args.port == p && c.args.name == n) || has_pair z p n) c.self.view_is
