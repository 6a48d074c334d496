use Rattle.mrc_model.proofs.derivations_are_least.Goals as goal
use Rattle.std.specs.Prelude.{[]}
use Rattle.mrc_model.proofs.Deriving.{derived_in}

pub returns : goal.returns
returns c =
    record {
      least = λ W instances f is set closed. derived_in W set closed [] instances f
          (λ p m. elim m [ ]) is.derives is.concludes;
    }
