use Rattle.mrc_mig_types.proofs.FlagLemmas.{spelled_is}
use Rattle.mrc_mig_rows.proofs.kinds.is_spelled.Goals as goal

pub returns : goal.returns
returns c =
    spelled_is c.args.name.now c.args.word.now c.eq_ignore_ascii_case.result c.requires
    (λ e. c.eq_ignore_ascii_case.ensures.test.0 e) (λ e. c.eq_ignore_ascii_case.ensures.test.1 e)
