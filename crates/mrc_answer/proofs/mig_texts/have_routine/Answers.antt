use Rattle.std.proofs.Common.{rules, tests}
use Rattle.std.proofs.lemmas.Iterator.{YieldsList-from_slice}
use Rattle.std.proofs.lemmas.Iterator.Search.{any_from_yields_List}
use Rattle.mrc_answer.specs.MigTexts.{has_routine}
use Rattle.mrc_answer.proofs.mig_texts.have_routine.Goals as goal

pub returns : goal.returns
returns c =
    any_from_yields_List has_routine _ _ _ c.any.ensures.ran
    (YieldsList-from_slice c.args.mig_texts.now cc) (λ x b q k. search (rules, tests))
