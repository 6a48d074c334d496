use Rattle.std.proofs.Common.{◌∙◌, List, ap, false, sym}
use Rattle.mrc_check.specs.declared.demands.Demand.{Demand}
use Rattle.mrc_why.specs.Answered.{has_line}
use Rattle.mrc_answer.proofs.VerdictLaws.{told_at}
use Rattle.mrc_answer.proofs.mend.is_untold_of.Goals as goal

pub returns : goal.returns
returns c = λ is.
    told_at c.args.stated.now c.in_ok-found.found c.args.number false c.in_ok-found.ensures
    (ap (λ (ds : List Demand). has_line ds c.args.number) (sym c.as_slice.ensures.value)
    ∙ c.in-None.ensures.none)
