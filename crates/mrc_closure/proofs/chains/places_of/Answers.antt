use Rattle.mrc_closure.proofs.Placing.{no_places}
use Rattle.mrc_classes.specs.declared.instances.FewFacts.TheVariants.{One, Two}
use Rattle.mrc_closure.proofs.chains.places_of.Goals as goal

pub returns-in_err-place_of-in-One-clause-none : goal.returns-in_err-place_of-in-One-clause-none
returns-in_err-place_of-in-One-clause-none c =
    no_places c.from_residual.result c.args.steps.now (One c.in-One.fact) c.args.premises
    c.in-One.is (λ all. c.in_err-place_of-in-One.ensures.none all.0.0 all.0.1)

pub returns-in_err-place_of-in-Two-clause-none : goal.returns-in_err-place_of-in-Two-clause-none
returns-in_err-place_of-in-Two-clause-none c =
    no_places c.from_residual-in_err-place_of-in-Two.result c.args.steps.now
    (Two c.in-Two.one c.in-Two.other) c.args.premises c.in-Two.is
    (λ all. c.in_err-place_of-in-Two.ensures.none all.0.0 all.0.1)

pub returns-in_err-place_of-in-Two-2-clause-none : goal.returns-in_err-place_of-in-Two-2-clause-none
returns-in_err-place_of-in-Two-2-clause-none c =
    no_places c.from_residual-in_err-place_of-in-Two-2.result c.args.steps.now
    (Two c.in-Two.one c.in-Two.other) c.args.premises c.in-Two.is
    (λ all. c.in_err-place_of-in-Two-2.ensures.none all.1.0.0 all.1.0.1)
