use Rattle.mrc_mig_symbols.specs.Readers.{left}
use Rattle.mrc_mig_symbols.specs.ExpressionStops.{read_expression, expression_stop}
use Rattle.mrc_mig_symbols.proofs.PlacedLemmas.{exact_from, stop_from}
use Rattle.mrc_mig_symbols.proofs.expressions.expression.Goals as goal

pub returns-clause-exact : goal.returns-clause-exact
returns-clause-exact c =
    exact_from (λ x. (x.0, left x.1)) c.read_expression.result (left c.args.rest)
    c.read_expression.ensures

pub returns-clause-fault : goal.returns-clause-fault
unfolding expression_stop
returns-clause-fault c =
    stop_from (λ x. (x.0, left x.1)) c.read_expression.result
    (read_expression (left c.args.rest)) c.read_expression.ensures
