use Rattle.std.proofs.Common.{Some, None}
use Rattle.mrc_mig_symbols.specs.Readers.{left}
use Rattle.mrc_mig_symbols.proofs.LeftLemmas.{first_left}
use Rattle.mrc_mig_symbols.proofs.symbol.Rest.first.Goals as goal

pub returns-in-Some : goal.returns-in-Some
unfolding left
returns-in-Some c =
    first_left c.args.self.tokens.now c.args.self.at (Some c.in-Some.mark) c.in-Some.ensures

pub returns-in-None : goal.returns-in-None
unfolding left
returns-in-None c = first_left c.args.self.tokens.now c.args.self.at None c.in-None.ensures
