use Rattle.std.proofs.Common.{arith}
use Rattle.std.proofs.lemmas.List.{length-map}
use Rattle.mrc_wiring.specs.Births.{pair_of}
use Rattle.mrc_wiring.proofs.wired.Wired.classes.Goals as goal

pub returns-clause-exact : goal.returns-clause-exact
returns-clause-exact c = omega (arith, length-map c.args.self.now.births pair_of)
