-- What was read is said so, and what is said is read.
use Rattle.mrc_wide_text.proofs.SaidLaws.{found_in, read_by}
use Rattle.mrc_wide_text.proofs.wirings.read_said.Goals as goal

pub returns-clause-found : goal.returns-clause-found
returns-clause-found c =
    found_in c.args.wiring.now (λ said. said) c.said_of.result c.said_of.ensures

pub returns-clause-only : goal.returns-clause-only
returns-clause-only c =
    λ said is. read_by c.args.wiring.now (λ s. s) c.said_of.result said c.said_of.ensures is
