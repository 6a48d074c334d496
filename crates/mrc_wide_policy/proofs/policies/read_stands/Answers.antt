-- What was read is what the policy stands for, and what it stands for is read.
use Rattle.mrc_wide_policy.proofs.StandLemmas.{found_in, read_by}
use Rattle.mrc_wide_policy.proofs.policies.read_stands.Goals as goal

pub returns-clause-found : goal.returns-clause-found
returns-clause-found c =
    found_in c.args.known c.args.policy.now (λ stands. stands) c.stands_of.result
    c.stands_of.ensures

pub returns-clause-only : goal.returns-clause-only
returns-clause-only c =
    λ stands is. read_by c.args.known c.args.policy.now (λ s. s) c.stands_of.result stands
    c.stands_of.ensures is
