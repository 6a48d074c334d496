-- What was read is a policy that says so, and what a policy says is read.
use Rattle.mrc_wide_policy.proofs.OtherLemmas.{not_told}
use Rattle.mrc_wide_policy.proofs.TextLemmas.{found_in, read_by, older_told}
use Rattle.mrc_wide_policy.proofs.reading.read_wide_policy.Goals as goal

pub returns-clause-found : goal.returns-clause-found
returns-clause-found c =
    found_in c.args.bytes.now (λ lines. lines.items) c.wide_policy_of.result
    c.wide_policy_of.ensures.fault

pub returns-clause-only : goal.returns-clause-only
returns-clause-only c =
    λ says is. read_by c.args.bytes.now (λ lines. lines.items) c.wide_policy_of.result says
    c.wide_policy_of.ensures.fault is

pub returns-clause-older : goal.returns-clause-older
returns-clause-older c =
    λ says is. older_told c.args.bytes.now (λ lines. lines.items) c.wide_policy_of.result says
    c.wide_policy_of.ensures.fault is

pub returns-clause-text : goal.returns-clause-text
returns-clause-text c =
    not_told c.args.bytes.now (λ lines. lines.items) c.wide_policy_of.result
    c.wide_policy_of.ensures.fault
