-- What was read is a policy that says so, and what a policy says is read.
use Rattle.mrc_wiring_text.specs.declared.reading.TextKind.TheVariants as kinds
use Rattle.mrc_wiring_text.specs.Policy.{policy_says}
use Rattle.mrc_wiring_text.proofs.OtherLaws.{not_told}
use Rattle.mrc_wiring_text.proofs.TextLaws.{found_in, read_by}
use Rattle.mrc_wiring_text.proofs.policy.read_policy.Goals as goal

pub returns-clause-found : goal.returns-clause-found
returns-clause-found c =
    found_in kinds.Policy policy_says c.args.bytes.now (λ lines. lines.items) c.policy_of.result
    c.policy_of.ensures.fault

pub returns-clause-only : goal.returns-clause-only
returns-clause-only c =
    λ says is. read_by kinds.Policy policy_says c.args.bytes.now (λ lines. lines.items)
    c.policy_of.result says c.policy_of.ensures.fault is

pub returns-clause-text : goal.returns-clause-text
returns-clause-text c =
    not_told kinds.Policy policy_says c.args.bytes.now (λ lines. lines.items) c.policy_of.result
    c.policy_of.ensures.fault
