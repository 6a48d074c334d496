-- What was read is a wiring that says so, and what a wiring says is read.
use Rattle.mrc_wiring_text.specs.declared.reading.TextKind.TheVariants as kinds
use Rattle.mrc_wiring_text.specs.Wiring.{wiring_says}
use Rattle.mrc_wiring_text.proofs.OtherLaws.{not_told}
use Rattle.mrc_wiring_text.proofs.TextLaws.{found_in, read_by}
use Rattle.mrc_wiring_text.proofs.wiring.read_wiring.Goals as goal

pub returns-clause-found : goal.returns-clause-found
returns-clause-found c =
    found_in kinds.Wiring wiring_says c.args.bytes.now (λ lines. lines.items) c.wiring_of.result
    c.wiring_of.ensures.fault

pub returns-clause-only : goal.returns-clause-only
returns-clause-only c =
    λ says is. read_by kinds.Wiring wiring_says c.args.bytes.now (λ lines. lines.items)
    c.wiring_of.result says c.wiring_of.ensures.fault is

pub returns-clause-text : goal.returns-clause-text
returns-clause-text c =
    not_told kinds.Wiring wiring_says c.args.bytes.now (λ lines. lines.items) c.wiring_of.result
    c.wiring_of.ensures.fault
