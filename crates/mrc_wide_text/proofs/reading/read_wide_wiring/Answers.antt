-- What was read is a wiring that says so, and what a wiring says is read.
use Rattle.mrc_wide_text.proofs.OlderLaws.{older_told}
use Rattle.mrc_wide_text.proofs.OtherLaws.{not_told}
use Rattle.mrc_wide_text.proofs.TextLaws.{found_in, read_by}
use Rattle.mrc_wide_text.proofs.reading.read_wide_wiring.Goals as goal

pub returns-clause-found : goal.returns-clause-found
returns-clause-found c =
    found_in c.args.bytes.now (λ lines. lines.items) c.wide_wiring_of.result
    c.wide_wiring_of.ensures.fault

pub returns-clause-only : goal.returns-clause-only
returns-clause-only c =
    λ says is. read_by c.args.bytes.now (λ lines. lines.items) c.wide_wiring_of.result says
    c.wide_wiring_of.ensures.fault is

pub returns-clause-older : goal.returns-clause-older
returns-clause-older c =
    λ says is. older_told c.args.bytes.now (λ lines. lines.items) c.wide_wiring_of.result says
    c.wide_wiring_of.ensures.fault is

pub returns-clause-text : goal.returns-clause-text
returns-clause-text c =
    not_told c.args.bytes.now (λ lines. lines.items) c.wide_wiring_of.result
    c.wide_wiring_of.ensures.fault
