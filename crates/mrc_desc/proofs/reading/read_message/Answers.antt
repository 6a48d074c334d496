use Rattle.std.proofs.Common.{Ok, arith}
use Rattle.mrc_base.proofs.Steps.{gives_same}
use Rattle.mrc_desc.specs.Reading.{message_at}
use Rattle.mrc_desc.proofs.Whole.{is_found, message_again}
use Rattle.mrc_desc.proofs.reading.read_message.Goals as goal

pub returns-clause-found : goal.returns-clause-found
returns-clause-found c = is_found c.args.bytes.now c.message_at.result
    (λ i. omega (arith, c.type_inv.bytes i)) c.message_at.ensures.fault

pub returns-clause-only : goal.returns-clause-only
returns-clause-only c = λ m spelled.
    gives_same (λ m. m) c.message_at.result (message_at c.args.bytes.now) (Ok m)
    (message_again c.args.bytes.now m spelled)
    c.message_at.ensures.fault
