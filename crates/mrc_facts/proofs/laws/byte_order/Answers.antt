use Rattle.mrc_facts.proofs.Bytes.{in_byte_order}
use Rattle.mrc_facts.proofs.laws.byte_order.Goals as goal

pub returns : goal.returns
returns c = in_byte_order
