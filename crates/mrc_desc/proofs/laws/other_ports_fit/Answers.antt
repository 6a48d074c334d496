use Rattle.std.proofs.Common.{arith}
use Rattle.mrc_desc.proofs.Others.{others_size, other_message_lawful}
use Rattle.mrc_desc.proofs.laws.other_ports_fit.Goals as goal

pub returns-clause-lawful : goal.returns-clause-lawful
returns-clause-lawful c = λ m other lawful fits is. other_message_lawful m other lawful fits is

pub returns-clause-size : goal.returns-clause-size
returns-clause-size c = λ m other lawful is.
    omega (arith, others_size m.args other.args lawful.args.0 is)
