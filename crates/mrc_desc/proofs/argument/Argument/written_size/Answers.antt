use Rattle.std.proofs.Common.{arith}
use Rattle.mrc_desc.specs.View.{argument_of}
use Rattle.mrc_desc.proofs.Descriptors.{length-arg_bytes}
use Rattle.mrc_desc.proofs.argument.Argument.written_size.Goals as goal

pub returns : goal.returns
returns c = grind (arith, length-arg_bytes (argument_of c.args.self.now) c.requires)
