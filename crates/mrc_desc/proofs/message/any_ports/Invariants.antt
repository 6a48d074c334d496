use Rattle.std.proofs.Common.{◌≡◌, drop}
use Rattle.mrc_model.specs.Message.{any_port_arg}
use Rattle.mrc_desc.specs.View.{arguments_of}
use Rattle.mrc_desc.proofs.message.any_ports.Given as goal

abbrev pub invariant-loop-argument : goal.invariant-loop-argument
invariant-loop-argument l = any_port_arg (arguments_of (drop l.argument-index l.args))
    ≡ any_port_arg (arguments_of l.args)
