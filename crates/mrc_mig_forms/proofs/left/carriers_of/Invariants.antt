use Rattle.std.proofs.Common.{◌≡◌, map, take}
use Rattle.mrc_mig_rows.specs.Carried.{carrier_of}
use Rattle.mrc_mig_forms.proofs.left.carriers_of.Given as goal

abbrev pub invariant-loop-argument : goal.invariant-loop-argument
invariant-loop-argument l =
    l.carriers.items ≡ map carrier_of (take l.argument-index l.carried)
