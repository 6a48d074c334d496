use Rattle.mrc_wiring.specs.Table.{wiring_of}
use Rattle.mrc_model.specs.Wiring.{form_shapes}
use Rattle.mrc_transit.proofs.ArgumentLaws.{ArgsAre}
use Rattle.mrc_transit.proofs.scratch.Scratch.take_args.Given as goal

-- the items so far are those of the arguments so far
abbrev pub invariant-loop-i : goal.invariant-loop-i
invariant-loop-i l =
    ArgsAre (wiring_of l.wired) l.own (form_shapes l.form.found.now) l.store l.space l.fn.self
    l.self l.i l.arguments
