use Rattle.std.proofs.Common.{sym, subst}
use Rattle.mrc_model.specs.Covers.{IsWellFormed}
use Rattle.mrc_model.specs.Wiring.{numbers_of}
use Rattle.mrc_wiring.specs.Table.{wiring_of}
use Rattle.mrc_machine.proofs.StepLaws.{first_is, first_spaces}
use Rattle.mrc_machine.proofs.world.World.first.Goals as goal

pub returns-in-Ok-clause-exact : goal.returns-in-Ok-clause-exact
returns-in-Ok-clause-exact c =
    first_is (wiring_of c.args.wired.now) c.in-Ok.start _ c.in-Ok.ensures.ok c.into_state.ensures

pub returns-in-Ok-clause-well_formed : goal.returns-in-Ok-clause-well_formed
returns-in-Ok-clause-well_formed c =
    let W = wiring_of c.args.wired.now in
    subst (IsWellFormed (numbers_of W))
    (sym (first_is W c.in-Ok.start _ c.in-Ok.ensures.ok c.into_state.ensures))
    (c.first_covered.ensures.covered W c.tasks-sound.ensures.sound).0

pub invariant_of-result : goal.invariant_of-result
invariant_of-result c =
    first_spaces (wiring_of c.args.wired.now) _
    (first_is (wiring_of c.args.wired.now) c.in-Ok.start _ c.in-Ok.ensures.ok c.into_state.ensures)
