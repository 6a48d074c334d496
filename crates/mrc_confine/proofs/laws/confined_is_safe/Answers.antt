use Rattle.std.proofs.Common.{subst, IsTrue}
use Rattle.mrc_confine.proofs.Safe.{accepted_safe}
use Rattle.mrc_confine.proofs.laws.confined_is_safe.Goals as goal
use Rattle.mrc_model.specs.First.{is_sound}
use Rattle.mrc_wiring.specs.Table.{Table, wiring_of}

-- a wiring keeps in its type that no line is refused
pub returns : goal.returns
returns c =
    let case = c.args.confined.now in
    let sound =
    subst (λ (table : Table). IsTrue (is_sound (wiring_of table))) c.wired.ensures.exact
    c.tasks-tasks.ensures.sound in
    record { safe = accepted_safe case.claim case.draft sound c.wired.ensures.kept }
