use Rattle.std.proofs.Common.{subst}
use Rattle.std.specs.Prelude.{IfOk}
use Rattle.mrc_facts.specs.Sets.{has}
use Rattle.mrc_classes.specs.Missing.{IsAnswer}
use Rattle.mrc_wiring.specs.Table.{Table, wiring_of}
use Rattle.mrc_check.proofs.verdict.first_missing.Goals as goal

-- the table of the wiring is that of the claim
pub returns : goal.returns
returns g c =
    subst (λ (t : Table). IfOk c.violation_by.result
    (IsAnswer (wiring_of t) (has c.args.draft.now.facts))) c.wired.ensures c.violation_by.ensures
