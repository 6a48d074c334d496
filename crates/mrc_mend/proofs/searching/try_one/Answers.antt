use Rattle.mrc_mend.proofs.searching.try_one.Goals as goal
use Rattle.mrc_mend.proofs.searching.try_one.Goals.{in-Mends+in_ok-add_mend-in-Mends}
use Rattle.mrc_mend.proofs.searching.try_one.Goals.{in-Fails+in_ok-add_all-in-Fails, in-Senseless}

-- what was found, with the mend if the changes are one
pub returns-clause-mends : goal.returns-clause-mends
returns-clause-mends c =
    elim c.match-verdict.branch [
      | in-Mends+in_ok-add_mend-in-Mends w ↦
          rw (w.found-is, ← c.in_ok-interfaces.ensures.kept) w.in_ok-add_mend-in-Mends.ensures
      | in-Fails+in_ok-add_all-in-Fails w ↦ rw w.found-is c.requires
      | in-Senseless w ↦ rw w.found-is c.requires
    ]
