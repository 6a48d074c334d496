use Rattle.mrc_machine.proofs.state.add_home.Goals.{in-Ok, in-Err}
use Rattle.mrc_machine.proofs.state.add_home.Goals as goal

pub returns-clause-added : goal.returns-clause-added
returns-clause-added c = elim c.match-add_task.branch [
  | in-Ok w ↦ rw w.result-is w.in-Ok.ensures.added
  | in-Err w ↦ rw w.result-is tt
]

pub returns-clause-err : goal.returns-clause-err
returns-clause-err c = elim c.match-add_task.branch [
  | in-Ok w ↦ rw w.result-is tt
  | in-Err w ↦ rw w.result-is w.in-Err.ensures.err
]
