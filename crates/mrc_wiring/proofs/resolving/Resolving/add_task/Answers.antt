use Rattle.std.proofs.Common.{rules, sym, subst}
use Rattle.mrc_wiring.specs.State.{IsState}
use Rattle.mrc_wiring.proofs.StateLemmas.{task_kept, fresh_count}
use Rattle.mrc_wiring.proofs.resolving.Resolving.add_task.Goals as goal

-- the next task has no name yet
pub put_task-requires-clause-few : goal.put_task-requires-clause-few
put_task-requires-clause-few c = fresh_count c.args.self.now c.requires (search rules)

-- a name that no task has yet is one more task
pub returns-clause-kept : goal.returns-clause-kept
returns-clause-kept c =
    subst IsState (sym c.in_ok-put_task.ensures.exact) (task_kept c.args.self.now c.args.name.now
    c.put_task.new.self.given c.requires (search rules) (search rules) (search rules)
    c.in_ok-put_task.ensures.given)
