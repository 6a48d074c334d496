use Rattle.std.proofs.Common.{sym, ◌∙◌}
use Rattle.mrc_ports.proofs.TableLaws.{add_undone}
use Rattle.mrc_ports.proofs.store.Store.add_home.Goals as goal

pub returns-in-Err-clause-err : goal.returns-in-Err-clause-err
returns-in-Err-clause-err c =
    add_undone c.self.inside.spaces _ _ c.self.inside.table _ c.args.self.now c.from-key.result
    c.in-Some.task _ c.self.view_is (sym c.next_task.ensures ∙ c.in-Some.is)
    (c.from-key.ensures ∙ c.task.view_is) c.in_ok-insert.ensures.ok c.remove.ensures
    c.in-Err.ensures.err
