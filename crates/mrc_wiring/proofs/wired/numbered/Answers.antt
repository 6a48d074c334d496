use Rattle.std.proofs.Common.{List, length, arith, ap}
use Rattle.mrc_wiring.specs.declared.births.BirthRow.{BirthRow}
use Rattle.mrc_wiring.specs.State.{State}
use Rattle.mrc_wiring.proofs.BirthLaws.{few_births}
use Rattle.mrc_wiring.proofs.wired.numbered.Goals as goal

-- each task has few kinds of births
pub of-requires-clause-births : goal.of-requires-clause-births
of-requires-clause-births c =
    let table = c.args.table.now.table in
    let few = few_births (length table.names) table.births c.requires.is_table.births
    c.requires.kinds in
    let tasks = c.requires.is_table.few_tasks in
    let rows = ap (λ (rs : List BirthRow). length rs) c.deref.ensures.value in
    let seen = ap (λ (s : State). length s.table.births) c.table.view_is in
    omega arith

pub trusting-requires-clause-births : goal.trusting-requires-clause-births
trusting-requires-clause-births c =
    let table = c.args.table.now.table in
    let few = few_births (length table.names) table.births c.requires.is_table.births
    c.requires.kinds in
    let tasks = c.requires.is_table.few_tasks in
    let rows = ap (λ (rs : List BirthRow). length rs) c.deref-3.ensures.value in
    let seen = ap (λ (s : State). length s.table.births) c.table.view_is in
    omega arith
