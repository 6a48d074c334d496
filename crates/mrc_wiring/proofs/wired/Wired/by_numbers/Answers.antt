use Rattle.std.proofs.Common.{List, length, arith, ap}
use Rattle.mrc_wiring.specs.declared.births.BirthRow.{BirthRow}
use Rattle.mrc_wiring.specs.Table.{Table}
use Rattle.mrc_wiring.proofs.BirthLaws.{few_births}
use Rattle.mrc_wiring.proofs.wired.Wired.by_numbers.Goals as goal

-- each task has few kinds of births
pub of-requires-clause-births : goal.of-requires-clause-births
of-requires-clause-births c =
    let wired = c.self.inside in
    let few = few_births (length wired.names) wired.births.items c.self.invariant.0.births
    c.self.invariant.3 in
    let tasks = c.self.invariant.0.few_tasks in
    let rows = ap (λ (rs : List BirthRow). length rs) c.births.ensures.exact in
    let seen = ap (λ (t : Table). length t.births) c.self.view_is in
    omega arith

pub trusting-requires-clause-births : goal.trusting-requires-clause-births
trusting-requires-clause-births c =
    let wired = c.self.inside in
    let few = few_births (length wired.names) wired.births.items c.self.invariant.0.births
    c.self.invariant.3 in
    let tasks = c.self.invariant.0.few_tasks in
    let rows = ap (λ (rs : List BirthRow). length rs) c.births-2.ensures.exact in
    let seen = ap (λ (t : Table). length t.births) c.self.view_is in
    omega arith
