use Rattle.std.proofs.Common.{List, length, arith, ap}
use Rattle.std.proofs.lemmas.List.{length-map}
use Rattle.mrc_wiring.specs.declared.births.BirthRow.{BirthRow}
use Rattle.mrc_wiring.specs.Births.{pair_of}
use Rattle.mrc_wiring.proofs.BirthLaws.{few_births}
use Rattle.mrc_wiring.proofs.Numbered.{births_enough}
use Rattle.mrc_wiring.proofs.wired.Wired.birth_classes.Goals as goal

pub overflow_cast-result : goal.overflow_cast-result
overflow_cast-result c =
    let table = c.args.self.now in
    let few = few_births (length table.names) table.births c.tasks-kept.ensures.kept.births
    c.births.ensures.kinds in
    let tasks = c.tasks-kept.ensures.kept.few_tasks in
    let rows = ap (λ (rs : List BirthRow). length rs) c.births.ensures.exact in
    omega arith

pub returns-clause-within : goal.returns-clause-within
returns-clause-within c =
    let table = c.args.self.now in
    let few = few_births (length table.names) table.births c.tasks-kept.ensures.kept.births
    c.births.ensures.kinds in
    let tasks = c.tasks-kept.ensures.kept.few_tasks in
    let rows = ap (λ (rs : List BirthRow). length rs) c.births.ensures.exact in
    omega arith

pub returns-clause-exact : goal.returns-clause-exact
returns-clause-exact c =
    let rows = ap (λ (rs : List BirthRow). length rs) c.births.ensures.exact in
    omega (arith, length-map c.args.self.now.births pair_of)

pub returns-clause-enough : goal.returns-clause-enough
returns-clause-enough c =
    let table = c.args.self.now in
    let enough = births_enough (length table.names) table.births c.tasks-kept.ensures.kept.births in
    let rows = ap (λ (rs : List BirthRow). length rs) c.births.ensures.exact in
    omega arith
