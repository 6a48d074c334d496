-- The number of a class has 16 bits.
use Rattle.std.proofs.Common.{List, length, arith, ap}
use Rattle.std.proofs.lemmas.List.{length-map}
use Rattle.mrc_wiring.specs.declared.births.BirthRow.{BirthRow}
use Rattle.mrc_wiring.specs.Births.{pair_of}
use Rattle.mrc_wiring.proofs.wired.Wired.class_said.Goals as goal

pub overflow_cast-result : goal.overflow_cast-result
overflow_cast-result c =
    let rows = ap (λ (rs : List BirthRow). length rs) c.births-2.ensures.exact in
    let many = length-map c.args.self.now.births pair_of in
    let few = c.birth_classes-births.ensures.within in
    let count = c.birth_classes-births.ensures.exact in
    let found = c.in_ok-class.ensures.within in
    let number = c.in_ok-said.ensures.within in
    omega arith
