use Rattle.std.proofs.Common.{◌≤◌, sym, subst, arith, length}
use Rattle.mrc_model.specs.World.{Port}
use Rattle.mrc_ports.specs.Tables.{IsSound}
use Rattle.mrc_ports.proofs.TableLaws.{unborn, born_sound}
use Rattle.mrc_ports.proofs.table.PortTable.birth.Goals as goal

pub add-requires : goal.add-requires
add-requires c =
    unborn c.self.inside.next c.self.inside.longest c.self.inside.ports c.self.invariant

pub invariant_of-self : goal.invariant_of-self
invariant_of-self c =
    subst (IsSound c.self.inside.next c.self.inside.longest) (sym c.in_err-add.ensures.err)
    c.self.invariant

pub invariant_of-self-2 : goal.invariant_of-self-2
invariant_of-self-2 c =
    born_sound c.self.inside.next c.self.inside.longest c.self.inside.ports c.add.new.self
    c.new.result c.self.invariant
    (subst (λ (x : Port). length x.queue ≤ c.self.inside.longest) (sym c.new.ensures) (omega arith))
    c.in_ok-add.ensures.ok
