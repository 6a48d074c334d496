use Rattle.mrc_wiring.specs.Table.{wiring_of}
use Rattle.mrc_closure.proofs.Barring.{IsBarring}
use Rattle.mrc_closure.proofs.barred.rounds_into.Given as goal

abbrev pub invariant-loop : goal.invariant-loop
invariant-loop l = IsBarring (wiring_of l.rules) l.barred l.facts l.order.items l.new
