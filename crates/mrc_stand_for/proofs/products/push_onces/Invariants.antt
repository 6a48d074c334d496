-- What was added so far.
use Rattle.std.proofs.Common.{◌≡◌, take, map, ◌++◌}
use Rattle.mrc_stand_for.specs.Products.{once_line}
use Rattle.mrc_stand_for.proofs.products.push_onces.Given as goal

abbrev pub invariant-loop-port : goal.invariant-loop-port
invariant-loop-port l =
    l.lines ≡ l.fn.lines ++ map (once_line l.holder) (take l.port-index l.ports)
