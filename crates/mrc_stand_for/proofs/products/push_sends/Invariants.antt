-- What was added so far.
use Rattle.std.proofs.Common.{◌≡◌, take, map, ◌++◌}
use Rattle.mrc_stand_for.specs.Products.{send_line}
use Rattle.mrc_stand_for.proofs.products.push_sends.Given as goal

abbrev pub invariant-loop-place : goal.invariant-loop-place
invariant-loop-place l =
    l.lines ≡ l.fn.lines ++ map (send_line l.holder) (take l.place-index l.places)
