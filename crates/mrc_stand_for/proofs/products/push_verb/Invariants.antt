-- What was added so far.
use Rattle.std.proofs.Common.{◌≡◌, take, ◌++◌, map}
use Rattle.std.specs.List.{flat_map}
use Rattle.mrc_stand_for.specs.Products.{trust_line}
use Rattle.mrc_stand_for.proofs.products.push_verb.Given as goal

abbrev pub invariant-loop-right : goal.invariant-loop-right
invariant-loop-right l =
    l.lines ≡ l.fn.lines
    ++ flat_map (λ right. map (trust_line l.task l.verb right) l.classes)
    (take l.right-index l.rights)
