-- What was added so far.
use Rattle.std.proofs.Common.{◌≡◌, take, map}
use Rattle.std.specs.List.{flat_map}
use Rattle.mrc_stand_for.specs.Products.{once_line}
use Rattle.mrc_stand_for.proofs.products.once_lines.Given as goal

abbrev pub invariant-loop-holder : goal.invariant-loop-holder
invariant-loop-holder l =
    l.lines ≡ flat_map (λ holder. map (once_line holder) l.ports) (take l.holder-index l.tasks)
