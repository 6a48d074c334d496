-- What was added so far.
use Rattle.std.proofs.Common.{◌≡◌, ◌+◌, ◌++◌, drop}
use Rattle.mrc_stand_for.specs.Products.{reply_lines}
use Rattle.mrc_stand_for.proofs.products.push_replies.Given as goal

abbrev pub invariant-loop-subsystem : goal.invariant-loop-subsystem
invariant-loop-subsystem l = record {
  lines : l.lines ++ reply_lines l.task l.number (drop l.subsystem-index l.subsystems)
      ≡ l.fn.lines ++ reply_lines l.task l.kind l.subsystems;
  number : l.number ≡ l.kind + l.subsystem-index;
}
