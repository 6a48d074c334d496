use Rattle.std.proofs.Common.{◌≡◌, ◌++◌, [], drop}
use Rattle.mrc_facts.specs.Sets.{has}
use Rattle.mrc_dead.specs.Dead.{dead_among}
use Rattle.mrc_dead.proofs.slots.dead_among.Given as goal

-- those so far and those of the lines that are left are all
abbrev pub invariant-loop-line : goal.invariant-loop-line
invariant-loop-line l =
    l.dead.items
    ++ dead_among l.system.wired.now (has l.system.facts.now) l.named l.known
    (drop l.line-index l.lines)
    ≡ dead_among l.system.wired.now (has l.system.facts.now) l.named [] l.lines
