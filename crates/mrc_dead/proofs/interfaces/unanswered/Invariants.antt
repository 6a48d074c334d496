use Rattle.std.proofs.Common.{◌≡◌, length}
use Rattle.mrc_facts.specs.Sets.{has}
use Rattle.mrc_dead.specs.Asking.{those_below}
use Rattle.mrc_dead.specs.Dead.{is_unanswered}
use Rattle.mrc_dead.proofs.interfaces.unanswered.Given as goal

-- those before this one
abbrev pub invariant-loop-interface : goal.invariant-loop-interface
invariant-loop-interface l =
    (l.interface-end ≡ length l.wired.interfaces)
    × (l.numbers.items ≡ those_below (is_unanswered l.wired (has l.facts)) l.interface)
