-- The numbers so far, with those of the files that are left, are all.
use Rattle.std.proofs.Common.{◌≡◌, ◌++◌, drop, map}
use Rattle.mrc_answer.specs.Notices.{cut_from, cut_before}
use Rattle.mrc_answer.proofs.gathering.cut_before.Given as goal

abbrev pub invariant-loop-number : goal.invariant-loop-number
invariant-loop-number l =
    l.cut.items ++ cut_from l.number (map (λ text. text.items) (drop l.number l.defs))
    ≡ cut_before (map (λ text. text.items) l.defs)
