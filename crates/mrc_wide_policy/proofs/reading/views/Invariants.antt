-- The words so far.
use Rattle.std.proofs.Common.{◌≡◌, map, take}
use Rattle.mrc_wide_policy.proofs.reading.views.Given as goal

abbrev pub invariant-loop-word : goal.invariant-loop-word
invariant-loop-word l =
    map (λ word. word.now) l.found.items
    ≡ map (λ word. word.items) (take l.word-index l.words)
