-- The words so far.
use Rattle.std.proofs.Common.{◌≡◌, map, take, ◌++◌}
use Rattle.mrc_wide_policy.proofs.quotes.push_words.Given as goal

abbrev pub invariant-loop-word : goal.invariant-loop-word
invariant-loop-word l =
    map (λ word. word.items) l.said.items ≡ map (λ word. word.items) l.fn.said.items
    ++ map (λ word. word.now) (take l.word-index l.word-items)
