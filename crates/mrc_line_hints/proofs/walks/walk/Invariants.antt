-- The line goes on with each word so far.
use Rattle.std.proofs.Common.{◌≡◌, map, drop}
use Rattle.mrc_line_hints.specs.Walks.{walk}
use Rattle.mrc_line_hints.proofs.walks.walk.Given as goal

abbrev pub invariant-loop-word : goal.invariant-loop-word
invariant-loop-word l = record {
  counted : l.count ≡ l.word-index;
  same : walk l.edition l.count l.place (drop l.count (map (λ word. word.now) l.words))
      ≡ walk l.edition 0 l.fn.start (map (λ word. word.now) l.words);
}
