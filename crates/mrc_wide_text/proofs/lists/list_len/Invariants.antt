-- What the words so far leave of the list.
use Rattle.std.proofs.Common.{◌≡◌, map}
use Rattle.mrc_wide_text.proofs.ListLemmas.{Left}
use Rattle.mrc_wide_text.proofs.lists.list_len.Given as goal

abbrev pub invariant-loop-word : goal.invariant-loop-word
invariant-loop-word l = record {
  place_is : l.place ≡ l.word-index;
  left : Left (map (λ word. word.now) l.words) l.word-index l.behind_comma;
}
