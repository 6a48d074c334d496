-- Each part so far says something, and these are what they say.
use Rattle.std.proofs.Common.{◌≡◌, map, take, Some}
use Rattle.mrc_wiring_text.proofs.ItemLemmas.{part_words}
use Rattle.mrc_wide_text.proofs.lists.separated.Given as goal

abbrev pub invariant-loop-part : goal.invariant-loop-part
invariant-loop-part g l =
    map (λ part. g.P.Part.meaning (part_words part)) (take l.part-index l.part-items)
    ≡ map (λ item. Some item) l.said
