-- Each part so far says an item, and these are the items.
use Rattle.std.proofs.Common.{◌≡◌, map, take, Some}
use Rattle.mrc_wiring_text.specs.Items.{item_of}
use Rattle.mrc_wiring_text.proofs.ItemLemmas.{part_words}
use Rattle.mrc_wiring_text.proofs.items.items_of.Given as goal

abbrev pub invariant-loop-part : goal.invariant-loop-part
invariant-loop-part l =
    map (λ part. item_of (part_words part)) (take l.part-index l.part-items)
    ≡ map (λ item. Some item) l.items.items
