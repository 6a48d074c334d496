-- The items so far, and those of the parts that are left.
use Rattle.std.proofs.Common.{map}
use Rattle.mrc_wiring_text.proofs.ItemLemmas.{part_words}
use Rattle.mrc_wide_text.proofs.ItemLemmas.{Left}
use Rattle.mrc_wide_text.proofs.items.items_of.Given as goal

abbrev pub invariant-loop-part : goal.invariant-loop-part
invariant-loop-part l = Left (map part_words l.part-items) l.part-index l.key l.items.items
