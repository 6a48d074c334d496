use Rattle.std.proofs.Common.{◌+◌, ap, length, length-append, ◌∙◌}
use Rattle.std.specs.Prelude.{flat_map}
use Rattle.mrc_wiring.specs.Sorts.{row_slots}
use Rattle.mrc_wiring.proofs.Steps.{interfaces_turn}
use Rattle.mrc_wiring.proofs.SortPlaceLaws.{below_next, firsts_next}
use Rattle.mrc_wiring.proofs.sorts.sorts_of.Goals as goal

-- the types of the next interface are added, and their first places
pub loop-number-preserved : goal.loop-number-preserved
loop-number-preserved c =
    let so_far = c.loop-number.invariant in
    let slots = flat_map row_slots c.index-interfaces-number.result.rows in
    let added = c.in_ok-add_interface.ensures.added in
    let kept = c.in_ok-push.ensures.items in
    record {
      told = interfaces_turn c.args.interfaces.now c.loop-number.number
          c.index-interfaces-number.result _ _ _ c.loop-number-test.true
          c.index-interfaces-number.is added so_far.told;
      below = below_next c.loop-number.number _ _ slots _ _ _ so_far.below added so_far.count kept;
      count = ap length kept ∙ length-append c.loop-number.firsts.items _
          ∙ ap (λ n. n + 1) so_far.count;
      firsts = firsts_next c.loop-number.number _ _ slots _ _ _ so_far.below added so_far.count kept
          so_far.firsts c.in_ok-add_interface.ensures.firsts;
    }
