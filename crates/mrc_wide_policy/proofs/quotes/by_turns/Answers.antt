-- What each turn leaves.
use Rattle.std.proofs.lemmas.List.{take_rest}
use Rattle.mrc_wide_policy.proofs.QuoteLemmas.{turns_go, turns_within, turns_end}
use Rattle.mrc_wide_policy.proofs.quotes.by_turns.Goals as goal

pub loop-place-preserved : goal.loop-place-preserved
loop-place-preserved c =
    let is = take_rest c.args.parts.now c.loop-place.place in record {
      same = turns_go c.args.parts.now _ c.loop-place.place c.in_ok-count.count _ _ _ is
          c.loop-place.invariant.same c.in_ok-count.ensures.same;
      within = turns_within c.args.parts.now _ c.loop-place.place c.in_ok-count.count is
          c.loop-place.invariant.within c.in_ok-count.ensures.within;
    }

pub returns : goal.returns
returns c =
    turns_end c.args.parts.now c.loop-place.place _ _ c.loop-place-test.false
    c.loop-place.invariant.same
