-- What each exit of the loop knows.
use Rattle.std.proofs.Common.{◌∙◌, sym, refl, arith}
use Rattle.mrc_wide_text.proofs.ListLemmas.{starts_over, stops_over, goes_over}
use Rattle.mrc_wide_text.proofs.lists.list_len.Goals as goal

pub loop-word-init : goal.loop-word-init
loop-word-init c = record { place_is = refl; left = starts_over c.args.words.now }

pub returns-then-not-goes_on-clause-exact : goal.returns-then-not-goes_on-clause-exact
returns-then-not-goes_on-clause-exact c =
    c.loop-word.invariant.place_is
    ∙ sym (stops_over c.args.words.now _ _ _ _ c.loop-word-test.true c.loop-word.invariant.left
    c.goes_on.ensures c.if-not-goes_on.true)

pub loop-word-preserved : goal.loop-word-preserved
loop-word-preserved c = record {
  place_is = omega (arith, c.loop-word.invariant.place_is);
  left = goes_over c.args.words.now _ _ _ _ _ c.loop-word-test.true c.loop-word.invariant.left
      c.goes_on.ensures c.if-not-goes_on.false c.is_word-comma.ensures;
}
