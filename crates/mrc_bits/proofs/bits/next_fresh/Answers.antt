use Rattle.mrc_bits.proofs.Words.{found_fresh}
use Rattle.mrc_bits.proofs.bits.next_fresh.Goals as goal

pub returns-in-Some-clause-found : goal.returns-in-Some-clause-found
returns-in-Some-clause-found c =
    let at = c.loop-place.invariant in
    found_fresh c.args.words.now c.args.more.now c.args.mask.now c.args.from c.loop-place.place
    c.loop-place.start c.in-Some.i c.fresh_word.result c.fresh_word.ensures c.in-Some.ensures.found
    at.none at.from_there c.loop-place-test.true
