use Rattle.mrc_bits.proofs.Words.{none_in, next_in}
use Rattle.mrc_bits.proofs.bits.next_in_word.Goals as goal

pub returns-then-rest-eq0-clause-none : goal.returns-then-rest-eq0-clause-none
returns-then-rest-eq0-clause-none c = none_in c.args.word c.args.from c.if-rest-eq0.true

pub returns-else-rest-eq0-clause-found : goal.returns-else-rest-eq0-clause-found
returns-else-rest-eq0-clause-found c = next_in c.args.word c.args.from c.ranges.word.fits c.requires c.if-rest-eq0.false
