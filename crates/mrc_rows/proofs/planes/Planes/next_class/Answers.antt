use Rattle.std.proofs.Common.{arith}
use Rattle.mrc_rows.proofs.Groups.{class_found, word_passed, no_class_left}
use Rattle.mrc_rows.proofs.planes.Planes.next_class.Goals as goal

pub returns-in-Some-clause-found : goal.returns-in-Some-clause-found
returns-in-Some-clause-found c =
    class_found c.args.self.now c.args.from c.loop-place.place c.loop-place.start c.word.result
    c.loop-place.invariant.none c.word.ensures c.in-Some.bit c.loop-place.invariant.from_there
    c.in-Some.ensures.found

pub loop-place-preserved : goal.loop-place-preserved
loop-place-preserved c =
    let so_far = c.loop-place.invariant in
    record {
      start = omega arith;
      from_there = omega (arith, so_far.from_there, so_far.start);
      none = word_passed c.args.self.now c.args.from c.loop-place.place c.loop-place.start
          c.word.result so_far.none c.word.ensures c.in_default.ensures.none;
    }

pub returns-clause-none : goal.returns-clause-none
returns-clause-none c =
    no_class_left c.args.self.now c.args.from c.loop-place.place c.loop-place.start
    c.loop-place-test.false c.args.self.now.few_of_send c.args.self.now.few_of_receive
    c.args.self.now.few_of_once c.loop-place.invariant.none
