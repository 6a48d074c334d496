-- What each exit of the loop knows of the walk.
use Rattle.std.proofs.Common.{sym, ◌∙◌, arith}
use Rattle.mrc_line_hints.proofs.Loops.{walk_on, walk_stops, walk_ends}
use Rattle.mrc_line_hints.proofs.walks.walk.Goals as goal

pub returns-in-None : goal.returns-in-None
returns-in-None c =
    sym (walk_stops c.args.edition c.loop-word.count c.loop-word.word-index c.loop-word.place
    c.args.words.now _ c.loop-word.invariant.counted (omega arith)
    (sym c.in_ok-next.ensures ∙ c.in-None.is)) ∙ c.loop-word.invariant.same

pub loop-word-preserved : goal.loop-word-preserved
loop-word-preserved c = record {
  counted = omega arith;
  same = sym (walk_on c.args.edition c.loop-word.count c.loop-word.word-index c.loop-word.place
      c.in-Some.next c.args.words.now _ c.loop-word.invariant.counted (omega arith)
      (sym c.in_ok-next.ensures ∙ c.in-Some.is)) ∙ c.loop-word.invariant.same;
}

pub returns : goal.returns
returns c =
    sym (walk_ends c.args.edition c.loop-word.count c.loop-word.word-index c.loop-word.place
    c.args.words.now c.loop-word.invariant.counted (omega arith)) ∙ c.loop-word.invariant.same
