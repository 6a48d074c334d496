use Rattle.std.proofs.Common.{arith}
use Rattle.mrc_facts.specs.Sets.{has}
use Rattle.mrc_rows.proofs.Joins.{row_before, rows_joined, none_before}
use Rattle.mrc_rows.proofs.facts.Facts.join_rows.Goals as goal

pub loop-number-init : goal.loop-number-init
loop-number-init c = record {
  joined = λ g. none_before g (has c.args.self.now g) (has c.args.other.now g);
  before = λ so. so;
  ascending = λ some. absurd (omega arith);
}

pub loop-number-preserved : goal.loop-number-preserved
loop-number-preserved c = record {
  joined = λ g. row_before g (has c.args.self.now g) (has c.loop-number.self g)
      (has c.join_row.new.self g) (has c.args.other.now g) c.loop-number.number
      (c.loop-number.invariant.joined g) (c.in_ok-join_row.ensures.ok g);
  before = λ so. c.loop-number.invariant.before c.join_row.ensures.before;
  ascending = λ some. c.join_row.ensures.ascending;
}

pub returns-clause-ok : goal.returns-clause-ok
returns-clause-ok c = λ g.
    rows_joined g (has c.args.self.now g) (has c.loop-number.self g) (has c.args.other.now g)
    c.loop-number.number (omega arith) (c.loop-number.invariant.joined g)

pub returns-clause-before : goal.returns-clause-before
returns-clause-before c =
    c.loop-number.invariant.before (c.loop-number.invariant.ascending (omega arith))

pub returns-in_err-join_row-clause-before : goal.returns-in_err-join_row-clause-before
returns-in_err-join_row-clause-before c = c.loop-number.invariant.before c.join_row.ensures.before

pub returns-clause-ascending : goal.returns-clause-ascending
returns-clause-ascending c = c.loop-number.invariant.ascending (omega arith)
