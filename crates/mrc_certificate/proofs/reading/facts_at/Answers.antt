use Rattle.std.proofs.Common.{None, sym, ◌∙◌, arith}
use Rattle.std.proofs.lemmas.Result.{err_from_is_err_and}
use Rattle.mrc_certificate.specs.Reading.{facts_at}
use Rattle.mrc_certificate.proofs.Series.{facts_take}
use Rattle.mrc_certificate.proofs.Ends.{goes_on, ends, misplaced, is_done}
use Rattle.mrc_certificate.proofs.reading.facts_at.Goals as goal

pub returns-in_err-fact-clause-fault : goal.returns-in_err-fact-clause-fault
returns-in_err-fact-clause-fault c =
    let p = err_from_is_err_and c.from_residual.result c.from_residual.ensures.1 in
    rw (p.1, p.2) (ends c.args.tasks c.args.classes c.args.count c.loop.counter c.loop.at
    c.loop.before c.loop.facts c.loop.rest.now _ c.loop.invariant.left c.loop-test.true
    c.in_err-fact.field-0.0 c.in_err-fact.ensures.fault)

pub returns-then-not-comes_after-clause-fault : goal.returns-then-not-comes_after-clause-fault
returns-then-not-comes_after-clause-fault c =
    misplaced c.args.tasks c.args.classes c.args.count c.loop.counter c.loop.at c.loop.before
    c.loop.facts c.loop.rest.now _ c.loop.invariant.left c.loop-test.true c.in_ok-fact.fact
    c.in_ok-fact.ensures.fault (sym c.comes_after.ensures ∙ c.if-not-comes_after.true)

pub loop-preserved : goal.loop-preserved
loop-preserved c =
    let next = goes_on c.args.tasks c.args.classes c.args.count c.loop.counter c.loop.at
    c.loop.before c.loop.facts c.loop.rest.now
    (facts_at c.args.tasks c.args.classes c.args.count c.args.first None c.args.bytes.now)
    c.loop.invariant.left c.loop-test.true c.in_ok-fact.fact c.in_ok-fact.ensures.fault
    (sym c.comes_after.ensures ∙ c.if-not-comes_after.false) c.loop.invariant.ascending in
    record {
      left = rw (c.in_ok-insert.ensures.ok, c.split_at.ensures.back) next;
      place = omega arith;
      ascending = c.in_ok-insert.ensures.ascending;
    }

pub returns-clause-fault : goal.returns-clause-fault
returns-clause-fault c =
    is_done c.args.tasks c.args.classes c.args.count c.loop.counter c.loop.at c.loop.before
    c.loop.facts c.loop.rest.now _ c.loop.invariant.left c.loop-test.false

pub returns-clause-within : goal.returns-clause-within
returns-clause-within c =
    (facts_take c.args.tasks c.args.classes c.args.count c.args.first None c.args.bytes.now
    (c.loop.facts, c.loop.rest.now) (λ i. omega (arith, c.type_inv.bytes i))
    (returns-clause-fault c)).within

pub returns-clause-len : goal.returns-clause-len
returns-clause-len c =
    (facts_take c.args.tasks c.args.classes c.args.count c.args.first None c.args.bytes.now
    (c.loop.facts, c.loop.rest.now) (λ i. omega (arith, c.type_inv.bytes i))
    (returns-clause-fault c)).len
