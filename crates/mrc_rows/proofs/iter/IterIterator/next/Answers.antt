use Rattle.std.proofs.Common.{length, Some, ap, arith}
use Rattle.mrc_rows.proofs.Behind.{stepped, still_there}
use Rattle.mrc_rows.proofs.iter.IterIterator.next.Goals as goal

pub invariant_of-self : goal.invariant_of-self
invariant_of-self c =
    let was = c.self.inside in
    let at = c.self.invariant in
    record {
      ascending = at.ascending;
      there = still_there was.facts.now c.args.self.now was.next c.in_ok-fact.fact at.ascending
          c.self.view_is c.in_ok-fact.was at.there (Some c.in-Some.next) c.in-Some.ensures.next;
      planes_are = λ within. c.in-Some.ensures.planes;
    }

pub returns-in-Some-clause-steps : goal.returns-in-Some-clause-steps
returns-in-Some-clause-steps c =
    let was = c.self.inside in
    let at = c.self.invariant in
    let e = stepped was.facts.now c.args.self.now was.next c.in_ok-fact.fact at.ascending
    c.self.view_is c.in_ok-fact.was at.there (Some c.in-Some.next) c.in-Some.ensures.next in
    e

pub returns-in-Some-clause-goes : goal.returns-in-Some-clause-goes
returns-in-Some-clause-goes c =
    let was = c.self.inside in
    let at = c.self.invariant in
    let e = stepped was.facts.now c.args.self.now was.next c.in_ok-fact.fact at.ascending
    c.self.view_is c.in_ok-fact.was at.there (Some c.in-Some.next) c.in-Some.ensures.next in
    let fewer = ap length e in
    record { on = λ finite. (tt, finite, omega (arith, fewer)); keeps = tt; rests = λ finite. tt }

pub invariant_of-self-2 : goal.invariant_of-self-2
invariant_of-self-2 c =
    let was = c.self.inside in
    let at = c.self.invariant in
    record {
      ascending = at.ascending;
      there = still_there was.facts.now c.args.self.now was.next c.in_ok-fact.fact at.ascending
          c.self.view_is c.in_ok-fact.was at.there c.next_afar-next.result.0
          c.next_afar-next.ensures.next;
      planes_are = c.next_afar-next.ensures.planes;
    }

pub returns-clause-steps : goal.returns-clause-steps
returns-clause-steps c =
    let was = c.self.inside in
    let at = c.self.invariant in
    let e = stepped was.facts.now c.args.self.now was.next c.in_ok-fact.fact at.ascending
    c.self.view_is c.in_ok-fact.was at.there c.next_afar-next.result.0
    c.next_afar-next.ensures.next in
    e

pub returns-clause-goes : goal.returns-clause-goes
returns-clause-goes c =
    let was = c.self.inside in
    let at = c.self.invariant in
    let e = stepped was.facts.now c.args.self.now was.next c.in_ok-fact.fact at.ascending
    c.self.view_is c.in_ok-fact.was at.there c.next_afar-next.result.0
    c.next_afar-next.ensures.next in
    let fewer = ap length e in
    record { on = λ finite. (tt, finite, omega (arith, fewer)); keeps = tt; rests = λ finite. tt }
