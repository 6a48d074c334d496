use Rattle.std.proofs.Common.{inr, subst}
use Rattle.mrc_report.specs.Plays.{AreEnded}
use Rattle.mrc_report.proofs.running.run_in.Goals as goal

pub returns-in-Some-clause-refused : goal.returns-in-Some-clause-refused
returns-in-Some-clause-refused g c =
    let lines = c.args.script.now in
    let after = c.join_all-seats.result.0.items in
    let ended = subst (λ before. AreEnded lines before after c.join_all-seats.result.1)
    c.start_all.ensures.before c.join_all-seats.ensures.ended in
    inr (
      c.in-Some.halt,
      (c.fault_of.ensures, subst (AreEnded lines c.args.seats.items after) c.in-Some.is ended),
    )

pub returns-in-None-clause-ran : goal.returns-in-None-clause-ran
returns-in-None-clause-ran g c =
    let lines = c.args.script.now in
    let after = c.join_all-seats.result.0.items in
    let ended = subst (λ before. AreEnded lines before after c.join_all-seats.result.1)
    c.start_all.ensures.before c.join_all-seats.ensures.ended in
    subst (AreEnded lines c.args.seats.items after) c.in-None.is ended
