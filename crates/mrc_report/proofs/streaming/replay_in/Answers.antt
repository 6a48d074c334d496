use Rattle.std.proofs.Common.{◌∙◌, arith, string_bytes}
use Rattle.std.proofs.lemmas.Result.{err_from_is_err_and}
use Rattle.mrc_report.proofs.OutputLaws.{ends_by, ends_by_cut, goes_on_by, grows_in}
use Rattle.mrc_report.proofs.streaming.replay_in.Goals as goal

pub returns-in_err-print_made-2-clause-cut : goal.returns-in_err-print_made-2-clause-cut
returns-in_err-print_made-2-clause-cut g c =
    let p = err_from_is_err_and c.from_residual-in_err-print_made-2.result
    c.from_residual-in_err-print_made-2.ensures.1 in
    rw (p.1, p.2) (grows_in _ _ _ _ _ _ c.loop-number.invariant.on
    c.in_err-print_made-2.ensures.err)

pub loop-number-preserved : goal.loop-number-preserved
loop-number-preserved g c = record {
  on = goes_on_by _ _ _ 0 _ _ _ _ c.loop-number.invariant.on c.in_ok-print_made-2.ensures.ok;
  room = omega (arith, c.in_ok-print_made-2.ensures.count, c.loop-number.invariant.room);
  passed = c.in_ok-print_made-2.ensures.passed ∙ c.loop-number.invariant.passed;
}

pub returns-in_err-print_made-3-clause-cut : goal.returns-in_err-print_made-3-clause-cut
returns-in_err-print_made-3-clause-cut g c =
    let p = err_from_is_err_and c.from_residual-in_err-print_made-3.result
    c.from_residual-in_err-print_made-3.ensures.1 in
    rw (p.1, p.2) (grows_in _ _ _ _ _ _ c.loop-number.invariant.on
    c.in_err-print_made-3.ensures.err)

pub returns-clause-whole : goal.returns-clause-whole
returns-clause-whole g c =
    let on = goes_on_by _ _ _ 0 _ _ _ _ c.loop-number.invariant.on
    c.in_ok-print_made-3.ensures.ok in
    ends_by c.pass_on.result _ _ _ _ _ (string_bytes c.print_made-2.new.out.kept) on
    c.pass_on.ensures.ok

pub returns-clause-cut : goal.returns-clause-cut
returns-clause-cut g c =
    let on = goes_on_by _ _ _ 0 _ _ _ _ c.loop-number.invariant.on
    c.in_ok-print_made-3.ensures.ok in
    ends_by_cut c.pass_on.result _ _ _ _ (string_bytes c.print_made-2.new.out.kept) on
    c.pass_on.ensures.err
