use Rattle.std.proofs.Common.{◌∙◌}
use Rattle.std.proofs.lemmas.Result.{err_from_is_err_and}
use Rattle.mrc_wiring.specs.Table.{wiring_of}
use Rattle.mrc_machine.proofs.StartLaws.{next_lines}
use Rattle.mrc_machine.proofs.Trying.{is_fault, ok_bind}
use Rattle.mrc_machine.proofs.first.built.Goals as goal

pub returns-in_err-next-clause-refused : goal.returns-in_err-next-clause-refused
returns-in_err-next-clause-refused c =
    let p = err_from_is_err_and c.from_residual-in_err-next.result
    c.from_residual-in_err-next.ensures.1 in
    let lines = c.loop-line.invariant
    ∙ next_lines (wiring_of c.args.wired.now) c.loop-line.start _ c.loop-line.line-index
    c.line-item.result c.loop-line-test.true c.line-item.is in
    rw (p.1, p.2) (is_fault c.in_err-next.field-0.0 _ _ _ lines c.in_err-next.ensures.refused)

pub loop-line-preserved : goal.loop-line-preserved
loop-line-preserved c =
    c.loop-line.invariant
    ∙ next_lines (wiring_of c.args.wired.now) c.loop-line.start _ c.loop-line.line-index
    c.line-item.result c.loop-line-test.true c.line-item.is
    ∙ ok_bind _ c.in_ok-next.next _ c.in_ok-next.ensures.ok
