use Rattle.std.proofs.Common.{◌≡◌, ◌∙◌, Some, ap, length, slice_get, sym, arith, rules}
use Rattle.std.proofs.lemmas.List.{take_all}
use Rattle.std.proofs.lemmas.Option.{slice_get_read}
use Rattle.mrc_report.specs.Halts.{lines_of}
use Rattle.mrc_report.proofs.NextLines.{line_there, more_lines, none_there, same_lines}
use Rattle.mrc_report.proofs.halting.line_after.Goals.{then-is_of+else-left-eq0, else-is_of}
use Rattle.mrc_report.proofs.halting.line_after.Goals as goal

pub returns-then-left-eq0-clause-some : goal.returns-then-left-eq0-clause-some
returns-then-left-eq0-clause-some c =
    let lines = c.args.lines.now in
    let k = c.loop-line.line-index in
    let l = c.line-item.result in
    let here : slice_get lines k ≡ Some l = search (rules, slice_get_read) in
    line_there c.args.task lines k c.args.said l here (sym c.is_of.ensures ∙ c.if-is_of.true)
    (omega (arith, c.loop-line.invariant, c.if-left-eq0.true))

pub loop-line-preserved : goal.loop-line-preserved
loop-line-preserved c =
    let task = c.args.task in
    let lines = c.args.lines.now in
    let k = c.loop-line.line-index in
    let l = c.line-item.result in
    let here : slice_get lines k ≡ Some l = search (rules, slice_get_read) in
    elim c.if-is_of.branch [
      | then-is_of+else-left-eq0 w ↦
          omega (
            arith,
            w.left-is,
            w.if-left-eq0.false,
            c.loop-line.invariant,
            more_lines task lines k l here (sym c.is_of.ensures ∙ w.if-is_of.true),
          )
      | else-is_of w ↦
          omega (
            arith,
            w.left-is,
            c.loop-line.invariant,
            same_lines task lines k l here (sym c.is_of.ensures ∙ w.if-is_of.false),
          )
    ]

pub returns-clause-none : goal.returns-clause-none
returns-clause-none c =
    let lines = c.args.lines.now in
    let whole = ap (λ ls. length (lines_of c.args.task ls))
    (take_all c.loop-line.line-index lines c.loop-line-test.false) in
    none_there (lines_of c.args.task lines) c.args.said
    (omega (arith, c.loop-line.invariant, whole))
