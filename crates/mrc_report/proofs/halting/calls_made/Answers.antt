use Rattle.std.proofs.Common.{◌≡◌, ◌∙◌, Some, slice_get, sym, arith, rules}
use Rattle.std.proofs.lemmas.Option.{slice_get_read}
use Rattle.mrc_report.proofs.NextLines.{more_calls, same_calls}
use Rattle.mrc_report.proofs.halting.calls_made.Goals.{then-is_by, else-is_by}
use Rattle.mrc_report.proofs.halting.calls_made.Goals as goal

pub loop-event-preserved : goal.loop-event-preserved
loop-event-preserved c =
    let task = c.args.task in
    let events = c.args.events.now in
    let e = c.event-item.result in
    let k = c.loop-event.event-index in
    let was = c.loop-event.invariant in
    let here : slice_get events k ≡ Some e = search (rules, slice_get_read) in
    elim c.if-is_by.branch [
      | then-is_by w ↦ (
        omega (arith, w.made-is, was.0),
        omega (
          arith,
          w.made-is,
          was.1,
          more_calls task events k e here (sym c.is_by.ensures ∙ w.if-is_by.true),
        ),
      )
      | else-is_by w ↦ (
        omega (arith, w.made-is, was.0),
        omega (
          arith,
          w.made-is,
          was.1,
          same_calls task events k e here (sym c.is_by.ensures ∙ w.if-is_by.false),
        ),
      )
    ]
