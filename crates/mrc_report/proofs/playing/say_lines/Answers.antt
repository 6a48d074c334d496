use Rattle.std.proofs.Common.{◌≡◌, Some, slice_get, ap, sym, ◌∙◌, ◌==◌}
use Rattle.std.proofs.Common.{rules}
use Rattle.std.proofs.lemmas.Option.{slice_get_read}
use Rattle.mrc_report.specs.Plays.{calls_of}
use Rattle.mrc_report.proofs.Asking.{played_part, said_mine, said_other}
use Rattle.mrc_report.proofs.playing.say_lines.Goals.{then-is_of+else-load+in_default, else-is_of}
use Rattle.mrc_report.proofs.playing.say_lines.Goals as goal

pub returns-then-load : goal.returns-then-load
returns-then-load g c =
    played_part c.args.script.now c.args.seat.now c.loop-line.seat _ c.loop-line.line-index
    (search rules) (search rules)

pub returns-in-Err : goal.returns-in-Err
returns-in-Err g c =
    played_part c.args.script.now c.args.seat.now c.say.new.seat _ c.loop-line.line-index
    (search rules) (search rules)

pub loop-line-preserved : goal.loop-line-preserved
loop-line-preserved g c =
    let lines = c.lines-line-items.result.now in
    let l = c.line-item.result in
    let old = c.args.seat.now in
    let was = c.loop-line.seat in
    let k = c.loop-line.line-index in
    let same = ap (λ t. l.says.task == t) (sym c.task-task.ensures) ∙ sym c.is_of.ensures in
    let here : slice_get lines k ≡ Some l = search (rules, slice_get_read) in
    elim c.if-is_of.branch [
      | then-is_of+else-load+in_default w ↦
          let is = w.say.ensures.same in (
            (
              ap (λ s. s.number) w.seat-is ∙ is.0 ∙ c.loop-line.invariant.0.0,
              ap (λ s. s.task) w.seat-is ∙ is.1 ∙ c.loop-line.invariant.0.1,
            ),
            ap calls_of w.seat-is ∙ w.in_default.ensures.said
                ∙ said_mine old.task lines k l (calls_of old) (calls_of was) here
                (same ∙ w.if-is_of.true) c.loop-line.invariant.1,
          )
      | else-is_of w ↦ (
        (
          ap (λ s. s.number) w.seat-is ∙ c.loop-line.invariant.0.0,
          ap (λ s. s.task) w.seat-is ∙ c.loop-line.invariant.0.1,
        ),
        ap calls_of w.seat-is
            ∙ said_other old.task lines k l (calls_of old) (calls_of was) here
            (same ∙ w.if-is_of.false) c.loop-line.invariant.1,
      )
    ]
