use Rattle.std.proofs.Common.{Some, None, ◌∙◌, ap, sym, take, get_or, if◌then◌else◌}
use Rattle.std.specs.List.{last_or}
use Rattle.std.proofs.lemmas.Bool.{lt-ltb, le-ltb}
use Rattle.mrc_mig_tokens.specs.declared.tokens.LineMark.{LineMark}
use Rattle.mrc_mig_forms.specs.Marks.{before}
use Rattle.mrc_mig_forms.proofs.MarkLemmas.{last_at}
use Rattle.mrc_mig_forms.proofs.marks.last_before.Goals as goal
use Rattle.mrc_mig_forms.proofs.marks.last_before.Goals.{then-mark-place, else-mark-place}

pub loop-mark-preserved : goal.loop-mark-preserved
loop-mark-preserved c =
    let none : LineMark = record { at = 0; end = 0 } in
    let marks = c.args.marks.now in
    let i = c.loop-mark.mark-index in
    let mark = get_or marks i none in
    let last = last_or None (before c.args.place (take i marks)) in
    let more = last_at c.args.place marks i none c.loop-mark-test.true in
    elim c.if-mark-place.branch [
      | then-mark-place w ↦ w.last-is
          ∙ (ap (λ b. if b then Some mark else last)
          (sym (lt-ltb mark.at c.args.place w.if-mark-place.true)) ∙ sym more)
      | else-mark-place w ↦ w.last-is ∙ (c.loop-mark.invariant
          ∙ (ap (λ b. if b then Some mark else last)
          (sym (le-ltb mark.at c.args.place w.if-mark-place.false)) ∙ sym more))
    ]
