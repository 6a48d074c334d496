use Rattle.std.proofs.Common.{Option, List, ℕ, ◌∙◌, ap, sym, take}
use Rattle.std.specs.Option.{option_copied}
use Rattle.mrc_mig_tokens.specs.declared.tokens.LineMark.{LineMark}
use Rattle.mrc_mig_forms.specs.Marks.{before, last_name}
use Rattle.mrc_mig_forms.proofs.MarkLemmas.{name_at, name_or}
use Rattle.mrc_mig_forms.proofs.marks.last_name.Goals as goal
use Rattle.mrc_mig_forms.proofs.marks.last_name.Goals.{in-Some, in_default}

pub loop-mark-preserved : goal.loop-mark-preserved
loop-mark-preserved c =
    let none : LineMark = record { at = 0; end = 0 } in
    let text = c.args.text.now in
    let marks = c.args.marks.now in
    let i = c.loop-mark.mark-index in
    let last = last_name text (before c.args.place (take i marks)) in
    let more = name_at text c.args.place marks i none c.loop-mark-test.true in
    elim c.match-name_before.branch [
      | in-Some w ↦ ap option_copied w.file-is
          ∙ (ap (λ (found : Option (List ℕ)). name_or found last)
          (sym (ap option_copied w.in-Some.is) ∙ c.name_before.ensures) ∙ sym more)
      | in_default w ↦ ap option_copied w.file-is ∙ (c.loop-mark.invariant
          ∙ (ap (λ (found : Option (List ℕ)). name_or found last)
          (sym (ap option_copied w.in_default.is) ∙ c.name_before.ensures) ∙ sym more))
    ]
