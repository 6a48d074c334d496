use Rattle.std.proofs.Common.{sym, ◌∙◌, ap, arith, ◌*◌, ◌+◌, ◌≡◌, get_or, min, ◌-◌}
use Rattle.mrc_base.specs.Limits.{limit_of_number}
use Rattle.mrc_mig_forms.proofs.MarkLemmas.{one_digit}
use Rattle.mrc_mig_forms.proofs.marks.number_of.Goals as goal

pub loop-digit-preserved : goal.loop-digit-preserved
loop-digit-preserved c =
    let line = c.args.line.now in
    let i = c.loop-digit.digit-index in
    let number = c.loop-digit.number in
    let next : c.min-number.result ≡ min (number * 10 + (get_or line i 0 - 48)) limit_of_number =
    c.min-number.ensures ∙ ap (λ n. min (number * 10 + n) limit_of_number) c.from.ensures in (
      one_digit line i number c.min-number.result c.loop-digit-test.true
          (sym c.is_ascii_digit.ensures.value ∙ c.if-not-is_ascii_digit.false) next
          ∙ c.loop-digit.invariant.0,
      omega (arith, next),
    )
