use Rattle.std.proofs.Common.{subst, sym, string_bytes}
use Rattle.mrc_answer.specs.Verified.{is_asked}
use Rattle.mrc_print.specs.Heads.{IsToldIf}
use Rattle.mrc_print.proofs.HeadLaws.{no_next}
use Rattle.mrc_print.proofs.text.told_parts.Goals as goal

pub loop-demand-preserved : goal.loop-demand-preserved
loop-demand-preserved c =
    let only = c.args.printing.now.only in
    let line = c.demand-item.result in
    no_next only c.args.told.now c.loop-demand.demand-index line (string_bytes c.loop-demand.text)
    c.as_str.result.now (string_bytes c.push_str.new.self) c.loop-demand-test.true c.demand-item.is
    c.loop-demand.invariant
    (subst (λ text. IsToldIf (is_asked only line) text) (sym c.as_str.ensures.value)
    c.in_ok-part.ensures)
    c.in_ok-push_str.ensures.bytes
