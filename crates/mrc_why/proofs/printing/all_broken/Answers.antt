use Rattle.std.proofs.Common.{subst, sym}
use Rattle.std.specs.Prelude.{string_bytes}
use Rattle.mrc_why.specs.Texts.{IsBrokenText}
use Rattle.mrc_why.proofs.TextLaws.{told_more}
use Rattle.mrc_why.proofs.printing.all_broken.Goals as goal

pub loop-line-preserved : goal.loop-line-preserved
loop-line-preserved c =
    told_more c.args.layout c.args.sources.now c.args.broken.now c.loop-line.line-index
    c.line-item.result (string_bytes c.loop-line.text) c.as_str.result.now
    (string_bytes c.push_str.new.self) c.loop-line-test.true c.line-item.is c.loop-line.invariant
    (subst (λ text. IsBrokenText c.args.layout c.args.sources.now c.line-item.result text)
    (sym c.as_str.ensures.value) c.in_ok-told.ensures)
    c.in_ok-push_str.ensures.bytes
