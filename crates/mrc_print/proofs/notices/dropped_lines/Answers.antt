use Rattle.std.proofs.Common.{string_bytes}
use Rattle.mrc_print.proofs.SilenceLaws.{dropped_all, dropped_more}
use Rattle.mrc_print.proofs.notices.dropped_lines.Goals as goal

pub loop-number-preserved : goal.loop-number-preserved
loop-number-preserved c =
    dropped_more c.args.left_out.now c.loop-number.number c.index-left_out-number.result
    c.as_slice.result.now (string_bytes c.loop-number.text) (string_bytes c.in_ok-line.line)
    c.as_str.result.now (string_bytes c.push_str.new.self) c.loop-number-test.true
    c.index-left_out-number.is c.as_slice.ensures.value c.loop-number.invariant
    c.in_ok-line.ensures c.as_str.ensures.value c.in_ok-push_str.ensures.bytes

pub returns : goal.returns
returns c =
    dropped_all c.args.left_out.now c.loop-number.number (string_bytes c.loop-number.text)
    c.loop-number-test.false c.loop-number.invariant
