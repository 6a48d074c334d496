use Rattle.std.proofs.Common.{string_bytes}
use Rattle.mrc_report.proofs.OutputLaws.{part_out}
use Rattle.mrc_report.proofs.outgoing.pass_on.Goals as goal

pub returns-in-Err-clause-err : goal.returns-in-Err-clause-err
returns-in-Err-clause-err g c =
    part_out (g.S.Sink.contents c.args.sink.now) (g.S.Sink.contents c.write_text.new.sink)
    c.args.out.now.written c.in-Err.fault.written (string_bytes c.args.out.now.kept)
    c.as_bytes.result.now c.as_bytes.ensures.value c.in-Err.ensures.cut c.in-Err.ensures.within
