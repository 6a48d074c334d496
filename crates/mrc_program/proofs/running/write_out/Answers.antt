use Rattle.mrc_print.specs.Heads.{format_of}
use Rattle.mrc_program.proofs.WritingLaws.{front_out, text_front, whole_out}
use Rattle.mrc_program.proofs.running.write_out.Goals as goal

pub returns-in-Ok-clause-whole : goal.returns-in-Ok-clause-whole
returns-in-Ok-clause-whole g c =
    whole_out (format_of c.args.asked) c.args.answered.now c.print_pending.result
    (g.O.Write.contents c.args.out.now) (g.O.Write.contents c.write_text.new.sink)
    (g.O.Write.contents c.print_pending.new.sink) c.args.text.now c.as_bytes.result.now
    c.as_bytes.ensures.value c.in-Ok.ensures.whole c.print_pending.ensures.whole
    c.print_pending.ensures.appended

pub returns-in-Ok-clause-front : goal.returns-in-Ok-clause-front
returns-in-Ok-clause-front g c =
    front_out (format_of c.args.asked) c.args.answered.now c.print_pending.result
    (g.O.Write.contents c.args.out.now) (g.O.Write.contents c.write_text.new.sink)
    (g.O.Write.contents c.print_pending.new.sink) c.args.text.now c.as_bytes.result.now
    c.as_bytes.ensures.value c.in-Ok.ensures.whole c.print_pending.ensures.cut
    c.print_pending.ensures.appended

pub returns-in-Err-clause-front : goal.returns-in-Err-clause-front
returns-in-Err-clause-front g c =
    text_front (format_of c.args.asked) c.args.answered.now (g.O.Write.contents c.args.out.now)
    (g.O.Write.contents c.write_text.new.sink) c.args.text.now c.as_bytes.result.now
    c.in-Err.fault.written c.as_bytes.ensures.value c.in-Err.ensures.cut c.in-Err.ensures.within
