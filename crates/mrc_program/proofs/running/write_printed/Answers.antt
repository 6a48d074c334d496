use Rattle.std.proofs.Common.{List, ℕ, string_bytes, subst}
use Rattle.mrc_print.specs.Heads.{format_of}
use Rattle.mrc_program.specs.Writing.{IsWholeOut}
use Rattle.mrc_program.proofs.WritingLaws.{front_of_whole}
use Rattle.mrc_program.proofs.running.write_printed.Goals as goal

pub returns-in-Ok-clause-front : goal.returns-in-Ok-clause-front
returns-in-Ok-clause-front g c =
    front_of_whole (format_of c.args.asked) c.args.answered.now
    (string_bytes c.args.printed.now.out) (g.O.Write.contents c.args.out.now)
    (g.O.Write.contents c.write_out.new.out)
    (subst (λ (text : List ℕ). IsWholeOut (format_of c.args.asked) c.args.answered.now text
    (g.O.Write.contents c.args.out.now) (g.O.Write.contents c.write_out.new.out))
    c.as_str.ensures.value c.in-Ok.ensures.whole)
