use Rattle.std.proofs.Common.{◌++◌, string_bytes}
use Rattle.mrc_print.specs.Heads.{format_of}
use Rattle.mrc_program.proofs.WritingLaws.{printed_of}
use Rattle.mrc_program.proofs.running.write_answer.Goals as goal

pub returns-in-Ok-clause-whole : goal.returns-in-Ok-clause-whole
returns-in-Ok-clause-whole g c not_two =
    let out = c.write_printed.ensures.out not_two in
    record {
      text = string_bytes c.in-Ok.texts.out ++ out.rest;
      printed = printed_of (format_of c.args.asked) c.args.answered.now
          (string_bytes c.in-Ok.texts.out) out.rest c.in-Ok.ensures.out out.pending;
      out = out.out;
      errors = string_bytes c.in-Ok.texts.err;
      notices = c.in-Ok.ensures.err;
      err = c.write_printed.ensures.err not_two;
    }
