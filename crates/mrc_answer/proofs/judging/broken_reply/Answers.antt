use Rattle.std.proofs.Common.{refl}
use Rattle.mrc_answer.proofs.VerdictLaws.{broken_is}
use Rattle.mrc_answer.proofs.judging.broken_reply.Goals as goal

pub returns : goal.returns
returns c =
    let found = c.args.found in
    record {
      policy = record {
        stated = c.args.stated;
        verdict = found.verdict;
        told = found.told;
        only = c.args.only;
      };
      is = refl;
      right = broken_is c.args.line c.args.only c.args.files.now c.args.stated found _ c.requires.says c.requires.judged
          c.requires.not_passed c.requires.shown c.in-Ok.ensures;
    }
