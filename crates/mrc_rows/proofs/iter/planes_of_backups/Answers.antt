use Rattle.std.proofs.Common.{[], arith}
use Rattle.mrc_rows.proofs.Iterating.{planes_of_backups}
use Rattle.mrc_rows.proofs.iter.planes_of_backups.Goals as goal

pub returns : goal.returns
returns c =
    planes_of_backups c.args.facts.now (record {
      send = c.words.result;
      receive = record c.words.result { now = [] };
      once = record c.words.result { now = [] };
      few_of_send = c.words.ensures.few;
      few_of_receive = omega arith;
      few_of_once = omega arith;
    }) c.args.class c.words.ensures.shown
