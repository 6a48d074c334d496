use Rattle.mrc_rows.proofs.Iterating.{planes_of_task}
use Rattle.mrc_rows.proofs.iter.planes_of_task.Goals as goal

pub returns : goal.returns
returns c =
    planes_of_task c.args.facts.now (record {
      send = c.words.result;
      receive = c.words-2.result;
      once = c.words-3.result;
      few_of_send = c.words.ensures.few;
      few_of_receive = c.words-2.ensures.few;
      few_of_once = c.words-3.ensures.few;
    }) c.args.task c.words.ensures.shown c.words-2.ensures.shown
    c.words-3.ensures.shown
