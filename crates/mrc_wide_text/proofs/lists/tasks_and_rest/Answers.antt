-- The words on both sides of a place.
use Rattle.mrc_wide_text.specs.WideWords.{tasks_in_front, tasks_behind}
use Rattle.mrc_wide_text.proofs.ListLemmas.{taken, left_over}
use Rattle.mrc_wide_text.proofs.lists.tasks_and_rest.Goals as goal

pub returns-clause-front : goal.returns-clause-front
unfolding tasks_in_front
returns-clause-front c =
    taken c.args.words.now _ _ _ c.split_at.ensures.front c.tasks_len.ensures.exact

pub returns-clause-rest : goal.returns-clause-rest
unfolding tasks_behind
returns-clause-rest c =
    left_over c.args.words.now _ _ _ c.split_at.ensures.back c.tasks_len.ensures.exact
