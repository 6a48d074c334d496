-- The words on both sides of a place.
use Rattle.mrc_wide_text.specs.WideWords.{in_front, behind}
use Rattle.mrc_wide_text.proofs.ListLemmas.{taken, left_over}
use Rattle.mrc_wide_text.proofs.lists.list_and_rest.Goals as goal

pub returns-clause-front : goal.returns-clause-front
unfolding in_front
returns-clause-front c =
    taken c.args.words.now _ _ _ c.split_at.ensures.front c.list_len.ensures.exact

pub returns-clause-rest : goal.returns-clause-rest
unfolding behind
returns-clause-rest c =
    left_over c.args.words.now _ _ _ c.split_at.ensures.back c.list_len.ensures.exact
