-- Proved of the definitions.
use Rattle.mrc_stand_for.proofs.ListLemmas.{all_but_are_the_others, others_are_not_the_holder}
use Rattle.mrc_stand_for.proofs.ListLemmas.{any_has_each_kind}
use Rattle.mrc_stand_for.proofs.laws.lists_leave_out.Goals as goal

pub returns : goal.returns
returns c = record {
  all_but = all_but_are_the_others;
  others = others_are_not_the_holder;
  any = any_has_each_kind;
}
