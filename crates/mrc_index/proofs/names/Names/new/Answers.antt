use Rattle.mrc_index.proofs.IndexLaws.{new_indexed}
use Rattle.mrc_index.proofs.names.Names.new.Goals as goal

pub invariant_of-result : goal.invariant_of-result
invariant_of-result c =
    new_indexed _ _ _ _ c.new.ensures c.new-2.ensures c.new-3.ensures
    c.all_free.ensures.bits c.all_free.ensures.len
