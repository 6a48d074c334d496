use Rattle.mrc_closure.proofs.Keeping.{merged_by}
use Rattle.mrc_closure.proofs.rounds.merge.Goals as goal

pub returns-clause-merged : goal.returns-clause-merged
returns-clause-merged c =
    merged_by c.args.facts.now c.args.found c.join_all.new.self c.in_ok-join_all.ensures.before
    c.in_ok-join_all.ensures.other c.in_ok-join_all.ensures.ascending c.requires
    c.in_ok-join_all.ensures.ok
