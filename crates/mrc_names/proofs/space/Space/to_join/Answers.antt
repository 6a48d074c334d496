use Rattle.mrc_names.proofs.GivingLaws.{given_once, join_cases}
use Rattle.mrc_names.proofs.space.Space.to_join.Goals as goal

pub returns-in-SendOnce-clause-none : goal.returns-in-SendOnce-clause-none
returns-in-SendOnce-clause-none c =
    given_once c.args.self.now c.args.port c.args.right c.in-SendOnce.is

pub returns : goal.returns
returns c =
    let found = join_cases c.find_entry.result c.args.self.now c.args.port c.args.right
    c.find_entry.ensures c.in_default.not-SendOnce in
    record { some = found.0; none = found.1 }
