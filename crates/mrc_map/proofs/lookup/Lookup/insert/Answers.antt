use Rattle.mrc_map.proofs.LookupLaws.{gathered_insert}
use Rattle.mrc_map.proofs.lookup.Lookup.insert.Goals as goal

pub returns-clause-ok : goal.returns-clause-ok
returns-clause-ok g c =
    gathered_insert c.args.key c.args.value c.self.inside.entries.entries
    c.insert.new.self.entries _
    c.self.view_is c.in_ok-insert.ensures.updates.0
