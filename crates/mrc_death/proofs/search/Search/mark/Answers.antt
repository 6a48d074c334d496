use Rattle.mrc_death.proofs.Keeping.{marked}
use Rattle.mrc_death.proofs.search.Search.mark.Goals as goal

pub returns : goal.returns
returns c = marked c.args.store.now c.args.doomed.now c.args.self.now c.insert.new.self c.args.port
    c.requires.kept c.requires.loses c.requires.settled c.in_ok-insert.ensures.ok
