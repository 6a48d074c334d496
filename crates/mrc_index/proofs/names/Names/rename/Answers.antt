use Rattle.mrc_index.proofs.UndoLaws.{renamed}
use Rattle.mrc_index.proofs.names.Names.rename.Goals as goal

pub returns-clause-ok : goal.returns-clause-ok
returns-clause-ok c =
    renamed c.args.self.now c.put.new.self c.remove.new.self c.args.old c.args.new c.args.entry
    c.requires.there c.requires.unused c.in_ok-put.ensures.ok c.remove.ensures.removed
