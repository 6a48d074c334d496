use Rattle.std.proofs.Common.{◌∙◌, sym}
use Rattle.mrc_index.proofs.PerishLaws.{stayed}
use Rattle.mrc_index.proofs.names.Names.turn_dead.Goals as goal

pub returns-else-is_dead : goal.returns-else-is_dead
returns-else-is_dead c =
    stayed c.args.self.now c.args.dead.now c.args.name c.args.entry.now c.requires
    (sym c.is_dead.ensures ∙ c.if-is_dead.false)
