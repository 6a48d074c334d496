use Rattle.std.proofs.Common.{sym, ◌∙◌}
use Rattle.mrc_ports.proofs.Dropping.{bury_none}
use Rattle.mrc_ports.proofs.TableLaws.{bury_as}
use Rattle.mrc_ports.proofs.store.Store.bury_all.Goals as goal

pub returns-then-len-eq0 : goal.returns-then-len-eq0
returns-then-len-eq0 c =
    bury_none c.args.self.now c.args.dead.now (sym c.len.ensures ∙ c.if-len-eq0.true)

pub returns : goal.returns
returns c =
    bury_as c.args.dead.now c.self.inside.spaces c.bury_spaces.new.spaces c.self.inside.table
    c.bury_all.new.self c.args.self.now c.self.view_is c.bury_spaces.ensures c.bury_all.ensures
