use Rattle.std.proofs.Common.{◌∙◌, ap, sym, position, bytes_eq}
use Rattle.mrc_name_table.proofs.Tables.{position_mapped, text}
use Rattle.mrc_name_table.proofs.table.NameTable.number_of.Goals as goal

pub returns-clause-exact : goal.returns-clause-exact
returns-clause-exact c =
    c.get_index_of.ensures.index
    ∙ (sym (position_mapped (bytes_eq c.args.name.now) text c.self.inside.names.keys)
    ∙ ap (position (bytes_eq c.args.name.now)) c.self.view_is)
