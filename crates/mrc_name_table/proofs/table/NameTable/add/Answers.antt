use Rattle.std.proofs.Common.{◌∙◌, ap, map}
use Rattle.mrc_name_table.specs.Names.{with_name}
use Rattle.mrc_name_table.proofs.Tables.{added, text}
use Rattle.mrc_name_table.proofs.table.NameTable.add.Goals as goal

pub returns-clause-ok : goal.returns-clause-ok
returns-clause-ok c =
    ap (map text) c.in_ok-insert.ensures.keys
    ∙ (added c.self.inside.names.keys c.in_ok-from_str.field-0 c.args.name.now
    c.in_ok-from_str.ensures.ok
    ∙ ap (λ names. with_name names c.args.name.now) c.self.view_is)
