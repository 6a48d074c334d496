use Rattle.std.proofs.Common.{ap}
use Rattle.std.proofs.lemmas.Map.Text.{btree_map_updates_str}
use mathlib.Core.Path.{fun_ext}
use Rattle.mrc_mig_types.specs.Table.{Declared}
use Rattle.mrc_mig_types.proofs.table.Types.declare.Goals as goal

pub returns : goal.returns
returns c =
    ap (λ (types : Declared). record {
      declared = types;
      is_included = c.args.self.now.is_included;
    })
    (fun_ext (λ name. btree_map_updates_str c.args.name.now c.args.self.now.declared
    c.insert.new.self _ c.in_ok-insert.ensures.updates name))
