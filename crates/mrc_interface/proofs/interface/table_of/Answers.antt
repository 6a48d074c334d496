use Rattle.std.proofs.Common.{map}
use Rattle.std.specs.Prelude.{string_bytes}
use Rattle.mrc_mig_parse.specs.Files.{Meaning}
use Rattle.mrc_mig_parse.specs.Meanings.{row_of}
use Rattle.mrc_interface.proofs.Finding.{are_forms}
use Rattle.mrc_interface.proofs.interface.table_of.Goals as goal

pub new-requires-clause-formed : goal.new-requires-clause-formed
new-requires-clause-formed c =
    let read : Meaning = record {
      name = string_bytes c.in_ok-name.name;
      base = c.base-base.result;
      rows = map row_of c.entries.result.now;
    } in
    are_forms read c.in_ok-rows.rows.items c.in_ok-rows.ensures.fault
