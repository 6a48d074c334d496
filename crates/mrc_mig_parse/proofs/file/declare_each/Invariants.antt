use Rattle.std.proofs.Common.{◌≡◌, map, drop}
use Rattle.mrc_mig_parse.specs.Files.{declared_with_all}
use Rattle.mrc_mig_parse.proofs.FileLemmas.{row_of}
use Rattle.mrc_mig_parse.proofs.file.declare_each.Given as goal

abbrev pub invariant-loop-name : goal.invariant-loop-name
invariant-loop-name l = declared_with_all l.types
    (map row_of (drop l.name-index l.table)) ≡ declared_with_all l.fn.types
    (map row_of l.table)
