use Rattle.std.proofs.Common.{◌≡◌, drop}
use Rattle.std.specs.Str.{str_to_ascii_lowercase}
use Rattle.mrc_mig_symbols.specs.Tables.{plain, entry_of, AreLowercase}
use Rattle.mrc_mig_symbols.proofs.word.word_in.Given as goal

abbrev pub invariant-loop-spelling : goal.invariant-loop-spelling
invariant-loop-spelling l = AreLowercase (drop l.spelling-index l.table)
    × (entry_of (plain (drop l.spelling-index l.table)) (str_to_ascii_lowercase l.text)
    ≡ entry_of (plain l.table) (str_to_ascii_lowercase l.text))
