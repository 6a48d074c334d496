use Rattle.std.proofs.Common.{◌≡◌, drop}
use Rattle.std.specs.Str.{str_to_ascii_lowercase}
use Rattle.mrc_mig_symbols.specs.Tables.{plain, entry_of, AreLowercase}
use Rattle.mrc_mig_arguments.proofs.words.role_in.Given as goal

abbrev pub invariant-loop-word : goal.invariant-loop-word
invariant-loop-word l = AreLowercase (drop l.word-index l.table)
    × (entry_of (plain (drop l.word-index l.table)) (str_to_ascii_lowercase l.text)
    ≡ entry_of (plain l.table) (str_to_ascii_lowercase l.text))
