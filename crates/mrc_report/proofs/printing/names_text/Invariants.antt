-- The names so far.
use Rattle.std.proofs.Common.{◌≡◌, ◌++◌, string_bytes, flat_map, codes, take}
use Rattle.mrc_names.specs.Listings.{names_of}
use Rattle.mrc_report.specs.Printing.{named_word}
use Rattle.mrc_report.proofs.printing.names_text.Given as goal

abbrev pub invariant-loop-named : goal.invariant-loop-named
invariant-loop-named l =
    string_bytes l.text
    ≡ codes "names" ++ flat_map named_word (names_of (take l.named-index l.named-items))
