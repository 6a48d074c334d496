use Rattle.std.proofs.Common.{◌≡◌, take, flat_map, string_bytes}
use Rattle.mrc_attack.specs.Attacks.{cut_line}
use Rattle.mrc_attack.proofs.printing.cut_text.Given as goal

abbrev pub invariant-loop-attack : goal.invariant-loop-attack
invariant-loop-attack l =
    string_bytes l.text ≡ flat_map cut_line (take l.attack-index l.found)
