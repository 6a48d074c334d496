use Rattle.std.proofs.Common.{◌≡◌, take, flat_map, string_bytes}
use Rattle.mrc_attack.specs.Attacks.{attack_text}
use Rattle.mrc_attack.proofs.printing.attacks_text.Given as goal

abbrev pub invariant-loop-attack : goal.invariant-loop-attack
invariant-loop-attack l =
    string_bytes l.text ≡ flat_map (attack_text l.listing l.wired) (take l.attack-index l.found)
