-- Of the lines so far all is there that is asked for.
use Rattle.std.proofs.Common.{◌≡◌, ◌++◌, map, take, flat_map}
use Rattle.std.specs.List.{All}
use Rattle.mrc_attack.specs.Attacks.{aim_of, broken_aims, IsAttack}
use Rattle.mrc_attack.proofs.attacking.add_attacks.Given as goal

abbrev pub invariant-loop-line : goal.invariant-loop-line
invariant-loop-line g l = record {
  aims : map aim_of l.found.items
      ≡ map aim_of l.initial.found.items
      ++ flat_map (broken_aims l.only) (take l.line-index l.broken);
  leaks : All (IsAttack l.hunt.listing l.hunt.wired.now) l.found.items;
}
