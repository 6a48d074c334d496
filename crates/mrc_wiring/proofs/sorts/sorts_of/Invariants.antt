use Rattle.std.proofs.Common.{◌≡◌, ◌++◌, drop, length}
use Rattle.mrc_wiring.specs.Sorts.{sorts_from, sorts_of}
use Rattle.mrc_wiring.specs.SortPlaces.{AreBelow, HasFirsts}
use Rattle.mrc_wiring.proofs.sorts.sorts_of.Given as goal

-- the types so far and those of the interfaces that are left are all, and the first places are
-- known
abbrev pub invariant-loop-number : goal.invariant-loop-number
invariant-loop-number l = record {
  told : l.sorts.items ++ sorts_from l.number (drop l.number l.interfaces)
      ≡ sorts_of l.interfaces;
  below : AreBelow l.number l.sorts.items;
  count : length l.firsts.items ≡ l.number;
  firsts : HasFirsts l.sorts.items l.firsts.items;
}
