use Rattle.std.proofs.Common.{subst, sym}
use Rattle.mrc_wiring.specs.Table.{Table, wiring_of}
use Rattle.mrc_slots.specs.Masks.{HasMasks, IsMask, is_any}
use Rattle.mrc_slots.proofs.slots.Slots.new.Goals as goal

pub invariant_of-result : goal.invariant_of-result
invariant_of-result c = subst
    (λ (table : Table). HasMasks (wiring_of table) c.in_ok-taken.taken.items c.in_ok-all.all.items
    c.in_ok-notified.notified.items c.in_ok-repliers.repliers)
    (sym c.in_ok-copy.ensures)
    record {
      taken = c.in_ok-taken.ensures;
      all = subst (λ m. IsMask is_any m c.in_ok-all.all.items) c.classes.ensures.exact
          c.in_ok-all.ensures;
      notified = c.in_ok-notified.ensures;
      repliers_are = c.in_ok-repliers.ensures;
    }
