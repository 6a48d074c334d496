-- Step. What is still to be destroyed after dropped references. From Mach 3 Kernel Interfaces,
-- mach_port_deallocate and mach_port_mod_refs.
use Rattle.std.specs.Prelude.{ℕ}
use Rattle.mrc_model.specs.World.{World}
use Rattle.mrc_model.specs.Target.{with_store}
use Rattle.mrc_model.specs.Destroyed.{ReceiveOf, EntryOf, destroyed}
use Rattle.mrc_names.specs.declared.dropping.Dropped.{Dropped}
use Rattle.mrc_names.specs.declared.dropping.Dropped.TheVariants.{References, ReceiveRight}
use Rattle.mrc_names.specs.declared.dropping.Dropped.TheVariants.{WholeEntry}

-- the world after what is left to be destroyed under a name of u went
abbrev pub after_drop : World → ℕ → ℕ → Dropped → World
after_drop w u n References = w
after_drop w u n ReceiveRight = with_store w (destroyed w.store (ReceiveOf u n))
after_drop w u n WholeEntry = with_store w (destroyed w.store (EntryOf u n))

-- nothing is left to be destroyed
abbrev pub IsDone : Dropped → Type 0
IsDone References = Unit {0}
IsDone ReceiveRight = ⊥
IsDone WholeEntry = ⊥
