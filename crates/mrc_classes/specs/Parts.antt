-- Step. What tasks hold in the first state, as it is read from a list. This profile's own choice.
use Rattle.std.specs.Prelude.{◌<◌, List}
use Rattle.mrc_base.specs.declared.Fact.{Fact}
use Rattle.mrc_base.specs.declared.Fact.TheVariants.{Hold, Carry, Backup}
use Rattle.mrc_model.specs.IsIn.{IsIn}
use Rattle.mrc_model.specs.Wiring.{Wiring, classes}

-- a hold over the wiring's tasks and classes
abbrev pub IsHoldInRange : Wiring → Fact → Type 0
IsHoldInRange W (Hold t c r) = (t < W.tasks) × (c < classes W)
IsHoldInRange W (Carry d c r) = ⊥
IsHoldInRange W (Backup c d) = ⊥

-- one of these holds, over the wiring's tasks and classes
pub record IsListedHold (W : Wiring) (list : List Fact) (g : Fact) : Type 0 where
  pub there : IsIn g list
  pub within : IsHoldInRange W g
