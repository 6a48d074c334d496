-- Step. Giving that is refused. From Mach 3 Kernel Interfaces, mach_msg. That a space has at most
-- 4,096 entries is this profile's own choice.
use Rattle.std.specs.Prelude.{◌≡◌, ℕ, true, false}
use Rattle.mrc_base.specs.declared.memory.OrMemory.{OrMemory}
use Rattle.mrc_base.specs.declared.memory.OrMemory.TheVariants.{Fault, Memory}
use Rattle.mrc_model.specs.declared.Code.{Code}
use Rattle.mrc_model.specs.declared.Code.TheVariants.{KernNoSpace}
use Rattle.mrc_model.specs.World.{Store, space}
use Rattle.mrc_model.specs.Space.{is_over_full}

-- after the giving the task's space has more entries than it may have, and this is the code for it;
-- if memory ran out it has not
abbrev pub IsNotGiven : OrMemory Code → ℕ → Store → Type 0
IsNotGiven (Fault code) t s = (code ≡ KernNoSpace) × (is_over_full (space s t) ≡ true)
IsNotGiven Memory t s = is_over_full (space s t) ≡ false
