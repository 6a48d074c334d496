-- Believe. How large a space is. This profile's own choice.
use Rattle.std.specs.Prelude.{◌<◌, ◌≤◌, ◌^◌}
use Rattle.mrc_base.specs.Limits.{limit_of_names}
use Rattle.mrc_model.specs.Map.{len, Each}
use Rattle.mrc_model.specs.World.{Space}

-- a space has 4,096 entries at most, under names of 32 bits
pub record IsBounded (x : Space) : Type 0 where
  pub few : len x ≤ limit_of_names
  pub short : Each (λ n e. n < 2 ^ 32) x
