-- Step. A space before it was given rights. This profile's own choice.
use Rattle.mrc_model.specs.World.{Space}

-- the space before any right was given, and what it is now
pub record Giving : Type 0 where
  pub base : Space
  pub space : Space
