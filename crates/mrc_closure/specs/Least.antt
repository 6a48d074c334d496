-- Step. The least set as a list. This profile's own choice.
use Rattle.std.specs.Prelude.{◌<◌, ◌^◌, List, length, IsTrue}
use Rattle.mrc_base.specs.declared.Fact.{Fact}
use Rattle.mrc_model.specs.Wiring.{Wiring}
use Rattle.mrc_model.specs.Rules.{InRange, IsLeast}
use Rattle.mrc_facts.specs.Sets.{has, IsAscending}

-- it has the facts of the least closed set, in their order
pub record IsLeastList (W : Wiring) (facts : List Fact) : Type 0 where
  pub least : IsLeast W (has facts)
  pub in_range : (f : Fact) → IsTrue (has facts f) → InRange W f
  pub ascending : IsAscending facts
  pub few : length facts < 2 ^ 32
