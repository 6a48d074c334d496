-- Step. A wiring with its least set. This profile's own choice.
use Rattle.std.specs.Prelude.{List}
use Rattle.mrc_base.specs.declared.Fact.{Fact}
use Rattle.mrc_wiring.specs.Table.{Table}

-- A wiring by its table, and the facts that were found.
pub record Derived : Type 0 where
  pub table : Table
  pub facts : List Fact
