-- Step. What a worker has promised. This profile's own choice.
use Rattle.std.specs.Prelude.{◌≡◌, ℕ, List}
use Rattle.mrc_base.specs.declared.Fact.{Fact}
use Rattle.mrc_wiring.specs.Table.{Table}
use Rattle.mrc_closure.specs.declared.workers.Part.{Part}

-- it is this worker at these facts
pub record IsWorking (table : Table) (facts new : List Fact) (worker workers : ℕ) (p : Part)
    : Type 0 where
  pub wired_is : p.wired.value ≡ table
  pub facts_is : p.facts.value ≡ facts
  pub new_is : p.new.value ≡ new
  pub worker_is : p.worker ≡ worker
  pub workers_is : p.workers ≡ workers
