-- Step. How the places of a round are dealt out among workers, and what follows at those of one. A
-- place is a number below that of the classes: at it are the task and the class of this number.
-- This profile's own choice.
use Rattle.std.specs.Prelude.{◌≡◌, ℕ, ◌<◌, ◌%◌, List, Result, IfOk}
use Rattle.std.specs.declared.alloc.AllocError.{AllocError}
use Rattle.mrc_base.specs.declared.Fact.{Fact}
use Rattle.mrc_model.specs.Wiring.{Wiring, classes}
use Rattle.mrc_facts.specs.Sets.{has}
use Rattle.mrc_classes.specs.Growing.{Below}
use Rattle.mrc_classes.specs.Following.{IsListOf}
use Rattle.mrc_classes.specs.Places.{AtPlace}

-- it follows from a new fact at the place, the set lacks it, and the place is this worker's turn
pub record AtTurn (W : Wiring) (facts new : List Fact) (worker workers place : ℕ) (g : Fact)
    : Type 0 where
  pub turn : place % workers ≡ worker
  pub at : AtPlace W (has facts) (has new) (has facts) place g

-- it follows from a new fact at one of the worker's places, and the set lacks it
unfoldable pub FromDealt : Wiring → List Fact → List Fact → ℕ → ℕ → Fact → Type 0
FromDealt W facts new worker workers = Below (classes W) (AtTurn W facts new worker workers)

-- it follows from a new fact at a place of one of the first n workers, and the set lacks it
pub record FromFirst (W : Wiring) (facts new : List Fact) (n workers : ℕ) (g : Fact) : Type 0 where
  pub worker : ℕ
  pub below : worker < n
  pub from : FromDealt W facts new worker workers g

-- what a worker found is what follows at its places and the set lacks
abbrev pub IsFind : Wiring → List Fact → List Fact → ℕ → ℕ → Result (List Fact) AllocError → Type 0
IsFind W facts new worker workers found =
    IfOk found (IsListOf (FromDealt W facts new worker workers))
