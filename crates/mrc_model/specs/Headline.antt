-- Law. The three laws of the headline, and the headline. The three laws above the checker and the
-- machine, and the headline that follows from them; and the laws of dying ports, of spaces and of
-- tasks. A set of facts is a test. This profile's own choice.
use Rattle.std.specs.Prelude.{◌≡◌, ℕ, Bool, List, Some, IsTrue}
use Rattle.mrc_base.specs.declared.Fact.{Fact}
use Rattle.mrc_model.specs.Map.{get, keys}
use Rattle.mrc_model.specs.Wiring.{Wiring, numbers_of}
use Rattle.mrc_model.specs.World.{World, Store, Task}
use Rattle.mrc_model.specs.Reply.{Call}
use Rattle.mrc_model.specs.Death.{has, Doomed, dies, dying}
use Rattle.mrc_model.specs.Step.{step}
use Rattle.mrc_model.specs.First.{first, is_sound}
use Rattle.mrc_model.specs.Runs.{Event, Run}
use Rattle.mrc_model.specs.Breach.{Forbid, Breach}
use Rattle.mrc_model.specs.Rules.{Has, Closed, ForbidsNone, SaysYes}
use Rattle.mrc_model.specs.Covers.{Covers, HasSpaces, IsWellFormed}

-- the first state is well formed, and every closed set covers it
abbrev pub FirstIsCovered : Type 0
FirstIsCovered =
    (W : Wiring) → IsTrue (is_sound W)
    → IsWellFormed (numbers_of W) (first W)
    × ((set : Fact → Bool) → Closed W (Has set) → Covers (Has set) (first W))

-- each call keeps a well formed world so, and covered by each closed set
abbrev pub StepIsCovered : Type 0
StepIsCovered =
    (W : Wiring) (set : Fact → Bool) → Closed W (Has set) → (w : World) (t : ℕ) (call : Call)
    → IsWellFormed (numbers_of W) w → Covers (Has set) w
    → IsWellFormed (numbers_of W) (step W w t call).0 × Covers (Has set) (step W w t call).0

-- a well formed world that is covered has no breach, where the set is closed and has nothing
-- forbidden
abbrev pub CoveredIsSafe : Type 0
CoveredIsSafe =
    (W : Wiring) (set : Fact → Bool) → Closed W (Has set)
    → (policy : List Forbid) → ForbidsNone policy (Has set)
    → (w : World) → IsWellFormed (numbers_of W) w → Covers (Has set) w → Breach W w policy → ⊥

-- where the checker says yes, no list of calls leads from the first state to a breach
abbrev pub RunsAreSafe : Type 0
RunsAreSafe =
    (W : Wiring) (policy : List Forbid) (set : Fact → Bool) → IsTrue (is_sound W)
    → SaysYes W policy set → (events : List Event) (w : World) → Run W (first W) events w
    → Covers (Has set) w × (Breach W w policy → ⊥)

-- the set has each port that dies where its ports do
abbrev pub HasDying : Store → Doomed → List ℕ → Type 0
HasDying s d set =
    (p : ℕ) → IsTrue (has (keys s.ports) p) → IsTrue (dies s d set p) → IsTrue (has set p)

-- the dying set has each port that dies, and is within each set that has these
abbrev pub DyingIsLeast : Type 0
DyingIsLeast =
    (s : Store) (d : Doomed) → HasDying s d (dying s d)
    × ((other : List ℕ) → HasDying s d other
    → (p : ℕ) → IsTrue (has (dying s d) p) → IsTrue (has other p))

-- in the first state all spaces are spaces
abbrev pub FirstHasSpaces : Type 0
FirstHasSpaces = (W : Wiring) → HasSpaces (first W)

-- and each call keeps them so
abbrev pub SpacesAreKept : Type 0
SpacesAreKept =
    (W : Wiring) (w : World) (t : ℕ) (call : Call) → HasSpaces w → HasSpaces (step W w t call).0

-- each call keeps all tasks, with their kernel ports and classes: a task's class is for good, and
-- no number of a task is given twice
abbrev pub TasksAreKept : Type 0
TasksAreKept =
    (W : Wiring) (w : World) (t : ℕ) (call : Call) (u : ℕ) (x : Task) → get w.tasks u ≡ Some x
    → (y : Task) × (get (step W w t call).0.tasks u ≡ Some y) × (y.kernel ≡ x.kernel)
    × (y.class ≡ x.class)
