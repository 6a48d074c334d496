-- Law. How classes of births are numbered, in words apart from how they are kept. This profile's
-- own choice.
use Rattle.std.specs.Prelude.{◌≡◌, ℕ, ◌+◌, ◌<◌, ◌≤◌, ◌⊎◌, Some}
use Rattle.mrc_model.specs.Wiring.{Wiring, classes, births_class, HasKindZero}
use Rattle.mrc_wiring.specs.Table.{Table, IsTable, wiring_of}

-- births of task t and a kind come before those of task u and another kind: by task, and then by
-- kind
abbrev pub IsEarlier : ℕ → ℕ → ℕ → ℕ → Type 0
IsEarlier t kind u other = (t < u) ⊎ ((t ≡ u) × (kind < other))

-- the classes of births are those behind the wired ports and the kernel ports: each of these
-- numbers is that of the births of one task by one kind, they ascend by task and then by kind, and
-- each task has births of kind 0
pub record AreNumbered (W : Wiring) : Type 0 where
  pub behind : (t kind c : ℕ) → births_class W t kind ≡ Some c
      → (W.ports + W.tasks ≤ c) × (c < classes W)
  pub each : (c : ℕ) → W.ports + W.tasks ≤ c → c < classes W
      → (t : ℕ) × (kind : ℕ) × (t < W.tasks) × (births_class W t kind ≡ Some c)
  pub once : (t kind u other c : ℕ)
      → births_class W t kind ≡ Some c
      → births_class W u other ≡ Some c
      → (t ≡ u) × (kind ≡ other)
  pub ascending : (t kind u other c d : ℕ)
      → births_class W t kind ≡ Some c
      → births_class W u other ≡ Some d
      → IsEarlier t kind u other
      → c < d
  pub zeroth : HasKindZero W

-- they are numbered so in what the lines of a wiring mean
abbrev pub BirthsAreNumbered : Type 0
BirthsAreNumbered = (table : Table) → IsTable table → AreNumbered (wiring_of table)
