-- Step. What is kept next to the table while lines are read: what is computed from the lines so
-- far. This profile's own choice.
use Rattle.std.specs.Prelude.{◌≡◌, ℕ, ◌+◌, ◌*◌, ◌<◌, ◌++◌, Bool, false, List, [], ◌∷◌, length}
use Rattle.std.specs.Prelude.{slice_index, slice_index_or, slice_set, true}
use Rattle.std.specs.List.{list_any}
use Rattle.mrc_base.specs.Limits.{limit_of_tasks, limit_of_wired_ports}
use Rattle.mrc_base.specs.declared.PortRight.{PortRight}
use Rattle.mrc_base.specs.declared.PortRight.TheVariants.{Send, Receive, SendOnce}
use Rattle.mrc_model.specs.declared.LabelItem.{LabelItem}
use Rattle.mrc_model.specs.declared.FirstLine.TheVariants.{Hold as HoldLine}
use Rattle.mrc_model.specs.Breach.{Holding}
use Rattle.mrc_model.specs.FirstHoldings.{names_given, is_named, line_holdings}
use Rattle.mrc_wiring.specs.Births.{AreKinds}
use Rattle.mrc_wiring.specs.Table.{Table, IsTable, kernel_births, port_births}
use Rattle.mrc_wiring.specs.Names.{AreNames}
use Rattle.mrc_wiring.specs.Resolving.{with_task, with_port, with_line}

-- how many ports the first state has, at most
abbrev pub limit_of_first_ports : ℕ
limit_of_first_ports = limit_of_tasks + limit_of_wired_ports

-- counts of names by task, and marks by task and port
pub record Given : Type 0 where
  pub counts : List ℕ
  pub marks : List Bool

-- the place of the mark of a task and a port
abbrev pub mark_place : ℕ → ℕ → ℕ
mark_place t p = t * limit_of_first_ports + p

-- the marks after one more right: a send-once right has a name of its own, and marks none
abbrev pub marks_with : List Bool → ℕ → ℕ → PortRight → List Bool
marks_with marks t p SendOnce = marks
marks_with marks t p Send = slice_set marks (mark_place t p) true
marks_with marks t p Receive = slice_set marks (mark_place t p) true

-- there is a count for each task, and a mark for each task and port that there may be
abbrev pub HasPlaces : Given → Type 0
HasPlaces given =
    (length given.counts ≡ limit_of_tasks)
    × (length given.marks ≡ limit_of_tasks * limit_of_first_ports)

-- the counts are those of the names that these holdings give, and the marks say which ports a task
-- has a send or receive right on
pub record IsGiven (held : List Holding) (given : Given) : Type 0 where
  pub counted : (t : ℕ) → t < limit_of_tasks
      → slice_index given.counts t ≡ names_given t [] held
  pub marked : (t p : ℕ) → t < limit_of_tasks → p < limit_of_first_ports
      → slice_index_or given.marks (mark_place t p) false ≡ list_any (is_named t p) held

-- one more right is given
abbrev pub held_more : List Holding → ℕ → ℕ → PortRight → List Holding
held_more held t p right = held ++ record { task = t; port = p; right = right } ∷ []

-- the names after one more right was given
abbrev pub GivesMore : Given → ℕ → ℕ → PortRight → Given → Type 0
GivesMore old t p right new =
    (held : List Holding) → IsGiven held old → IsGiven (held_more held t p right) new

-- the table so far, the birth numbers of kernel ports and of wired ports, and the names that tasks
-- have
pub record State : Type 0 where
  pub table : Table
  pub kernels : List ℕ
  pub wired : List ℕ
  pub given : Given

-- it is what the table's lines say, and the table is one that lines can mean
pub record IsState (state : State) : Type 0 where
  pub is_table : IsTable state.table
  pub kernels : state.kernels ≡ kernel_births 0 state.table.lines
  pub wired : state.wired ≡ port_births 0 state.table.lines
  pub given : IsGiven (line_holdings 0 0 state.table.lines) state.given
  pub kinds : AreKinds state.table.births
  pub names : AreNames state.table.names
  pub ports : AreNames state.table.ports

-- the birth number of the next port
abbrev pub next_birth : Table → ℕ
next_birth table = length table.names + length table.ports

-- one more task
abbrev pub state_with_task : State → List ℕ → Given → State
state_with_task state name given = record {
  table = with_task state.table name;
  kernels = state.kernels ++ next_birth state.table ∷ [];
  wired = state.wired;
  given = given;
}

-- one more wired port
abbrev pub state_with_port : State → List ℕ → ℕ → List LabelItem → Given → State
state_with_port state name t label given = record {
  table = with_port state.table name t label;
  kernels = state.kernels;
  wired = state.wired ++ next_birth state.table ∷ [];
  given = given;
}

-- one more hold
abbrev pub state_with_hold : State → ℕ → ℕ → PortRight → Given → State
state_with_hold state t p right given = record {
  table = with_line state.table (HoldLine t p right);
  kernels = state.kernels;
  wired = state.wired;
  given = given;
}
