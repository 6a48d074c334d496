-- Believe. Which line of a wiring gives a holding. This profile's own choice.
use Rattle.std.specs.Prelude.{◌≡◌, ℕ, Bool, true, false, List, [], ◌∷◌, Some, slice_get}
use Rattle.std.specs.Prelude.{if◌then◌else◌}
use Rattle.mrc_base.specs.declared.PortRight.{PortRight}
use Rattle.mrc_model.specs.Breach.{Holding}
use Rattle.mrc_model.specs.FirstHoldings.{given_holdings, given_classes}
use Rattle.mrc_wiring_text.specs.declared.reading.Line.{Line}
use Rattle.mrc_wiring_text.specs.declared.wiring.WiringSays.{WiringSays}
use Rattle.mrc_wiring_text.specs.declared.wiring.WiringSays.TheVariants as says
use Rattle.mrc_wiring.specs.Table.{Table, wiring_of}
use Rattle.mrc_why.specs.declared.given_lines.Given.{Given}

-- A wiring by its table, with the numbers of the lines that make its first state.
pub record Numbered : Type 0 where
  pub table : Table
  pub numbers : List ℕ

-- the line makes something of the first state: it says task, port or hold
abbrev pub is_first : WiringSays → Bool
is_first (says.Task task) = true
is_first (says.Port port receiver accepts) = true
is_first (says.Births task kind accepts) = false
is_first (says.HoldPort holder right port) = true
is_first (says.HoldTask holder task) = true
is_first (says.Admit subsystem type_name class) = false
is_first (says.Trust task verb right) = false
is_first says.RepliesFit = false

-- the numbers of those of the lines that make the first state, in order
abbrev pub first_numbers : List (Line WiringSays) → List ℕ
first_numbers [] = []
first_numbers (line ∷ lines) =
    if is_first line.says then line.number ∷ first_numbers lines else first_numbers lines

-- what a line gives, in the model's words
abbrev pub holding_of : Given → Holding
holding_of given = record { task = given.task; port = given.port; right = given.right }

-- it is the right of task t on a port whose class, among these by birth number, is c
pub record Gives (classes : List ℕ) (t c : ℕ) (r : PortRight) (given : Given) : Type 0 where
  pub of_task : given.task ≡ t
  pub of_right : given.right ≡ r
  pub of_class : slice_get classes given.port ≡ Some c

-- The line of number n gives task t the right on a port of class c: of the lines that make the
-- first state it is that of the place at which the wiring gives this.
pub record IsGivenBy (numbered : Numbered) (t c : ℕ) (r : PortRight) (n : ℕ) : Type 0 where
  pub place : ℕ
  pub port : ℕ
  pub number : slice_get numbered.numbers place ≡ Some n
  pub gives : slice_get (given_holdings (wiring_of numbered.table)) place
      ≡ Some record { task = t; port = port; right = r }
  pub class : slice_get (given_classes (wiring_of numbered.table)) port ≡ Some c
