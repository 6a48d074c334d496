-- Believe. What a caller of `Wired::resolve` and of `Wired::over` sees. This profile's own choice.
use Rattle.std.specs.Prelude.{◌≡◌, List, Option, Some, None, Result, Ok, Err}
use Rattle.mrc_base.specs.Reading.{Refuses}
use Rattle.mrc_base.specs.declared.memory.OrMemory.{OrMemory}
use Rattle.mrc_forms.specs.Tables.{Table as Interface}
use Rattle.mrc_wiring_text.specs.declared.reading.Edition.{Edition}
use Rattle.mrc_wiring.specs.declared.faults.ResolveFault.{ResolveFault}
use Rattle.mrc_wiring.specs.declared.resolving.NotResolved.{NotResolved}
use Rattle.mrc_wiring.specs.Table.{Table}
use Rattle.mrc_wiring.specs.Resolving.{started, empty_table}
use Rattle.mrc_wiring.specs.State.{State}

-- the table is this one, or the interfaces come back unchanged with this fault or with out of
-- memory
abbrev pub ResolveTold : List Interface → Result Table NotResolved → Result Table ResolveFault
    → Type 0
ResolveTold interfaces (Ok table) said = said ≡ Ok table
ResolveTold interfaces (Err refused) said =
    Refuses refused.why said × (refused.interfaces.items ≡ interfaces)

-- the same over interfaces with the numbers of types
abbrev pub OverTold : List Interface → Result Table (List Interface × OrMemory ResolveFault)
    → Result Table ResolveFault → Type 0
OverTold interfaces (Ok table) said = said ≡ Ok table
OverTold interfaces (Err refused) said = Refuses refused.1 said × (refused.0 ≡ interfaces)

-- the same for a table with what is kept next to it
abbrev pub StateTold : List Interface → Result State (List Interface × OrMemory ResolveFault)
    → Result Table ResolveFault → Type 0
StateTold interfaces (Ok state) said = said ≡ Ok state.table
StateTold interfaces (Err refused) said = Refuses refused.1 said × (refused.0 ≡ interfaces)

-- the fault of a list of interfaces, or none if a wiring of the edition can have them
abbrev pub FaultOrStarts : Option ResolveFault → Edition → List Interface → Type 0
FaultOrStarts None edition interfaces = started edition interfaces ≡ Ok (empty_table interfaces)
FaultOrStarts (Some fault) edition interfaces = started edition interfaces ≡ Err fault
