-- Law. Printing and reading agree. This profile's own choice.
use Rattle.std.specs.Prelude.{◌≡◌, ℕ, List, length, Some}
use Rattle.mrc_base.specs.declared.Fact.{Fact}
use Rattle.mrc_model.specs.Rules.{InRange}
use Rattle.mrc_wiring.specs.Births.{AreBirths, AreKinds}
use Rattle.mrc_wiring.specs.Names.{AreNames}
use Rattle.mrc_wiring.specs.Table.{Table, wiring_of}
use Rattle.mrc_words.specs.Words.{fact_text}
use Rattle.mrc_words.specs.Reading.{fact_named}

-- what is printed of a fact in range is read as the same fact
abbrev pub PrintedIsRead : Type 0
PrintedIsRead = (table : Table)
    → AreNames table.names
    → AreNames table.ports
    → AreBirths (length table.names) table.births
    → AreKinds table.births
    → (fact : Fact) → InRange (wiring_of table) fact
    → fact_named table (fact_text table fact) ≡ Some fact

-- what is read of a text is in range, and prints as the text
abbrev pub ReadIsPrinted : Type 0
ReadIsPrinted = (table : Table) (text : List ℕ) (fact : Fact)
    → fact_named table text ≡ Some fact
    → InRange (wiring_of table) fact × (fact_text table fact ≡ text)

-- no text names two facts
abbrev pub NamesOneFact : Type 0
NamesOneFact = (table : Table)
    → AreNames table.names
    → AreNames table.ports
    → AreBirths (length table.names) table.births
    → AreKinds table.births
    → (one other : Fact) → InRange (wiring_of table) one → InRange (wiring_of table) other
    → fact_text table one ≡ fact_text table other → one ≡ other
