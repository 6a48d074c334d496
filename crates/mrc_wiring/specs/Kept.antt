-- Step. What a wiring keeps next to its table, and what interfaces have with them: what is computed
-- from them, by the numbers of types and classes. This profile's own choice.
use Rattle.std.specs.Prelude.{◌≡◌, ℕ, List, Option, length, Vec}
use Rattle.std.specs.declared.alloc.Global.{Global}
use Rattle.mrc_forms.specs.declared.form.MessageKind.TheVariants.{Request, Reply}
use Rattle.mrc_forms.specs.Tables.{Table as Interface}
use Rattle.mrc_model.specs.FirstHoldings.{given_classes}
use Rattle.mrc_model.specs.Wiring.{Form}
use Rattle.mrc_wiring.specs.Admitting.{IsAdmitting}
use Rattle.mrc_wiring.specs.Births.{AreKinds}
use Rattle.mrc_wiring.specs.Trusting.{IsTrusting}
use Rattle.mrc_wiring.specs.Names.{AreNames}
use Rattle.mrc_wiring.specs.Sorts.{Sort, sorts_of}
use Rattle.mrc_wiring.specs.ModelForms.{typed_from}
use Rattle.mrc_wiring.specs.Table.{Table, IsTable, wiring_of}

-- the types are those of the port arguments of the interfaces; requests and replies are the forms
-- of the interfaces, with the numbers of types
abbrev pub AreTyped : List Interface → List Sort → List (List (Option Form))
    → List (List (Option Form)) → Type 0
AreTyped interfaces sorts requests replies =
    (sorts ≡ sorts_of interfaces)
    × (requests ≡ typed_from Request (sorts_of interfaces) 0 interfaces)
    × (replies ≡ typed_from Reply (sorts_of interfaces) 0 interfaces)

-- the table is one that lines can mean; the rows are those of what types admit, and of what trusted
-- tasks may do; and the classes are those of the ports of the first state
abbrev pub IsKept : Table → List (Vec ℕ Global) → List ℕ → List (Vec ℕ Global) → List ℕ → Type 0
IsKept table rows every trusting classes =
    IsTable table × AreNames table.names × AreNames table.ports × AreKinds table.births
    × IsAdmitting (length table.ports) (length table.names) table.births table.admits rows every
    × IsTrusting (length table.ports) (length table.names) table.births table.trusts trusting
    × (classes ≡ given_classes (wiring_of table))
