-- Law. When two items of a label clash, in words apart from how it is found. This profile's own
-- choice.
use Rattle.std.specs.Prelude.{◌↔◌, List, [], IsTrue}
use Rattle.mrc_model.specs.declared.LabelItem.{LabelItem}
use Rattle.mrc_wiring.specs.Table.{Table, wiring_of}
use Rattle.mrc_wiring.specs.Labels.{clash_among, AreClashing}

-- the test finds that two items, at different places, have a form with the same id
abbrev pub ClashesAreTwoItems : Type 0
ClashesAreTwoItems =
    (table : Table) (items : List LabelItem)
    → IsTrue (clash_among table.interfaces [] items) ↔ AreClashing (wiring_of table) items
