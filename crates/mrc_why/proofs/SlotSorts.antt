-- The number of the type of a form's slot, as the form with the numbers of types has it.
use Rattle.std.proofs.Common.{◌≡◌, ℕ, ◌+◌, ◌-◌, ◌<◌, [], ◌∷◌}
use Rattle.std.proofs.Common.{Some, refl, ap, subst, ◌∙◌}
use Rattle.std.specs.Prelude.{slice_get, find}
use Rattle.std.specs.Prelude.{if◌then◌else◌}
use Rattle.std.proofs.lemmas.Option.{same_Some, slice_get_within}
use Rattle.mrc_model.specs.Wiring.{Form, form_shapes, item_forms}
use Rattle.mrc_forms.specs.declared.form.MessageKind.{MessageKind}
use Rattle.mrc_forms.specs.Forms.{Argument, Slot, Form as TextForm}
use Rattle.mrc_forms.specs.Tables.{Row, Table as Interface, AreForms, form_in}
use Rattle.mrc_wiring.specs.Sorts.{sorts_of, sort_number}
use Rattle.mrc_wiring.specs.ModelForms.{is_at}
use Rattle.mrc_wiring.specs.ModelForms.{model_form}
use Rattle.mrc_wiring.specs.Table.{Table, wiring_of}
use Rattle.mrc_wiring.specs.Finding.{has_id, sort_at, item_of}
use Rattle.mrc_wiring.proofs.FormSorts.{typed_sort, typed_is}
use Rattle.mrc_model.specs.IsIn.{IsIn}
use Rattle.mrc_why.specs.declared.origins.SlotNames.{SlotNames}
use Rattle.mrc_why.specs.declared.slots.Passing.{Passing}
use Rattle.mrc_why.specs.Sources.{IsPassing, IsItemSlot}
use Rattle.mrc_why.specs.Slots.{IsFormPlace}
use Rattle.mrc_why.proofs.Members.{get_in}

-- so the type of its slot has the number that the wiring gives to the slot's type
pub sort_is : (table : Table) (kind : MessageKind) (s place i : ℕ) (interface : Interface)
    (row : Row) (form : TextForm) (typed : Form) (argument : Argument) (slot : Slot)
    → slice_get table.interfaces s ≡ Some interface
    → AreForms interface
    → slice_get interface.rows place ≡ Some row
    → form_in kind row ≡ Some form
    → Some typed ≡ find (has_id form.id) (item_forms (wiring_of table) (item_of kind s))
    → slice_get form.arguments i ≡ Some argument
    → find (is_at i) form.slots ≡ Some slot
    → sort_at (form_shapes typed) i ≡ sort_number (sorts_of table.interfaces) s slot.type_name
sort_is table kind s place i interface row form typed argument slot there are at is found arg by =
    ap (λ t. sort_at (form_shapes t) i)
    (same_Some typed (model_form kind (sorts_of table.interfaces) s form)
    (found ∙ typed_is table kind s place interface row form there are at is))
    ∙ typed_sort kind (sorts_of table.interfaces) s i form slot
    (slice_get_within form.arguments i argument arg) by

-- what is found in a form is a slot of the item
pub item_slot : (table : Table) (kind : MessageKind) (s : ℕ) (interface : Interface) (row : Row)
    (form : TextForm) (typed : Form) (passing : Passing) (names : SlotNames)
    → slice_get table.interfaces s ≡ Some interface
    → AreForms interface
    → IsIn row interface.rows
    → form_in kind row ≡ Some form
    → Some typed ≡ find (has_id form.id) (item_forms (wiring_of table) (item_of kind s))
    → IsFormPlace (wiring_of table) interface form typed passing names
    → IsItemSlot table (item_of kind s) passing.class passing.held passing.right names
item_slot table kind s interface row form typed passing names there are among is found x =
    let at = get_in interface.rows row among in
    let sort = sort_is table kind s at.0 x.place interface row form typed x.argument x.slot there
    are at.1 is found x.is.at x.is.is in
    record {
      at = record {
        kind = kind;
        number = s;
        interface = interface;
        row = row;
        form = form;
        place = x.place;
        argument = x.argument;
        slot = x.slot;
      };
      stands = record { interface = there; row = among; form = is; argument = x.is };
      of_item = refl;
      passes = subst (λ n. IsPassing (wiring_of table) passing.class passing.held passing.right
          x.slot n) sort x.passes;
      named = x.named;
    }
