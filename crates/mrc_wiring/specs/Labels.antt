-- Believe. What a class accepts, by the numbers of interfaces, and when two items of it clash. This
-- profile's own choice.
use Rattle.std.specs.Prelude.{◌≡◌, ℕ, ◌<◌, ◌==◌, ◌||◌, ◌++◌, Bool, false, List, [], ◌∷◌, map}
use Rattle.std.specs.Prelude.{bytes_eq, position, slice_get, Option, Some, None, Result, Ok}
use Rattle.std.specs.List.{list_any}
use Rattle.std.specs.Option.{option_map, ok_or}
use Rattle.mrc_base.specs.Reading.{◌>>=◌}
use Rattle.mrc_model.specs.declared.LabelItem.{LabelItem}
use Rattle.mrc_model.specs.declared.LabelItem.TheVariants as label
use Rattle.mrc_model.specs.IsIn.{IsIn}
use Rattle.mrc_model.specs.Wiring.{Wiring, Form as ModelForm, form_id, item_forms}
use Rattle.mrc_forms.specs.declared.form.MessageKind.{MessageKind}
use Rattle.mrc_forms.specs.declared.form.MessageKind.TheVariants as messages
use Rattle.mrc_forms.specs.Forms.{Form}
use Rattle.mrc_forms.specs.Tables.{Table as Interface, forms_by}
use Rattle.mrc_wiring_text.specs.declared.items.Item.{Item}
use Rattle.mrc_wiring_text.specs.declared.items.Item.TheVariants.{Request, Reply, Destroyed}
use Rattle.mrc_wiring.specs.declared.faults.ResolveFault.{ResolveFault}
use Rattle.mrc_wiring.specs.declared.faults.ResolveFault.TheVariants.{UnknownName}

-- the number of the interface of a name
abbrev pub interface_number : List Interface → List ℕ → Option ℕ
interface_number interfaces name =
    position (λ (interface : Interface). bytes_eq name interface.name) interfaces

-- an item, if it names an interface that is there
abbrev pub item_said : List Interface → Item → Option LabelItem
item_said interfaces (Request name) = option_map label.Request (interface_number interfaces name)
item_said interfaces (Reply name) = option_map label.Reply (interface_number interfaces name)
item_said interfaces Destroyed = Some label.Destroyed

-- the items of the line of this number
abbrev pub label_said : List Interface → ℕ → List Item → Result (List LabelItem) ResolveFault
label_said interfaces n [] = Ok []
label_said interfaces n (item ∷ items) = do
  first ← ok_or (item_said interfaces item) (UnknownName n)
  others ← label_said interfaces n items
  Ok (first ∷ others)

-- the ids of this message of an interface, if there is one
abbrev pub ids_by : MessageKind → Option Interface → List ℕ
ids_by kind None = []
ids_by kind (Some interface) = map (λ (form : Form). form.id) (forms_by kind interface)

-- the ids of the forms that an item stands for
abbrev pub ids_of : List Interface → LabelItem → List ℕ
ids_of interfaces (label.Request s) = ids_by messages.Request (slice_get interfaces s)
ids_of interfaces (label.Reply s) = ids_by messages.Reply (slice_get interfaces s)
ids_of interfaces label.Destroyed = []

-- the number is one of these
abbrev pub is_known : List ℕ → ℕ → Bool
is_known known id = list_any (λ other. other == id) known

-- an item has a form whose id is one of these, or is that of a form of an item before it
abbrev pub clash_among : List Interface → List ℕ → List LabelItem → Bool
clash_among interfaces known [] = false
clash_among interfaces known (item ∷ items) =
    list_any (is_known known) (ids_of interfaces item)
    || clash_among interfaces (known ++ ids_of interfaces item) items

-- the id is that of a form that the item stands for, in the definitions' words
abbrev pub HasId : Wiring → LabelItem → ℕ → Type 0
HasId W item id = (form : ModelForm) × IsIn form (item_forms W item) × (form_id form ≡ id)

-- two items of a label, at different places, have a form with the same id
pub record AreClashing (W : Wiring) (items : List LabelItem) : Type 0 where
  pub first : ℕ
  pub second : ℕ
  pub one : LabelItem
  pub other : LabelItem
  pub id : ℕ
  pub order : first < second
  pub first_is : slice_get items first ≡ Some one
  pub second_is : slice_get items second ≡ Some other
  pub of_one : HasId W one id
  pub of_other : HasId W other id
