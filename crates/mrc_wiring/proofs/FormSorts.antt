-- The number of the type of a form's slot, as the form with the numbers of types has it.
use Rattle.std.proofs.Common.{◌≡◌, ℕ, zero, suc, ◌+◌, ◌-◌, ◌<◌, true, List, [], ◌∷◌, None}
use Rattle.std.proofs.Common.{length, drop, Some, refl, ap, ◌∙◌, arith}
use Rattle.std.specs.Prelude.{slice_get, find, option_and_then, nat_le}
use Rattle.std.specs.Prelude.{if◌then◌else◌}
use Rattle.std.specs.Option.{option_map}
use Rattle.std.proofs.lemmas.Bool.{le-leb}
use Rattle.std.proofs.lemmas.Option.{slice_get-map}
use Rattle.mrc_model.specs.CallSend.{first_sort}
use Rattle.mrc_model.specs.Wiring.{Form, form_shapes, item_forms}
use Rattle.mrc_forms.specs.declared.form.MessageKind.{MessageKind}
use Rattle.mrc_forms.specs.declared.form.MessageKind.TheVariants.{Request, Reply}
use Rattle.mrc_forms.specs.Forms.{Argument, Slot, Form as TextForm}
use Rattle.mrc_forms.specs.Tables.{Row, Table as Interface, AreForms, first_id, form_in, place_of}
use Rattle.mrc_wiring.specs.Sorts.{Sort, sorts_of, sort_number}
use Rattle.mrc_wiring.specs.ModelForms.{slot_number, is_at, shapes_from, shapes_of}
use Rattle.mrc_wiring.specs.ModelForms.{model_form}
use Rattle.mrc_wiring.specs.Table.{Table, wiring_of}
use Rattle.mrc_wiring.specs.Finding.{item_of, has_id, message_forms, placed, sort_at}
use Rattle.mrc_wiring.proofs.Findings.{found_there, typed_there}

-- the type of an argument of a body
sort_from : (sorts : List Sort) (s : ℕ) (slots : List Slot) (k i n : ℕ) (arguments : List Argument)
    → i < length arguments
    → n ≡ k + i
    → first_sort (drop i (shapes_from sorts s slots k arguments))
    ≡ slot_number sorts s (find (is_at n) slots)
sort_from sorts s slots k i n [] less e = absurd (omega arith)
sort_from sorts s slots k zero n (a ∷ arguments) less e =
    let same : k ≡ n = omega arith in
    ap (λ m. slot_number sorts s (find (is_at m) slots)) same
sort_from sorts s slots k (suc i) n (a ∷ arguments) less e =
    sort_from sorts s slots (k + 1) i n arguments (omega arith) (omega arith)

shapes_same : (kind : MessageKind) (sorts : List Sort) (s : ℕ) (form : TextForm)
    → form_shapes (model_form kind sorts s form) ≡ shapes_of sorts s form
shapes_same Request sorts s form = refl
shapes_same Reply sorts s form = refl

-- of the form as this message
pub typed_sort : (kind : MessageKind) (sorts : List Sort) (s i : ℕ) (form : TextForm) (slot : Slot)
    → i < length form.arguments
    → find (is_at i) form.slots ≡ Some slot
    → sort_at (form_shapes (model_form kind sorts s form)) i ≡ sort_number sorts s slot.type_name
typed_sort kind sorts s i form slot less at =
    ap (λ shapes. sort_at shapes i) (shapes_same kind sorts s form)
    ∙ sort_from sorts s form.slots 0 i i form.arguments less (omega arith)
    ∙ ap (slot_number sorts s) at

item_messages : (kind : MessageKind) (table : Table) (s : ℕ)
    → item_forms (wiring_of table) (item_of kind s) ≡ message_forms kind (wiring_of table) s
item_messages Request table s = refl
item_messages Reply table s = refl

-- the place of a form's id is that of its row
place_is : (kind : MessageKind) (i : Interface) (place : ℕ) (row : Row) (form : TextForm)
    → AreForms i
    → slice_get i.rows place ≡ Some row
    → form_in kind row ≡ Some form
    → place_of kind i form.id ≡ Some place
place_is kind i place row form are at is =
    let id = (are kind place form (ap (option_and_then (form_in kind)) at ∙ is)).1 in
    let above : nat_le (first_id kind i) form.id ≡ true = le-leb _ _ (omega arith) in
    let rest : form.id - first_id kind i ≡ place = omega arith in
    ap (λ b. if b then Some (form.id - first_id kind i) else None) above ∙ ap Some rest

-- the form that has the id of a row's form is made of that form
pub typed_is : (table : Table) (kind : MessageKind) (s place : ℕ) (i : Interface) (row : Row)
    (form : TextForm)
    → slice_get table.interfaces s ≡ Some i
    → AreForms i
    → slice_get i.rows place ≡ Some row
    → form_in kind row ≡ Some form
    → find (has_id form.id) (item_forms (wiring_of table) (item_of kind s))
    ≡ Some (model_form kind (sorts_of table.interfaces) s form)
typed_is table kind s place i row form there are at is =
    let typed : TextForm → Form = model_form kind (sorts_of table.interfaces) s in
    ap (find (has_id form.id)) (item_messages kind table s)
    ∙ found_there table kind s form.id place i there are (place_is kind i place row form are at is)
    ∙ ap (λ forms. placed forms place) (typed_there table kind s i there)
    ∙ ap (option_and_then (λ o. o))
    (slice_get-map (λ (r : Row). option_map typed (form_in kind r)) i.rows place
    ∙ ap (option_map (λ (r : Row). option_map typed (form_in kind r))) at)
    ∙ ap (option_map typed) is
