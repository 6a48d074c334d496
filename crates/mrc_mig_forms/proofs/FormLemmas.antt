-- A form with one item of its body more.
use Rattle.std.proofs.Common.{◌≡◌, ◌≤◌, ◌<◌, ℕ, suc, ◌+◌, List, [], ◌∷◌, ◌++◌, length}
use Rattle.std.proofs.Common.{map, drop, get_or, refl, ap, sym, ◌∙◌, arith, append_assoc, drop-cons}
use Rattle.std.proofs.Common.{length-append, add-one, subst}
use Rattle.mrc_base.specs.Limits.{limit_of_arguments}
use Rattle.mrc_forms.specs.Forms.{Argument as Shown, Slot, Form, with_argument}
use Rattle.mrc_mig_bodies.specs.declared.bodies.Entry.{Entry}
use Rattle.mrc_mig_bodies.specs.Bodies.{Item, Argument, CountOf, ReturnCode, item_of}
use Rattle.mrc_mig_bodies.specs.Bodies.{form_of_item}
use Rattle.mrc_mig_forms.specs.Bodies.{argument_of, body, slots_from, slot_of_item, with_item}
use Rattle.mrc_mig_forms.specs.Bodies.{name_of, type_name_of}
use Rattle.mrc_mig_forms.specs.Shapes.{items_of}

-- a form with these items behind its own
abbrev pub filled : Form → List Item → Form
filled form items = record form {
  arguments = form.arguments ++ map argument_of (body items);
  slots = form.slots ++ slots_from (length form.arguments) (body items);
}

-- the rest of a body behind a form, up to the whole
abbrev pub Goes : Form → List Item → Form → Type 0
Goes form items whole =
    (length form.arguments + length (body items) ≤ limit_of_arguments + 1)
    × (filled form items ≡ whole)

-- forms of equal parts
same_parts : (form : Form) (arguments others : List Shown) (slots more : List Slot)
    → arguments ≡ others → slots ≡ more
    → record form { arguments = arguments; slots = slots }
    ≡ record form { arguments = others; slots = more }
same_parts form arguments others slots more e f = rw (e, f) refl

-- an item that does not stand in front
pushed : (form whole : Form) (item : Item) (items : List Item)
    → (length form.arguments + suc (length (body items)) ≤ limit_of_arguments + 1)
    × (record form {
      arguments = form.arguments ++ argument_of item ∷ map argument_of (body items);
      slots = form.slots ++ (slot_of_item (length form.arguments) item
          ++ slots_from (length form.arguments + 1) (body items));
    } ≡ whole)
    → Goes (with_argument form (name_of item) (items_of (form_of_item item)) (type_name_of item))
    items whole
pushed form whole item items (le, e) =
    let one : length (form.arguments ++ argument_of item ∷ []) ≡ length form.arguments + 1 =
    length-append form.arguments (argument_of item ∷ []) in (
      omega (arith, le, one),
      same_parts form ((form.arguments ++ argument_of item ∷ []) ++ map argument_of (body items))
          (form.arguments ++ argument_of item ∷ map argument_of (body items))
          ((form.slots ++ slot_of_item (length form.arguments) item)
          ++ slots_from (length (form.arguments ++ argument_of item ∷ [])) (body items))
          (form.slots ++ (slot_of_item (length form.arguments) item
          ++ slots_from (length form.arguments + 1) (body items)))
          (append_assoc form.arguments (argument_of item ∷ []) (map argument_of (body items)))
          (ap (λ n. (form.slots ++ slot_of_item (length form.arguments) item)
          ++ slots_from n (body items)) one
          ∙ append_assoc form.slots (slot_of_item (length form.arguments) item)
          (slots_from (length form.arguments + 1) (body items)))
          ∙ e,
    )

item_more : (form whole : Form) (item : Item) (items : List Item) → Goes form (item ∷ items) whole
    → Goes (with_item form item) items whole
item_more form whole (Argument name type_name meant) items goes =
    pushed form whole (Argument name type_name meant) items goes
item_more form whole (CountOf name) items goes = pushed form whole (CountOf name) items goes
item_more form whole ReturnCode items goes = goes

-- the entry in this place
pub entry_more : (form new whole : Form) (entries : List Entry) (i : ℕ) (d : Entry)
    → i < length entries → new ≡ with_item form (item_of (get_or entries i d))
    → Goes form (map item_of (drop i entries)) whole
    → Goes new (map item_of (drop (i + 1) entries)) whole
entry_more form new whole entries i d less is goes =
    let first : map item_of (drop i entries)
    ≡ item_of (get_or entries i d) ∷ map item_of (drop (i + 1) entries) =
    ap (map item_of) (drop-cons entries i d less)
    ∙ ap (λ k. item_of (get_or entries i d) ∷ map item_of (drop k entries)) (sym (add-one i)) in
    subst (λ (f : Form). Goes f (map item_of (drop (i + 1) entries)) whole) (sym is)
    (item_more form whole (item_of (get_or entries i d)) (map item_of (drop (i + 1) entries))
    (subst (λ (xs : List Item). Goes form xs whole) first goes))
