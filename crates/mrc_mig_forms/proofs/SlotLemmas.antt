-- Slots, and the arguments that they are.
use Rattle.std.proofs.Common.{◌≡◌, ℕ, zero, suc, ◌+◌, List, [], ◌∷◌, ◌++◌, map}
use Rattle.std.proofs.Common.{Bool, true, false, Some, refl, sym, ap, ◌∙◌, subst, arith}
use Rattle.std.specs.Prelude.{slice_get, if◌then◌else◌}
use Rattle.std.specs.Option.{option_map}
use Rattle.std.proofs.lemmas.Option.{slice_get-map}
use Rattle.mrc_base.specs.declared.Disp.{Disp}
use Rattle.mrc_model.specs.IsIn.{IsIn, here, later}
use Rattle.mrc_base.proofs.Lists.{map_is}
use Rattle.mrc_model.proofs.Maps.{same_Some, not_None}
use Rattle.mrc_mig_bodies.specs.Bodies.{Item, form_of_item}
use Rattle.mrc_forms.specs.declared.form.FormKind.{FormKind}
use Rattle.mrc_forms.specs.declared.form.FormKind.TheVariants.{Request, Reply}
use Rattle.mrc_forms.specs.declared.types.ItemTypes.{ItemTypes}
use Rattle.mrc_forms.specs.Forms.{Argument, Slot}
use Rattle.mrc_forms.specs.Types.{dispositions_of, has_rights}
use Rattle.mrc_forms.proofs.Rights.{handed_is_right}
use Rattle.mrc_mig_forms.specs.Bodies.{argument_of, slots_from, body, form_of, type_name_of}
use Rattle.mrc_mig_forms.specs.Laws.{HasSlot}
use Rattle.mrc_mig_forms.specs.Shapes.{items_of}

-- what an item may be
abbrev types : Item → ItemTypes
types item = (items_of (form_of_item item)).types

-- a slot of this number and disposition is among these
abbrev HasSlotIn : List Slot → ℕ → Disp → Type 0
HasSlotIn slots i d =
    (slot : Slot) × IsIn slot slots × (slot.argument ≡ i) × IsIn d (dispositions_of slot.types)

-- the item in this place is of this disposition
abbrev IsPortAt : List Item → ℕ → Disp → Type 0
IsPortAt items j d = (item : Item) × (slice_get items j ≡ Some item)
    × IsIn d (dispositions_of (types item))

-- the slots, if the first item is one
abbrev slots_if : ℕ → Item → List Item → Bool → List Slot
slots_if n item items b =
    (if b then record { argument = n; types = types item; type_name = type_name_of item } ∷ []
    else []) ++ slots_from (n + 1) items

-- each slot is an item of its disposition
pub slot_is_port : (n : ℕ) (items : List Item) (i : ℕ) (d : Disp)
    → HasSlotIn (slots_from n items) i d → (j : ℕ) × (n + j ≡ i) × IsPortAt items j d
slot_is_port n [] i d h = elim h.1 [ ]
slot_is_port n (item ∷ items) i d h =
    by (has_rights (types item)) h (λ more.
    let (j, e, is) = slot_is_port (n + 1) items i d more in (suc j, omega (arith, e), is))
  where
    by : (b : Bool) → HasSlotIn (slots_if n item items b) i d
        → (HasSlotIn (slots_from (n + 1) items) i d
        → (j : ℕ) × (n + j ≡ i) × IsPortAt (item ∷ items) j d)
        → (j : ℕ) × (n + j ≡ i) × IsPortAt (item ∷ items) j d
    by false more later_on = later_on more
    by true (slot, here, e, of) later_on = (0, omega (arith, e), (item, refl, of))
    by true (slot, later there, e, of) later_on = later_on (slot, there, e, of)

-- each item of a disposition is a slot
pub port_is_slot : (n : ℕ) (items : List Item) (j : ℕ) (d : Disp) → IsPortAt items j d
    → HasSlotIn (slots_from n items) (n + j) d
port_is_slot n [] j d p = absurd (not_None p.0 (sym p.1))
port_is_slot n (item ∷ items) zero d p =
    let is : IsIn d (dispositions_of (types item)) =
    subst (λ (x : Item). IsIn d (dispositions_of (types x))) (sym (same_Some _ _ p.1))
    p.2 in
    let e : n ≡ n + 0 = omega arith in
    subst (λ (b : Bool). HasSlotIn (slots_if n item items b) (n + 0) d)
    (sym (handed_is_right (types item) d is))
    (record { argument = n; types = types item; type_name = type_name_of item }, here, e, is)
port_is_slot n (item ∷ items) (suc j) d p =
    let r = port_is_slot (n + 1) items j d p in
    let e : n + 1 + j ≡ n + suc j = omega arith in
    let by : (b : Bool) → HasSlotIn (slots_if n item items b) (n + suc j) d = elim [
      | false ↦ (r.0, r.1, r.2 ∙ e, r.3)
      | true ↦ (r.0, later r.1, r.2 ∙ e, r.3)
    ] in
    by (has_rights (types item))

-- the argument in this place carries port rights in this way
abbrev IsPortArgument : List Argument → ℕ → Disp → Type 0
IsPortArgument arguments i d = (argument : Argument) × (slice_get arguments i ≡ Some argument)
    × IsIn d (dispositions_of argument.items.types)

-- the same of the items
item_of_argument : (items : List Item) (j : ℕ) (d : Disp)
    → IsPortArgument (map argument_of items) j d → IsPortAt items j d
item_of_argument items j d p =
    let (item, at, is) = map_is argument_of (slice_get items j) p.0
    (sym (slice_get-map argument_of items j) ∙ p.1) in
    (item, at, subst (λ (a : Argument). IsIn d (dispositions_of a.items.types)) (sym is) p.2)

argument_of_item : (items : List Item) (j : ℕ) (d : Disp) → IsPortAt items j d
    → IsPortArgument (map argument_of items) j d
argument_of_item items j d p = (
  argument_of p.0,
  slice_get-map argument_of items j ∙ ap (option_map argument_of) p.1,
  p.2,
)

-- a slot of a form is one of its arguments
pub slot_is_argument : (name : List ℕ) (id : ℕ) (kind : FormKind) (items : List Item) (i : ℕ)
    (d : Disp) → HasSlot (form_of name id kind items) i d
    → IsPortArgument (form_of name id kind items).arguments i d
slot_is_argument name id (Request k) items i d h =
    let r = slot_is_port 0 (body items) i d h in
    let e : r.0 ≡ i = let z = r.1 in omega arith in
    subst (λ (j : ℕ). IsPortArgument (map argument_of (body items)) j d) e
    (argument_of_item (body items) r.0 d r.2)
slot_is_argument name id Reply items i d h =
    let r = slot_is_port 1 (body items) i d h in
    let e : suc r.0 ≡ i = let z = r.1 in omega arith in
    subst (λ (j : ℕ). IsPortArgument (form_of name id Reply items).arguments j d) e
    (argument_of_item (body items) r.0 d r.2)

-- an argument that carries port rights is a slot
pub argument_is_slot : (name : List ℕ) (id : ℕ) (kind : FormKind) (items : List Item) (i : ℕ)
    (d : Disp) → IsPortArgument (form_of name id kind items).arguments i d
    → HasSlot (form_of name id kind items) i d
argument_is_slot name id (Request k) items i d p =
    let e : 0 + i ≡ i = omega arith in
    subst (λ (j : ℕ). HasSlotIn (slots_from 0 (body items)) j d) e
    (port_is_slot 0 (body items) i d
    (item_of_argument (body items) i d p))
argument_is_slot name id Reply items zero d p =
    elim (subst (λ (a : Argument). IsIn d (dispositions_of a.items.types)) (sym (same_Some _ _ p.1))
    p.2) [ ]
argument_is_slot name id Reply items (suc j) d p =
    let e : 1 + j ≡ suc j = omega arith in
    subst (λ (k : ℕ). HasSlotIn (slots_from 1 (body items)) k d) e
    (port_is_slot 1 (body items) j d (item_of_argument (body items) j d p))
