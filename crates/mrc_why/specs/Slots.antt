-- Step. What the search for a slot has found. This profile's own choice.
use Rattle.std.specs.Prelude.{◌≡◌, ℕ, Option, Some, None}
use Rattle.mrc_model.specs.Wiring.{Wiring, Form as ModelForm, form_shapes}
use Rattle.mrc_forms.specs.Forms.{Argument, Slot, Form}
use Rattle.mrc_forms.specs.Tables.{Table as Interface}
use Rattle.mrc_wiring.specs.Finding.{sort_at}
use Rattle.mrc_why.specs.declared.origins.SlotNames.{SlotNames}
use Rattle.mrc_why.specs.declared.slots.Passing.{Passing}
use Rattle.mrc_why.specs.Sources.{IsArgument, AreNamesOf, BringsReply, IsPassing}

-- an argument of the form is a slot of these names and lets the right pass; its type is that of
-- the argument in the form with the numbers of types
pub record IsFormPlace (W : Wiring) (interface : Interface) (form : Form) (typed : ModelForm)
    (passing : Passing) (names : SlotNames) : Type 0 where
  pub place : ℕ
  pub argument : Argument
  pub slot : Slot
  pub is : IsArgument form place argument slot
  pub passes : IsPassing W passing.class passing.held passing.right slot
      (sort_at (form_shapes typed) place)
  pub named : AreNamesOf interface form argument slot names

-- there is a form, and it is that of a request which may bring a reply right
abbrev pub IsRoutineForm : Option Form → Type 0
IsRoutineForm None = ⊥
IsRoutineForm (Some form) = BringsReply form.kind
