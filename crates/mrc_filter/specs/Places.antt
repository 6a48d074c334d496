-- Believe. The place of a form, and what a slot admits. This profile's own choice.
use Rattle.std.specs.Prelude.{◌≡◌, ℕ, List, Some, Result, Ok, Err, if◌then◌else◌}
use Rattle.mrc_model.specs.declared.Denied.{Denied}
use Rattle.mrc_model.specs.declared.Denied.TheVariants.{NotAdmitted}
use Rattle.mrc_model.specs.Filter.{judge}
use Rattle.mrc_model.specs.Message.{Message}
use Rattle.mrc_model.specs.Wiring.{Wiring, Shape, admits}
use Rattle.mrc_wiring.specs.Finding.{form_at, sort_at}
use Rattle.mrc_filter.specs.declared.form.AcceptedForm.{AcceptedForm}

-- What the filter answers of a message to a port of the class. A form is answered with the place of
-- its item in the class's label, and with its id, which is the message's. No label has two forms of
-- one id, so there is no other such place.
abbrev pub IsJudged : Wiring → ℕ → Message → Result AcceptedForm Denied → Type 0
IsJudged W class m (Ok form) =
    (form_at W class form.item form.id ≡ Some form.found.now)
    × (judge W class m ≡ Ok form.found.now)
    × (form.id ≡ m.id)
IsJudged W class m (Err denied) = judge W class m ≡ Err denied

-- whether argument i of a form with these arguments may carry a port of class c
abbrev pub admitted : Wiring → List Shape → ℕ → ℕ → Result (Unit {0}) Denied
admitted W shapes i c = if admits W (sort_at shapes i) c then Ok tt else Err (NotAdmitted i)
