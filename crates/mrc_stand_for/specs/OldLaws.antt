-- Law. A line with one name in each of its lists, each of which is there, is the line of version 3
-- with these names.
use Rattle.std.specs.Prelude.{◌≡◌, ℕ, true, List, [], ◌∷◌}
use Rattle.mrc_wiring_text.specs.declared.items.Item.{Item}
use Rattle.mrc_wiring_text.specs.declared.wiring.HeldRight.TheVariants as held
use Rattle.mrc_wiring_text.specs.declared.wiring.WiringSays.TheVariants as core
use Rattle.mrc_stand_for.specs.declared.known.Known.{Known}
use Rattle.mrc_stand_for.specs.declared.wide.Place.TheVariants as place
use Rattle.mrc_stand_for.specs.declared.wide.Tasks.TheVariants as tasks
use Rattle.mrc_stand_for.specs.declared.wide.WideSays.TheVariants as says
use Rattle.mrc_stand_for.specs.declared.wide.Whom.TheVariants as whom
use Rattle.mrc_stand_for.specs.Once.{is_among}
use Rattle.mrc_stand_for.specs.Standing.{line_stands, stands}

-- `births T K accepts ITEMS`
abbrev pub BirthsOfOneTask : Type 0
BirthsOfOneTask =
    (known : Known) (n : ℕ) (task : List ℕ) (kind : ℕ) (accepts : List Item)
    → is_among task known.tasks ≡ true
    → line_stands known n (says.Births (tasks.Listed (task ∷ [])) kind accepts)
    ≡ stands known (core.Births task kind accepts ∷ [])

-- `hold T send port P`
abbrev pub SendOfOneTask : Type 0
SendOfOneTask =
    (known : Known) (n : ℕ) (task port : List ℕ)
    → is_among task known.tasks ≡ true
    → is_among port known.ports ≡ true
    → line_stands known n (says.HoldSend (tasks.Listed (task ∷ [])) (place.Port port ∷ []))
    ≡ stands known (core.HoldPort task held.Send port ∷ [])

-- `hold T once port P`
abbrev pub OnceOfOneTask : Type 0
OnceOfOneTask =
    (known : Known) (n : ℕ) (task port : List ℕ)
    → is_among task known.tasks ≡ true
    → is_among port known.ports ≡ true
    → line_stands known n (says.HoldOnce (tasks.Listed (task ∷ [])) (port ∷ []))
    ≡ stands known (core.HoldPort task held.SendOnce port ∷ [])

-- `hold T send task U`
abbrev pub KernelOfOneTask : Type 0
KernelOfOneTask =
    (known : Known) (n : ℕ) (task other : List ℕ)
    → is_among task known.tasks ≡ true
    → is_among other known.tasks ≡ true
    → line_stands known n
    (says.HoldSend (tasks.Listed (task ∷ [])) (place.Task (whom.Who other) ∷ []))
    ≡ stands known (core.HoldTask task other ∷ [])
