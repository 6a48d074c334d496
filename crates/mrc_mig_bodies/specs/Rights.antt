-- Believe. Only what the bodies and the objections cite: the numbers of rights by which an argument
-- is judged. That a reply port gives a send-once right alone is this profile's own choice.
use Rattle.std.specs.Prelude.{ℕ, List, [], ◌∷◌, Bool, true, false, not, ◌||◌, ◌==◌, Option, Some}
use Rattle.std.specs.Prelude.{None}
use Rattle.std.specs.List.{list_all}
use Rattle.mrc_base.specs.Disposition.{is_port_number}
use Rattle.mrc_mig_types.specs.declared.meaning.Meaning.{Meaning}
use Rattle.mrc_mig_types.specs.declared.meaning.Tag.{Tag}
use Rattle.mrc_mig_types.specs.declared.meaning.Tag.TheVariants.{Picked, Fixed}
use Rattle.mrc_mig_types.specs.declared.shapes.By.{By}
use Rattle.mrc_mig_types.specs.declared.shapes.By.TheVariants as by
use Rattle.mrc_mig_types.specs.Shapes.{right_numbers}

-- the numbers of rights of an argument: by what is sent, by what is received, or of each
-- disposition that gives the right which is received
abbrev pub numbers_by : Meaning → By → List ℕ
numbers_by found by.Sent = right_numbers found.sent found.received
numbers_by found by.Received = right_numbers found.received found.received
numbers_by found by.Picked = right_numbers Picked found.received
numbers_by found by.PickedReceived = right_numbers Picked found.received

-- there is a number
abbrev pub are_some : List ℕ → Bool
are_some [] = false
are_some (n ∷ numbers) = true

-- an argument carries rights
abbrev pub is_slot : Meaning → By → Bool
is_slot found judged = are_some (numbers_by found judged)

-- MOVE_SEND_ONCE, MAKE_SEND_ONCE, or both of them
abbrev pub are_send_once : List ℕ → Bool
are_send_once [] = false
are_send_once (n ∷ numbers) = list_all (λ m. m == 18 || m == 21) (n ∷ numbers)

-- a tag that may be a port's
abbrev pub is_port_tag : Tag → Bool
is_port_tag Picked = true
is_port_tag (Fixed n) = is_port_number n

-- a type that is known, and is no port as it is sent
abbrev pub is_no_port : Option Meaning → Bool
is_no_port None = false
is_no_port (Some found) = not (is_port_tag found.sent)

-- a type that is known, and may be more than a send-once right, or something else
abbrev pub is_no_send_once : By → Option Meaning → Bool
is_no_send_once judged None = false
is_no_send_once judged (Some found) = not (are_send_once (numbers_by found judged))
