-- Step. The objections to a routine, as a list, and the first of them.
use Rattle.std.specs.Prelude.{◌≡◌, ℕ, List, [], ◌∷◌, ◌++◌, length, Bool, true, not, ◌&&◌}
use Rattle.std.specs.Prelude.{◌||◌, ◌==◌, Option, Some, None, is_some, nat_lt, All, Contains}
use Rattle.std.specs.Prelude.{if◌then◌else◌}
use Rattle.std.specs.List.{fold, flat_map, list_any}
use Rattle.mrc_base.specs.Limits.{limit_of_arguments}
use Rattle.mrc_mig_types.specs.declared.shapes.By.{By}
use Rattle.mrc_mig_bodies.specs.declared.kinds.RoutineKind.{RoutineKind}
use Rattle.mrc_mig_bodies.specs.declared.objections.LeftOutWord.{LeftOutWord}
use Rattle.mrc_mig_bodies.specs.declared.objections.LeftOutWord.TheVariants as words
use Rattle.mrc_mig_bodies.specs.declared.objections.Objection.{Objection}
use Rattle.mrc_mig_bodies.specs.Objections.{rank, is_in_body, is_judged_port, is_judged, is_long}
use Rattle.mrc_mig_bodies.specs.Objections.{names_of, is_taken, IsNotBehind}
use Rattle.mrc_mig_bodies.specs.Parameters.{Parameter}
use Rattle.mrc_mig_bodies.specs.Rights.{is_no_port, is_no_send_once}
use Rattle.mrc_mig_bodies.specs.Roles.{request_port, settled}

-- a word at a place, where something objects
abbrev pub when : Bool → ℕ → LeftOutWord → List Objection
when objects place word = if objects then record { at = place; word = word } ∷ [] else []

-- what objects to the request port: there is none, its type is unknown, or is no port
abbrev pub port_objections : Option Parameter → ℕ → List Objection
port_objections None end_at = when true end_at words.NoRequestPort
port_objections (Some a) end_at =
    when (not (is_some a.meaning)) a.type_at words.UnknownType
    ++ when (is_no_port a.meaning) a.type_at words.NoRequestPort

-- what objects to an argument's type: it has to be known and is not, is a reply port's that may be
-- more than a send-once right, or has a long name and is in a body
abbrev pub type_objections : RoutineKind → By → Parameter → List Objection
type_objections kind judged a =
    when (is_judged kind a.role && not (is_some a.meaning)) a.type_at words.UnknownType
    ++ when (is_judged_port a.role && is_no_send_once judged a.meaning) a.type_at words.ReplyPort
    ++ when (is_in_body kind a.role && is_long a.type_name) a.type_at words.TooMany

-- what objects to its own names behind others: one of them is there already, or it is long
abbrev pub name_objections : List (List ℕ) → List (List ℕ) → Parameter → List Objection
name_objections names own a =
    when (list_any (is_taken names) own) a.name_at words.TwiceNamed
    ++ when (is_long a.name) a.name_at words.TooMany

-- what objects to an argument behind others
abbrev pub objections_to : RoutineKind → By → List Parameter → Parameter → List Objection
objections_to kind judged earlier a =
    type_objections kind judged a
    ++ name_objections (flat_map (names_of kind) earlier) (names_of kind a) a

-- What objects to each argument; one above the limit is too many, and what follows is not looked
-- at.
abbrev pub each_objections : RoutineKind → By → List Parameter → List Parameter → List Objection
each_objections kind judged earlier [] = []
each_objections kind judged earlier (a ∷ later) =
    if nat_lt (length earlier) limit_of_arguments
    then objections_to kind judged earlier a
    ++ each_objections kind judged (earlier ++ a ∷ []) later
    else when true a.at words.TooMany

-- what objects to a routine, whose arguments end at a place
abbrev pub objections : RoutineKind → By → ℕ → List Parameter → List Objection
objections kind judged end_at arguments =
    port_objections (request_port arguments) end_at
    ++ each_objections kind judged [] (settled arguments)

-- an objection comes before another
abbrev pub is_sooner : Objection → Objection → Bool
is_sooner next first =
    nat_lt first.at next.at
    || ((next.at == first.at) && nat_lt (rank next.word) (rank first.word))

-- the first of those so far and one more
abbrev pub sooner : Option Objection → Objection → Option Objection
sooner None next = Some next
sooner (Some first) next = if is_sooner next first then Some next else Some first

-- the first of all
abbrev pub first_of : List Objection → Option Objection
first_of found = fold sooner None found

-- one of them that is not behind any, or none where there is none
abbrev pub IsFirstOf : List Objection → Option Objection → Type 0
IsFirstOf found None = found ≡ []
IsFirstOf found (Some first) = Contains found first × All (λ other. IsNotBehind first other) found
