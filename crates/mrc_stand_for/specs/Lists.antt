-- Believe. What the lists of a line stand for over what is known of the lines above, or that a name
-- is unknown, or that a list stands for nothing. This profile's own choice.
use Rattle.std.specs.Prelude.{ℕ, not, List, [], ◌∷◌, ◌++◌, map, filter, Option, Some, None}
use Rattle.std.specs.Prelude.{Result, Ok, Err, if◌then◌else◌, bytes_eq}
use Rattle.mrc_base.specs.Reading.{◌>>=◌}
use Rattle.mrc_wiring_text.specs.declared.policy.ClassName.{ClassName}
use Rattle.mrc_wiring_text.specs.declared.policy.ClassName.TheVariants as class
use Rattle.mrc_stand_for.specs.declared.faults.StandFault.{StandFault}
use Rattle.mrc_stand_for.specs.declared.faults.StandFault.TheVariants.{BadLine, UnknownName}
use Rattle.mrc_stand_for.specs.declared.known.Group.{Group}
use Rattle.mrc_stand_for.specs.declared.known.ClassSet.{ClassSet}
use Rattle.mrc_stand_for.specs.declared.known.Known.{Known}
use Rattle.mrc_stand_for.specs.declared.lists.Found.{Found}
use Rattle.mrc_stand_for.specs.declared.wide.Tasks.{Tasks}
use Rattle.mrc_stand_for.specs.declared.wide.Tasks.TheVariants as tasks
use Rattle.mrc_stand_for.specs.declared.wide.Whom.{Whom}
use Rattle.mrc_stand_for.specs.declared.wide.Whom.TheVariants as whom
use Rattle.mrc_stand_for.specs.declared.wide.Kinds.{Kinds}
use Rattle.mrc_stand_for.specs.declared.wide.Kinds.TheVariants as kinds
use Rattle.mrc_stand_for.specs.declared.wide.WideClass.{WideClass}
use Rattle.mrc_stand_for.specs.declared.wide.WideClass.TheVariants as wide
use Rattle.mrc_stand_for.specs.declared.wide.Place.{Place}
use Rattle.mrc_stand_for.specs.declared.wide.Place.TheVariants as place
use Rattle.mrc_stand_for.specs.declared.wide.PlaceName.{PlaceName}
use Rattle.mrc_stand_for.specs.declared.wide.PlaceName.TheVariants as named
use Rattle.mrc_stand_for.specs.Once.{with_each, is_among, same_class, same_place}
use Rattle.mrc_stand_for.specs.Known.{group_named, set_named, has_kind, births_classes, all_births}
use Rattle.mrc_stand_for.specs.Steps.{each, filled}

-- the tasks of a group that is there
abbrev pub group_tasks : ℕ → Option Group → Result (List (List ℕ)) StandFault
group_tasks n (Some group) = Ok group.tasks
group_tasks n None = Err (UnknownName n)

-- WHO: a task, or those of a group
abbrev pub who_of : Known → ℕ → List ℕ → Result (List (List ℕ)) StandFault
who_of known n name =
    if is_among name known.tasks then Ok (name ∷ []) else group_tasks n (group_named known name)

-- one WHO more of a list
abbrev pub add_who : Known → ℕ → List (List ℕ) → List ℕ → Result (List (List ℕ)) StandFault
add_who known n so_far name = who_of known n name >>= λ more. Ok (with_each bytes_eq so_far more)

-- `WHO, WHO ..`
abbrev pub whos_of : Known → ℕ → List (List ℕ) → Result (List (List ℕ)) StandFault
whos_of known n names = each (add_who known n) [] names

-- all but these
abbrev pub all_but : Known → List (List ℕ) → List (List ℕ)
all_but known left = filter (λ task. not (is_among task left)) known.tasks

-- TASKS
abbrev pub tasks_of : Known → ℕ → Tasks → Result (List (List ℕ)) StandFault
tasks_of known n tasks.All = filled n known.tasks
tasks_of known n (tasks.AllBut names) =
    whos_of known n names >>= λ left. filled n (all_but known left)
tasks_of known n (tasks.Listed names) = whos_of known n names >>= λ listed. filled n listed

-- all tasks but the holder, in a line that has one
abbrev pub others_of : Known → ℕ → Option (List ℕ) → Result (List (List ℕ)) StandFault
others_of known n None = Err (BadLine n)
others_of known n (Some holder) = filled n (all_but known (holder ∷ []))

-- WHOM, for a holder if the line has one
abbrev pub whom_of : Known → ℕ → Option (List ℕ) → Whom → Result (List (List ℕ)) StandFault
whom_of known n holder (whom.Who name) = whos_of known n (name ∷ []) >>= λ named. filled n named
whom_of known n holder whom.All = filled n known.tasks
whom_of known n holder (whom.AllBut name) =
    whos_of known n (name ∷ []) >>= λ left. filled n (all_but known left)
whom_of known n holder whom.Other = others_of known n holder

-- classes more
abbrev pub with_classes : Found → List ClassName → Found
with_classes found more = record found { classes = with_each same_class found.classes more }

-- all births of a task more, of which the line closes the kinds
abbrev pub with_all_births : Known → Found → List ℕ → Found
with_all_births known found task = record {
  classes = with_each same_class found.classes (all_births known task);
  closed = found.closed ++ task ∷ [];
}

-- births of a task more: those of a kind, which are there, or all
abbrev pub add_births : Known → ℕ → Kinds → Found → List ℕ → Result Found StandFault
add_births known n (kinds.One kind) found task =
    if has_kind known task kind then Ok (with_classes found (births_classes known task kind))
    else Err (UnknownName n)
add_births known n kinds.Any found task = Ok (with_all_births known found task)

-- the classes of a set that is there, more
abbrev pub with_set : ℕ → Found → Option ClassSet → Result Found StandFault
with_set n found (Some set) = Ok (with_classes found set.classes)
with_set n found None = Err (UnknownName n)

-- CLASS more
abbrev pub add_class : Known → ℕ → Option (List ℕ) → Found → WideClass → Result Found StandFault
add_class known n holder found (wide.Port port) =
    if is_among port known.ports then Ok (with_classes found (class.Port port ∷ []))
    else Err (UnknownName n)
add_class known n holder found (wide.Task whom) =
    whom_of known n holder whom >>= λ tasks. Ok (with_classes found (map class.Task tasks))
add_class known n holder found (wide.Births whom kinds) =
    whom_of known n holder whom >>= λ tasks. each (add_births known n kinds) found tasks
add_class known n holder found (wide.Set name) = with_set n found (set_named known name)

-- no class yet
abbrev pub nothing_found : Found
nothing_found = record { classes = []; closed = [] }

-- CLASSES, for a holder if the line has one
abbrev pub classes_of : Known → ℕ → Option (List ℕ) → List WideClass → Result Found StandFault
classes_of known n holder classes = each (add_class known n holder) nothing_found classes

-- PLACE more
abbrev pub add_place : Known → ℕ → Option (List ℕ) → List PlaceName → Place
    → Result (List PlaceName) StandFault
add_place known n holder so_far (place.Port port) =
    if is_among port known.ports then Ok (with_each same_place so_far (named.Port port ∷ []))
    else Err (UnknownName n)
add_place known n holder so_far (place.Task whom) =
    whom_of known n holder whom
    >>= λ tasks. Ok (with_each same_place so_far (map named.Task tasks))

-- `PLACE, PLACE ..`, for a holder
abbrev pub places_of : Known → ℕ → Option (List ℕ) → List Place → Result (List PlaceName) StandFault
places_of known n holder places = each (add_place known n holder) [] places

-- a port more, which is there
abbrev pub add_port : Known → ℕ → List (List ℕ) → List ℕ → Result (List (List ℕ)) StandFault
add_port known n so_far port =
    if is_among port known.ports then Ok (with_each bytes_eq so_far (port ∷ []))
    else Err (UnknownName n)

-- `port P, port P ..`
abbrev pub ports_of : Known → ℕ → List (List ℕ) → Result (List (List ℕ)) StandFault
ports_of known n ports = each (add_port known n) [] ports
