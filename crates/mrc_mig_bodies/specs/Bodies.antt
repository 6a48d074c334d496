-- Believe. What the bodies of a routine's request and reply have. As GNU MIG's stubs lay them out.
use Rattle.std.specs.Prelude.{ℕ, List, [], ◌∷◌, ◌++◌, Bool, true, false, ◌&&◌, Option, Some}
use Rattle.std.specs.Prelude.{None, if◌then◌else◌}
use Rattle.std.specs.List.{flat_map}
use Rattle.mrc_model.specs.Wiring.{OneOf}
use Rattle.mrc_mig_arguments.specs.declared.argument.Role.{Role}
use Rattle.mrc_mig_arguments.specs.declared.argument.Role.TheVariants as roles
use Rattle.mrc_mig_types.specs.declared.meaning.Count.{Count}
use Rattle.mrc_mig_types.specs.declared.meaning.Count.TheVariants as counts
use Rattle.mrc_mig_types.specs.declared.meaning.Meaning.{Meaning}
use Rattle.mrc_mig_types.specs.declared.shapes.By.{By}
use Rattle.mrc_mig_types.specs.Shapes.{Form, any_data, shape_of}
use Rattle.mrc_mig_bodies.specs.declared.bodies.Entry.{Entry}
use Rattle.mrc_mig_bodies.specs.declared.bodies.Entry.TheVariants as entries
use Rattle.mrc_mig_bodies.specs.declared.kinds.RoutineKind.{RoutineKind}
use Rattle.mrc_mig_bodies.specs.declared.kinds.RoutineKind.TheVariants as kinds
use Rattle.mrc_mig_bodies.specs.Parameters.{Parameter}
use Rattle.mrc_mig_bodies.specs.Roles.{settled}
use Rattle.mrc_mig_types.specs.Shapes.{form_of}

-- an item of a body: an argument with its name, its type's name and what it is; how many items the
-- argument of a name may have; or what the routine returns
pub data Item : Type 0 where
  Argument : List ℕ → List ℕ → Form → Item
  CountOf : List ℕ → Item
  ReturnCode : Item

-- one INTEGER_32
abbrev pub one_number : Form
one_number = record { types = OneOf (2 ∷ []); size = 32; number = 1; is_bound = false }

-- what an item is in its message: a count and a return code are numbers
abbrev pub form_of_item : Item → Form
form_of_item (Argument name type_name form) = form
form_of_item (CountOf name) = one_number
form_of_item ReturnCode = one_number

-- the item that code keeps
abbrev pub item_of : Entry → Item
item_of (entries.Argument name type_name shape) = Argument name.now type_name.now (form_of shape)
item_of (entries.Count name) = CountOf name.now
item_of entries.ReturnCode = ReturnCode

-- `in`, no word, and `inout` are in the request
abbrev pub is_in_request : Role → Bool
is_in_request roles.In = true
is_in_request roles.Unmarked = true
is_in_request roles.InOut = true
is_in_request _ = false

-- `out` and `inout` are in a routine's reply; a simpleroutine has none
abbrev pub is_in_reply : RoutineKind → Role → Bool
is_in_reply kinds.Routine roles.Out = true
is_in_reply kinds.Routine roles.InOut = true
is_in_reply _ _ = false

-- a count of which the sender may ask for less
abbrev pub may_vary : Count → Bool
may_vary (counts.AtMost n) = true
may_vary counts.Either = true
may_vary _ = false

-- a type with such a count
abbrev pub varies : Option Meaning → Bool
varies None = false
varies (Some found) = may_vary found.count

-- what comes back alone: `out` of a routine
abbrev pub is_out : RoutineKind → Role → Bool
is_out kinds.Routine roles.Out = true
is_out _ _ = false

-- the request says how many items the sender takes: `countinout`
abbrev pub has_count : RoutineKind → Parameter → Bool
has_count kind a = is_out kind a.role && a.counts && varies a.meaning

-- what an argument is; of a type that is unknown nothing is known
abbrev pub form_by : Option Meaning → By → Form
form_by None judged = any_data
form_by (Some found) judged = shape_of found judged

-- the item of an argument
abbrev pub argument_item : By → Parameter → Item
argument_item judged a = Argument a.name a.type_name (form_by a.meaning judged)

-- what the request has for an argument: the argument, its count, or nothing
abbrev pub request_items : RoutineKind → By → Parameter → List Item
request_items kind judged a =
    if is_in_request a.role then argument_item judged a ∷ []
    else if has_count kind a then CountOf a.name ∷ []
    else []

-- what the reply has for an argument
abbrev pub reply_items : RoutineKind → By → Parameter → List Item
reply_items kind judged a =
    if is_in_reply kind a.role then argument_item judged a ∷ [] else []

-- the body of the request
abbrev pub request_body : RoutineKind → By → List Parameter → List Item
request_body kind judged arguments = flat_map (request_items kind judged) (settled arguments)

-- a reply begins with what the routine returns
abbrev pub reply_begins : RoutineKind → List Item
reply_begins kinds.Routine = ReturnCode ∷ []
reply_begins kinds.Simple = []

-- the body of the reply; a simpleroutine has none
abbrev pub reply_body : RoutineKind → By → List Parameter → List Item
reply_body kind judged arguments =
    reply_begins kind ++ flat_map (reply_items kind judged) (settled arguments)
