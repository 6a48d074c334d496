-- Law. What holds of a routine to which nothing objects, and which argument is the request port.
use Rattle.std.specs.Prelude.{◌≡◌, ℕ, List, Bool, true, false, Option, Some, None, All}
use Rattle.std.specs.Prelude.{is_some, find, if◌then◌else◌}
use Rattle.std.specs.List.{fold}
use Rattle.mrc_mig_arguments.specs.declared.argument.Role.{Role}
use Rattle.mrc_mig_arguments.specs.declared.argument.Role.TheVariants as roles
use Rattle.mrc_mig_types.specs.declared.meaning.Meaning.{Meaning}
use Rattle.mrc_mig_types.specs.declared.shapes.By.{By}
use Rattle.mrc_mig_bodies.specs.declared.kinds.RoutineKind.{RoutineKind}
use Rattle.mrc_mig_bodies.specs.declared.objections.LeftOutWord.{LeftOutWord}
use Rattle.mrc_mig_bodies.specs.Objections.{Objects, is_judged}
use Rattle.mrc_mig_bodies.specs.Parameters.{Parameter}
use Rattle.mrc_mig_bodies.specs.Rights.{is_port_tag}
use Rattle.mrc_mig_bodies.specs.Roles.{request_port, settled}

-- nothing objects to a routine
abbrev pub NothingObjects : RoutineKind → By → ℕ → List Parameter → Type 0
NothingObjects kind judged end_at arguments =
    (place : ℕ) (word : LeftOutWord) → Objects kind judged end_at arguments place word → ⊥

-- a known type that is a port
abbrev pub IsPort : Option Meaning → Type 0
IsPort found = (meaning : Meaning) × (found ≡ Some meaning) × (is_port_tag meaning.sent ≡ true)

-- a routine to which nothing objects has a request port, which is a port
abbrev pub HasPort : Type 0
HasPort =
    (kind : RoutineKind) (judged : By) (end_at : ℕ) (arguments : List Parameter)
    → NothingObjects kind judged end_at arguments
    → (a : Parameter) × (request_port arguments ≡ Some a) × IsPort a.meaning

-- each of its arguments has a type that is known, where that counts
abbrev pub IsKnown : RoutineKind → Parameter → Type 0
IsKnown kind a = is_judged kind a.role ≡ true → is_some a.meaning ≡ true

abbrev pub AreKnown : Type 0
AreKnown =
    (kind : RoutineKind) (judged : By) (end_at : ℕ) (arguments : List Parameter)
    → NothingObjects kind judged end_at arguments
    → All (IsKnown kind) (settled arguments)

-- the word `requestport`
abbrev pub is_marked : Role → Bool
is_marked roles.RequestPort = true
is_marked _ = false

-- no word
abbrev pub is_unmarked : Role → Bool
is_unmarked roles.Unmarked = true
is_unmarked _ = false

-- the last that passes a test
abbrev pub last_of : (Parameter → Bool) → List Parameter → Option Parameter
last_of test arguments = fold (λ last a. if test a then Some a else last) None arguments

-- the first of two, where there are two
abbrev pub or_else : Option Parameter → Option Parameter → Option Parameter
or_else (Some a) other = Some a
or_else None other = other

-- the request port is the last that is marked, or else the first that has no word
abbrev pub PortIsMarked : Type 0
PortIsMarked =
    (arguments : List Parameter)
    → request_port arguments
    ≡ or_else (last_of (λ a. is_marked a.role) arguments) (find (λ a. is_unmarked a.role) arguments)
