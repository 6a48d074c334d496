-- What holds where nothing objects, and which argument is the request port.
use Rattle.std.proofs.Common.{◌≡◌, Bool, true, false, ℕ, List, [], ◌∷◌, ◌++◌, Option, Some, None}
use Rattle.std.proofs.Common.{refl, arith, ap, sym, ◌∙◌, length, if◌then◌else◌}
use Rattle.std.specs.Prelude.{◌&&◌, ◌||◌, not, is_some, All, find, nat_lt}
use Rattle.std.specs.List.{fold}
use Rattle.std.proofs.lemmas.List.Elements.{All-cons, All-head}
use Rattle.mrc_base.specs.Limits.{limit_of_arguments}
use Rattle.mrc_mig_arguments.specs.declared.argument.Role.{Role}
use Rattle.mrc_mig_arguments.specs.declared.argument.Role.TheVariants.{Unmarked, In, Out, InOut}
use Rattle.mrc_mig_arguments.specs.declared.argument.Role.TheVariants.{RequestPort, ReplyPort}
use Rattle.mrc_mig_arguments.specs.declared.argument.Role.TheVariants.{UserReplyPort}
use Rattle.mrc_mig_arguments.specs.declared.argument.Role.TheVariants.{ServerReplyPort, WaitTime}
use Rattle.mrc_mig_arguments.specs.declared.argument.Role.TheVariants.{MessageOption}
use Rattle.mrc_mig_arguments.specs.declared.argument.Role.TheVariants.{SequenceNumber}
use Rattle.mrc_mig_types.specs.declared.meaning.Meaning.{Meaning}
use Rattle.mrc_mig_types.specs.declared.shapes.By.{By}
use Rattle.mrc_mig_bodies.specs.declared.kinds.RoutineKind.{RoutineKind}
use Rattle.mrc_mig_bodies.specs.declared.objections.LeftOutWord.{LeftOutWord}
use Rattle.mrc_mig_bodies.specs.declared.objections.LeftOutWord.TheVariants as words
use Rattle.mrc_mig_bodies.specs.declared.objections.Objection.{Objection}
use Rattle.mrc_mig_bodies.specs.Laws.{IsPort, HasPort, IsKnown, AreKnown, PortIsMarked, is_marked}
use Rattle.mrc_mig_bodies.specs.Laws.{is_unmarked, or_else, NothingObjects}
use Rattle.mrc_mig_bodies.specs.Listed.{when, port_objections, type_objections, objections_to}
use Rattle.mrc_mig_bodies.specs.Listed.{each_objections, objections}
use Rattle.mrc_mig_bodies.specs.Objections.{is_judged, Objects}
use Rattle.mrc_mig_bodies.proofs.ListedLemmas.{all_told}
use Rattle.mrc_mig_bodies.specs.Parameters.{Parameter}
use Rattle.mrc_mig_bodies.specs.Rights.{is_port_tag, is_no_port}
use Rattle.mrc_mig_bodies.specs.Roles.{is_port_from, port_behind, request_port, settled}

-- two lists of which nothing comes
parts_are_none : {X : Type 0} (xs ys : List X) → xs ++ ys ≡ [] → (xs ≡ []) × (ys ≡ [])
parts_are_none [] ys e = (refl, e)
parts_are_none (x ∷ xs) ys e = absurd cc

-- a test that does not object
by_when : (b : Bool) (place : ℕ) → when b place words.NoRequestPort ≡ [] → b ≡ false
by_when true place e = absurd cc
by_when false place e = refl

-- the opposite of a test
not_no : (b : Bool) → not b ≡ false → b ≡ true
not_no true e = refl
not_no false e = absurd cc

-- a type to which nothing objects where it is the request port's
port_by : (found : Option Meaning) (place : ℕ)
    → when (not (is_some found)) place words.UnknownType
    ++ when (is_no_port found) place words.NoRequestPort ≡ []
    → IsPort found
port_by None place e = absurd cc
port_by (Some found) place e = (
  found,
  refl,
  not_no (is_port_tag found.sent)
      (by_when (not (is_port_tag found.sent)) place e),
)

-- a request port to which nothing objects
port_of : (port : Option Parameter) (end_at : ℕ) → port_objections port end_at ≡ []
    → (a : Parameter) × (port ≡ Some a) × IsPort a.meaning
port_of None end_at e = absurd cc
port_of (Some a) end_at e = (a, refl, port_by a.meaning a.type_at e)

-- a list of what objects, where nothing does
none_listed : (Refuses : ℕ → LeftOutWord → Type 0) (found : List Objection)
    → All (λ o. Refuses o.at o.word) found
    → ((place : ℕ) (word : LeftOutWord) → Refuses place word → ⊥) → found ≡ []
none_listed Refuses [] all none = refl
none_listed Refuses (o ∷ found) all none =
    absurd (none o.at o.word (All-head (λ o. Refuses o.at o.word) o found all))

not_listed : (kind : RoutineKind) (judged : By) (end_at : ℕ) (arguments : List Parameter)
    → NothingObjects kind judged end_at arguments
    → objections kind judged end_at arguments ≡ []
not_listed kind judged end_at arguments none =
    none_listed (Objects kind judged end_at arguments) (objections kind judged end_at arguments)
    (all_told kind judged end_at arguments) none

pub has_port : HasPort
has_port kind judged end_at arguments none =
    let e = not_listed kind judged end_at arguments none in
    port_of (request_port arguments) end_at
    (parts_are_none (port_objections (request_port arguments) end_at)
    (each_objections kind judged [] (settled arguments)) e).0

-- a type that has to be known, and to which nothing objects
known_by : (judged known : Bool) (place : ℕ)
    → when (judged && not known) place words.UnknownType ≡ []
    → judged ≡ true → known ≡ true
known_by true true place e is = refl
known_by true false place e is = absurd cc
known_by false known place e is = absurd cc

known_one : (kind : RoutineKind) (judged : By) (a : Parameter) → type_objections kind judged a ≡ []
    → IsKnown kind a
known_one kind judged a e =
    known_by (is_judged kind a.role) (is_some a.meaning) a.type_at
    (parts_are_none _ _ (parts_are_none _ _ e).0).0

-- each of the arguments behind others
known_step : (kind : RoutineKind) (judged : By) (earlier : List Parameter) (a : Parameter)
    (later : List Parameter) (fits : Bool)
    → (each_objections kind judged (earlier ++ a ∷ []) later ≡ [] → All (IsKnown kind) later)
    → (if fits then objections_to kind judged earlier a
    ++ each_objections kind judged (earlier ++ a ∷ []) later
    else when true a.at words.TooMany) ≡ []
    → All (IsKnown kind) (a ∷ later)
known_step kind judged earlier a later false known e = absurd cc
known_step kind judged earlier a later true known e =
    let both = parts_are_none (objections_to kind judged earlier a)
    (each_objections kind judged (earlier ++ a ∷ []) later) e in
    All-cons (IsKnown kind) a later
    (known_one kind judged a (parts_are_none _ _ both.0).0) (known both.1)

known_each : (kind : RoutineKind) (judged : By) (earlier later : List Parameter)
    → each_objections kind judged earlier later ≡ [] → All (IsKnown kind) later
known_each kind judged earlier [] e = λ k d less. absurd (omega arith)
known_each kind judged earlier (a ∷ later) e =
    known_step kind judged earlier a later (nat_lt (length earlier) limit_of_arguments)
    (known_each kind judged (earlier ++ a ∷ []) later) e

pub are_known : AreKnown
are_known kind judged end_at arguments none =
    let e = not_listed kind judged end_at arguments none in
    known_each kind judged [] (settled arguments)
    (parts_are_none (port_objections (request_port arguments) end_at)
    (each_objections kind judged [] (settled arguments)) e).1

-- one more behind the last that is marked
abbrev with_marked : Option Parameter → Parameter → Option Parameter
with_marked last a = if is_marked a.role then Some a else last

-- three choices, one after another
or_both : (found : Option Parameter) (b : Bool) (a : Parameter) (other : Option Parameter)
    → or_else found (if b then Some a else other)
    ≡ or_else (or_else found (if b then Some a else None)) other
or_both (Some x) b a other = refl
or_both None true a other = refl
or_both None false a other = refl

-- one of two that is there
first_of_two : (found : Option Parameter) (a : Parameter) (other : Option Parameter)
    → or_else found (Some a) ≡ or_else (or_else found (Some a)) other
first_of_two (Some x) a other = refl
first_of_two None a other = refl

-- the last that is marked, from one that is known
last_from : (last : Option Parameter) (arguments : List Parameter)
    → fold with_marked last arguments ≡ or_else (fold with_marked None arguments) last
last_from last [] = refl
last_from last (a ∷ others) =
    last_from (with_marked last a) others
    ∙ (or_both (fold with_marked None others) (is_marked a.role) a last
    ∙ ap (λ x. or_else x last) (sym (last_from (with_marked None a) others)))

-- behind a request port only what is marked is one; in front of all, also what has no word
taken_behind : (role : Role) → is_port_from true role ≡ is_marked role
taken_behind Unmarked = refl
taken_behind In = refl
taken_behind Out = refl
taken_behind InOut = refl
taken_behind RequestPort = refl
taken_behind ReplyPort = refl
taken_behind UserReplyPort = refl
taken_behind ServerReplyPort = refl
taken_behind WaitTime = refl
taken_behind MessageOption = refl
taken_behind SequenceNumber = refl

taken_first : (role : Role) → is_port_from false role ≡ (is_marked role || is_unmarked role)
taken_first Unmarked = refl
taken_first In = refl
taken_first Out = refl
taken_first InOut = refl
taken_first RequestPort = refl
taken_first ReplyPort = refl
taken_first UserReplyPort = refl
taken_first ServerReplyPort = refl
taken_first WaitTime = refl
taken_first MessageOption = refl
taken_first SequenceNumber = refl

-- the request port behind one
port_step : (port a : Parameter) (others : List Parameter) (marked : Bool)
    → fold port_behind (Some a) others ≡ fold with_marked (Some a) others
    → fold port_behind (Some port) others ≡ fold with_marked (Some port) others
    → fold port_behind (if marked then Some a else Some port) others
    ≡ fold with_marked (if marked then Some a else Some port) others
port_step port a others true one other = one
port_step port a others false one other = other

port_from : (port : Parameter) (arguments : List Parameter)
    → fold port_behind (Some port) arguments ≡ fold with_marked (Some port) arguments
port_from port [] = refl
port_from port (a ∷ others) =
    ap (λ b. fold port_behind (if b then Some a else Some port) others) (taken_behind a.role)
    ∙ port_step port a others (is_marked a.role) (port_from a others) (port_from port others)

-- the request port where there is none yet
first_step : (a : Parameter) (others : List Parameter) (marked unmarked : Bool)
    → fold port_behind None others
    ≡ or_else (fold with_marked None others) (find (λ a. is_unmarked a.role) others)
    → fold port_behind (if marked || unmarked then Some a else None) others
    ≡ or_else (fold with_marked (if marked then Some a else None) others)
    (if unmarked then Some a else find (λ a. is_unmarked a.role) others)
first_step a others true unmarked known =
    port_from a others ∙ (last_from (Some a) others ∙ (first_of_two (fold with_marked None others) a
    (if unmarked then Some a else find (λ a. is_unmarked a.role) others)
    ∙ ap (λ x. or_else x (if unmarked then Some a else find (λ a. is_unmarked a.role) others))
    (sym (last_from (Some a) others))))
first_step a others false true known = port_from a others ∙ last_from (Some a) others
first_step a others false false known = known

pub port_is_marked : PortIsMarked
port_is_marked [] = refl
port_is_marked (a ∷ others) =
    ap (λ b. fold port_behind (if b then Some a else None) others) (taken_first a.role)
    ∙ first_step a others (is_marked a.role) (is_unmarked a.role) (port_is_marked others)
