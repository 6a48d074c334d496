-- The list has what objects, and nothing else.
use Rattle.std.proofs.Common.{◌≡◌, ◌<◌, ◌≤◌, ℕ, Bool, true, false, List, [], ◌∷◌, ◌++◌, Option}
use Rattle.std.proofs.Common.{Some, None, refl, arith, ap, sym, subst, ◌∙◌, length, zero, append_assoc}
use Rattle.std.proofs.Common.{if◌then◌else◌, length-append, ltb-false}
use Rattle.std.specs.Prelude.{◌&&◌, not, is_some, nat_lt, All, Contains}
use Rattle.std.specs.List.{flat_map}
use Rattle.std.proofs.lemmas.Bool.{lt-ltb, le-ltb, ltb-true}
use Rattle.std.proofs.lemmas.List.{append-nil}
use Rattle.std.proofs.lemmas.List.Elements.{All-cons, All-append, Contains-append_left}
use Rattle.std.proofs.lemmas.List.Elements.{Contains-append_right}
use Rattle.mrc_base.specs.Limits.{limit_of_arguments}
use Rattle.mrc_mig_types.specs.declared.meaning.Meaning.{Meaning}
use Rattle.mrc_mig_types.specs.declared.shapes.By.{By}
use Rattle.mrc_mig_bodies.specs.declared.kinds.RoutineKind.{RoutineKind}
use Rattle.mrc_mig_bodies.specs.declared.objections.LeftOutWord.{LeftOutWord}
use Rattle.mrc_mig_bodies.specs.declared.objections.LeftOutWord.TheVariants as words
use Rattle.mrc_mig_bodies.specs.declared.objections.Objection.{Objection}
use Rattle.mrc_mig_bodies.specs.Listed.{when, port_objections, type_objections, name_objections}
use Rattle.mrc_mig_bodies.specs.Listed.{objections_to, each_objections, objections, IsFirstOf}
use Rattle.mrc_mig_bodies.specs.Objections.{is_judged, is_judged_port, is_in_body, is_long}
use Rattle.mrc_mig_bodies.specs.Objections.{names_of, ObjectsTo, unknown_type, reply_port}
use Rattle.mrc_mig_bodies.specs.Objections.{twice_named, long_name, long_type_name, Objects}
use Rattle.mrc_mig_bodies.specs.Objections.{no_port, unknown_port, other_port, to_one, above, IsFirst}
use Rattle.mrc_mig_bodies.specs.Objections.{IsNotBehind, is_twice_named}
use Rattle.mrc_mig_bodies.specs.Parameters.{Parameter}
use Rattle.mrc_mig_bodies.specs.Rights.{is_no_port, is_no_send_once}
use Rattle.mrc_mig_bodies.specs.Roles.{request_port, settled}

-- an objection is one of these
abbrev Told : (ℕ → LeftOutWord → Type 0) → Objection → Type 0
Told Refuses o = Refuses o.at o.word

-- a word at a place
abbrev at : ℕ → LeftOutWord → Objection
at place word = record { at = place; word = word }

-- both of two tests
both_hold : (x y : Bool) → (x && y) ≡ true → (x ≡ true) × (y ≡ true)
both_hold true y e = (refl, e)
both_hold false y e = absurd cc

and_holds : (x y : Bool) → x ≡ true → y ≡ true → (x && y) ≡ true
and_holds x y first second = ap (λ b. b && y) first ∙ second

-- a type that is not known
is_none : (found : Option Meaning) → not (is_some found) ≡ true → found ≡ None
is_none None e = refl
is_none (Some m) e = absurd cc

-- a list of nothing
all_none : {X : Type 0} (P : X → Type 0) → All P []
all_none P k d less = absurd (omega arith)

-- what is listed objects

when_told : (Refuses : ℕ → LeftOutWord → Type 0) (b : Bool) (place : ℕ) (word : LeftOutWord)
    → (b ≡ true → Refuses place word) → All (Told Refuses) (when b place word)
when_told Refuses true place word told =
    All-cons (Told Refuses) (at place word) [] (told refl) (all_none (Told Refuses))
when_told Refuses false place word told = all_none (Told Refuses)

type_told : (kind : RoutineKind) (judged : By) (earlier : List Parameter) (a : Parameter)
    → All (Told (ObjectsTo kind judged earlier a)) (type_objections kind judged a)
type_told kind judged earlier a =
    let P : ℕ → LeftOutWord → Type 0 = ObjectsTo kind judged earlier a in
    let unknown : (is_judged kind a.role && not (is_some a.meaning)) ≡ true
    → P a.type_at words.UnknownType =
    λ e. let both = both_hold (is_judged kind a.role) (not (is_some a.meaning)) e in
    unknown_type both.0 (is_none a.meaning both.1) in
    let reply : (is_judged_port a.role && is_no_send_once judged a.meaning) ≡ true
    → P a.type_at words.ReplyPort =
    λ e. let both = both_hold (is_judged_port a.role) (is_no_send_once judged a.meaning) e in
    reply_port both.0 both.1 in
    let long : (is_in_body kind a.role && is_long a.type_name) ≡ true
    → P a.type_at words.TooMany =
    λ e. let both = both_hold (is_in_body kind a.role) (is_long a.type_name) e in
    long_type_name both.0 both.1 in
    All-append (Told P) _ _
    (All-append (Told P) _ _ (when_told P _ a.type_at words.UnknownType unknown)
    (when_told P _ a.type_at words.ReplyPort reply))
    (when_told P _ a.type_at words.TooMany long)

name_told : (kind : RoutineKind) (judged : By) (earlier : List Parameter) (a : Parameter)
    → All (Told (ObjectsTo kind judged earlier a))
    (name_objections (flat_map (names_of kind) earlier) (names_of kind a) a)
name_told kind judged earlier a =
    let P : ℕ → LeftOutWord → Type 0 = ObjectsTo kind judged earlier a in
    All-append (Told P) _ _
    (when_told P (is_twice_named kind earlier a) a.name_at words.TwiceNamed (λ e. twice_named e))
    (when_told P (is_long a.name) a.name_at words.TooMany (λ e. long_name e))

port_told : (kind : RoutineKind) (judged : By) (end_at : ℕ) (arguments : List Parameter)
    (port : Option Parameter) → request_port arguments ≡ port
    → All (Told (Objects kind judged end_at arguments)) (port_objections port end_at)
port_told kind judged end_at arguments None e =
    when_told (Objects kind judged end_at arguments) true end_at words.NoRequestPort
    (λ t. no_port e)
port_told kind judged end_at arguments (Some a) e =
    let P : ℕ → LeftOutWord → Type 0 = Objects kind judged end_at arguments in
    All-append (Told P) _ _
    (when_told P (not (is_some a.meaning)) a.type_at words.UnknownType
    (λ t. unknown_port a e (is_none a.meaning t)))
    (when_told P (is_no_port a.meaning) a.type_at words.NoRequestPort (λ t. other_port a e t))

one_told : (kind : RoutineKind) (judged : By) (end_at : ℕ) (arguments front : List Parameter)
    (a : Parameter) (later : List Parameter)
    → settled arguments ≡ front ++ a ∷ later → length front < limit_of_arguments
    → All (Told (Objects kind judged end_at arguments)) (objections_to kind judged front a)
one_told kind judged end_at arguments front a later e less =
    let all = All-append (Told (ObjectsTo kind judged front a)) (type_objections kind judged a)
    (name_objections (flat_map (names_of kind) front) (names_of kind a) a)
    (type_told kind judged front a) (name_told kind judged front a) in
    λ k d within. to_one front later a e less (all k d within)

each_step : (kind : RoutineKind) (judged : By) (end_at : ℕ) (arguments front : List Parameter)
    (a : Parameter) (later : List Parameter) (fits : Bool)
    → nat_lt (length front) limit_of_arguments ≡ fits
    → settled arguments ≡ front ++ a ∷ later → length front ≤ limit_of_arguments
    → (length front < limit_of_arguments
    → All (Told (Objects kind judged end_at arguments))
    (each_objections kind judged (front ++ a ∷ []) later))
    → All (Told (Objects kind judged end_at arguments))
    (if fits then objections_to kind judged front a
    ++ each_objections kind judged (front ++ a ∷ []) later
    else when true a.at words.TooMany)
each_step kind judged end_at arguments front a later true test e most others =
    let less = ltb-true (length front) limit_of_arguments test in
    All-append (Told (Objects kind judged end_at arguments)) (objections_to kind judged front a)
    (each_objections kind judged (front ++ a ∷ []) later)
    (one_told kind judged end_at arguments front a later e less) (others less)
each_step kind judged end_at arguments front a later false test e most others =
    let not_less : limit_of_arguments ≤ length front =
    ltb-false (length front) limit_of_arguments test in
    when_told (Objects kind judged end_at arguments) true a.at words.TooMany
    (λ t. above front later a e (omega arith))

each_told : (kind : RoutineKind) (judged : By) (end_at : ℕ) (arguments front later : List Parameter)
    → settled arguments ≡ front ++ later → length front ≤ limit_of_arguments
    → All (Told (Objects kind judged end_at arguments)) (each_objections kind judged front later)
each_told kind judged end_at arguments front [] e most =
    all_none (Told (Objects kind judged end_at arguments))
each_told kind judged end_at arguments front (a ∷ later) e most =
    each_step kind judged end_at arguments front a later (nat_lt (length front) limit_of_arguments)
    refl e most
    (λ less. each_told kind judged end_at arguments (front ++ a ∷ []) later
    (e ∙ sym (append_assoc front (a ∷ []) later))
    (omega (arith, length-append front (a ∷ []))))

pub all_told : (kind : RoutineKind) (judged : By) (end_at : ℕ) (arguments : List Parameter)
    → All (λ o. Objects kind judged end_at arguments o.at o.word)
    (objections kind judged end_at arguments)
all_told kind judged end_at arguments =
    All-append (Told (Objects kind judged end_at arguments))
    (port_objections (request_port arguments) end_at)
    (each_objections kind judged [] (settled arguments))
    (port_told kind judged end_at arguments (request_port arguments) refl)
    (each_told kind judged end_at arguments [] (settled arguments) refl (omega arith))

-- what objects is listed

has_when : (b : Bool) (place : ℕ) (word : LeftOutWord) → b ≡ true
    → Contains (when b place word) (at place word)
has_when true place word e = (zero, omega arith, refl)
has_when false place word e = absurd cc

-- an element of one of the lists of an argument
in_1 : (a b c d e : List Objection) (o : Objection) → Contains a o
    → Contains ((a ++ b ++ c) ++ (d ++ e)) o
in_1 a b c d e o has =
    Contains-append_left (a ++ b ++ c) (d ++ e) o (Contains-append_left (a ++ b) c o
    (Contains-append_left a b o has))

in_2 : (a b c d e : List Objection) (o : Objection) → Contains b o
    → Contains ((a ++ b ++ c) ++ (d ++ e)) o
in_2 a b c d e o has =
    Contains-append_left (a ++ b ++ c) (d ++ e) o (Contains-append_left (a ++ b) c o
    (Contains-append_right a b o has))

in_3 : (a b c d e : List Objection) (o : Objection) → Contains c o
    → Contains ((a ++ b ++ c) ++ (d ++ e)) o
in_3 a b c d e o has =
    Contains-append_left (a ++ b ++ c) (d ++ e) o (Contains-append_right (a ++ b) c o has)

in_4 : (a b c d e : List Objection) (o : Objection) → Contains d o
    → Contains ((a ++ b ++ c) ++ (d ++ e)) o
in_4 a b c d e o has =
    Contains-append_right (a ++ b ++ c) (d ++ e) o (Contains-append_left d e o has)

in_5 : (a b c d e : List Objection) (o : Objection) → Contains e o
    → Contains ((a ++ b ++ c) ++ (d ++ e)) o
in_5 a b c d e o has =
    Contains-append_right (a ++ b ++ c) (d ++ e) o (Contains-append_right d e o has)

-- those lists
abbrev unknown : RoutineKind → Parameter → List Objection
unknown kind a =
    when (is_judged kind a.role && not (is_some a.meaning)) a.type_at words.UnknownType

abbrev reply : By → Parameter → List Objection
reply judged a =
    when (is_judged_port a.role && is_no_send_once judged a.meaning) a.type_at words.ReplyPort

abbrev typed : RoutineKind → Parameter → List Objection
typed kind a = when (is_in_body kind a.role && is_long a.type_name) a.type_at words.TooMany

abbrev twice : RoutineKind → List Parameter → Parameter → List Objection
twice kind earlier a = when (is_twice_named kind earlier a) a.name_at words.TwiceNamed

abbrev named : Parameter → List Objection
named a = when (is_long a.name) a.name_at words.TooMany

one_has : (kind : RoutineKind) (judged : By) (earlier : List Parameter) (a : Parameter)
    (place : ℕ) (word : LeftOutWord) → ObjectsTo kind judged earlier a place word
    → Contains (objections_to kind judged earlier a) (at place word)
one_has kind judged earlier a place word (unknown_type known none) =
    in_1 (unknown kind a) (reply judged a) (typed kind a) (twice kind earlier a) (named a)
    (at a.type_at words.UnknownType)
    (has_when (is_judged kind a.role && not (is_some a.meaning)) a.type_at words.UnknownType
    (and_holds (is_judged kind a.role) (not (is_some a.meaning)) known
    (ap (λ m. not (is_some m)) none)))
one_has kind judged earlier a place word (reply_port port more) =
    in_2 (unknown kind a) (reply judged a) (typed kind a) (twice kind earlier a) (named a)
    (at a.type_at words.ReplyPort)
    (has_when (is_judged_port a.role && is_no_send_once judged a.meaning) a.type_at words.ReplyPort
    (and_holds (is_judged_port a.role) (is_no_send_once judged a.meaning) port more))
one_has kind judged earlier a place word (long_type_name body long) =
    in_3 (unknown kind a) (reply judged a) (typed kind a) (twice kind earlier a) (named a)
    (at a.type_at words.TooMany)
    (has_when (is_in_body kind a.role && is_long a.type_name) a.type_at words.TooMany
    (and_holds (is_in_body kind a.role) (is_long a.type_name) body long))
one_has kind judged earlier a place word (twice_named taken) =
    in_4 (unknown kind a) (reply judged a) (typed kind a) (twice kind earlier a) (named a)
    (at a.name_at words.TwiceNamed)
    (has_when (is_twice_named kind earlier a) a.name_at words.TwiceNamed taken)
one_has kind judged earlier a place word (long_name long) =
    in_5 (unknown kind a) (reply judged a) (typed kind a) (twice kind earlier a) (named a)
    (at a.name_at words.TooMany)
    (has_when (is_long a.name) a.name_at words.TooMany long)

-- an element of one of three lists, as a test chooses them
in_first : (xs ys zs : List Objection) (o : Objection) (b : Bool) → b ≡ true → Contains xs o
    → Contains (if b then xs ++ ys else zs) o
in_first xs ys zs o true e has = Contains-append_left xs ys o has
in_first xs ys zs o false e has = absurd cc

in_second : (xs ys zs : List Objection) (o : Objection) (b : Bool) → b ≡ true → Contains ys o
    → Contains (if b then xs ++ ys else zs) o
in_second xs ys zs o true e has = Contains-append_right xs ys o has
in_second xs ys zs o false e has = absurd cc

in_third : (xs ys zs : List Objection) (o : Objection) (b : Bool) → b ≡ false → Contains zs o
    → Contains (if b then xs ++ ys else zs) o
in_third xs ys zs o true e has = absurd cc
in_third xs ys zs o false e has = has

each_has : (kind : RoutineKind) (judged : By) (front earlier : List Parameter) (a : Parameter)
    (later : List Parameter) (o : Objection) → length (front ++ earlier) < limit_of_arguments
    → Contains (objections_to kind judged (front ++ earlier) a) o
    → Contains (each_objections kind judged front (earlier ++ a ∷ later)) o
each_has kind judged front [] a later o less has =
    in_first (objections_to kind judged front a)
    (each_objections kind judged (front ++ a ∷ []) later) (when true a.at words.TooMany) o
    (nat_lt (length front) limit_of_arguments)
    (lt-ltb (length front) limit_of_arguments
    (subst (λ (xs : List Parameter). length xs < limit_of_arguments) (append-nil front) less))
    (subst (λ (xs : List Parameter). Contains (objections_to kind judged xs a) o)
    (append-nil front) has)
each_has kind judged front (e ∷ earlier) a later o less has =
    let seam = sym (append_assoc front (e ∷ []) earlier) in
    in_second (objections_to kind judged front e)
    (each_objections kind judged (front ++ e ∷ []) (earlier ++ a ∷ later))
    (when true e.at words.TooMany) o (nat_lt (length front) limit_of_arguments)
    (lt-ltb (length front) limit_of_arguments
    (omega (arith, length-append front (e ∷ earlier))))
    (each_has kind judged (front ++ e ∷ []) earlier a later o
    (subst (λ (xs : List Parameter). length xs < limit_of_arguments) seam less)
    (subst (λ (xs : List Parameter). Contains (objections_to kind judged xs a) o) seam has))

above_has : (kind : RoutineKind) (judged : By) (front earlier : List Parameter) (a : Parameter)
    (later : List Parameter) → length (front ++ earlier) ≡ limit_of_arguments
    → Contains (each_objections kind judged front (earlier ++ a ∷ later)) (at a.at words.TooMany)
above_has kind judged front [] a later same =
    in_third (objections_to kind judged front a)
    (each_objections kind judged (front ++ a ∷ []) later) (when true a.at words.TooMany)
    (at a.at words.TooMany) (nat_lt (length front) limit_of_arguments)
    (le-ltb (length front) limit_of_arguments
    (omega (arith, ap length (append-nil front))))
    (has_when true a.at words.TooMany refl)
above_has kind judged front (e ∷ earlier) a later same =
    in_second (objections_to kind judged front e)
    (each_objections kind judged (front ++ e ∷ []) (earlier ++ a ∷ later))
    (when true e.at words.TooMany) (at a.at words.TooMany)
    (nat_lt (length front) limit_of_arguments)
    (lt-ltb (length front) limit_of_arguments
    (omega (arith, length-append front (e ∷ earlier))))
    (above_has kind judged (front ++ e ∷ []) earlier a later
    (ap length (append_assoc front (e ∷ []) earlier) ∙ same))

-- an element of what objects to the request port, and of what objects to the arguments
of_port : (kind : RoutineKind) (judged : By) (end_at : ℕ) (arguments : List Parameter)
    (port : Option Parameter) (o : Objection) → request_port arguments ≡ port
    → Contains (port_objections port end_at) o
    → Contains (objections kind judged end_at arguments) o
of_port kind judged end_at arguments port o e has =
    Contains-append_left (port_objections (request_port arguments) end_at)
    (each_objections kind judged [] (settled arguments)) o
    (subst (λ (p : Option Parameter). Contains (port_objections p end_at) o) (sym e) has)

of_each : (kind : RoutineKind) (judged : By) (end_at : ℕ) (arguments all : List Parameter)
    (o : Objection) → settled arguments ≡ all
    → Contains (each_objections kind judged [] all) o
    → Contains (objections kind judged end_at arguments) o
of_each kind judged end_at arguments all o e has =
    Contains-append_right (port_objections (request_port arguments) end_at)
    (each_objections kind judged [] (settled arguments)) o
    (subst (λ (xs : List Parameter). Contains (each_objections kind judged [] xs) o) (sym e) has)

has_all : (kind : RoutineKind) (judged : By) (end_at : ℕ) (arguments : List Parameter)
    (place : ℕ) (word : LeftOutWord) → Objects kind judged end_at arguments place word
    → Contains (objections kind judged end_at arguments) (at place word)
has_all kind judged end_at arguments place word (no_port e) =
    of_port kind judged end_at arguments None (at end_at words.NoRequestPort) e
    (has_when true end_at words.NoRequestPort refl)
has_all kind judged end_at arguments place word (unknown_port a e none) =
    of_port kind judged end_at arguments (Some a) (at a.type_at words.UnknownType) e
    (Contains-append_left (when (not (is_some a.meaning)) a.type_at words.UnknownType)
    (when (is_no_port a.meaning) a.type_at words.NoRequestPort) (at a.type_at words.UnknownType)
    (has_when (not (is_some a.meaning)) a.type_at words.UnknownType
    (ap (λ m. not (is_some m)) none)))
has_all kind judged end_at arguments place word (other_port a e other) =
    of_port kind judged end_at arguments (Some a) (at a.type_at words.NoRequestPort) e
    (Contains-append_right (when (not (is_some a.meaning)) a.type_at words.UnknownType)
    (when (is_no_port a.meaning) a.type_at words.NoRequestPort) (at a.type_at words.NoRequestPort)
    (has_when (is_no_port a.meaning) a.type_at words.NoRequestPort other))
has_all kind judged end_at arguments place word (to_one earlier later a e less one) =
    of_each kind judged end_at arguments (earlier ++ a ∷ later) (at place word) e
    (each_has kind judged [] earlier a later (at place word) less
    (one_has kind judged earlier a place word one))
has_all kind judged end_at arguments place word (above earlier later a e same) =
    of_each kind judged end_at arguments (earlier ++ a ∷ later) (at a.at words.TooMany) e
    (above_has kind judged [] earlier a later same)

-- what holds of each element holds of one
holds_of : {X : Type 0} (P : X → Type 0) (xs : List X) (x : X) → All P xs → Contains xs x → P x
holds_of P xs x all (k, less, is) = subst P is (all k x less)

-- the first of the list is the first of all that objects
pub first_told : (kind : RoutineKind) (judged : By) (end_at : ℕ) (arguments : List Parameter)
    (found : Option Objection) → IsFirstOf (objections kind judged end_at arguments) found
    → IsFirst (Objects kind judged end_at arguments) found
first_told kind judged end_at arguments None is = λ place word refuses.
    (let has = has_all kind judged end_at arguments place word refuses in
    holds_of (λ o. ⊥) (objections kind judged end_at arguments) (at place word)
    (rw is (all_none (λ o. ⊥))) has)
first_told kind judged end_at arguments (Some first) (among, least) = (
  holds_of (Told (Objects kind judged end_at arguments)) (objections kind judged end_at arguments)
      first (all_told kind judged end_at arguments) among,
  λ place word refuses. holds_of (IsNotBehind first) (objections kind judged end_at arguments)
      (at place word) least (has_all kind judged end_at arguments place word refuses),
)
