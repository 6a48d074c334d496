-- Believe. For which words a routine is left out, by its arguments. Each word has a place. The
-- first place in the text counts, and at one place the first word. This profile's own choice.
use Rattle.std.specs.Prelude.{◌≡◌, ◌<◌, ◌≤◌, ◌⊎◌, ℕ, List, [], ◌∷◌, ◌++◌, length, Bool, true, false}
use Rattle.std.specs.Prelude.{◌||◌, Option, Some, None, codes, nat_lt, if◌then◌else◌}
use Rattle.std.specs.List.{flat_map, list_any}
use Rattle.std.specs.Str.{bytes_eq}
use Rattle.mrc_base.specs.Limits.{limit_of_arguments, limit_of_name}
use Rattle.mrc_mig_arguments.specs.declared.argument.Role.{Role}
use Rattle.mrc_mig_arguments.specs.declared.argument.Role.TheVariants as roles
use Rattle.mrc_mig_types.specs.declared.shapes.By.{By}
use Rattle.mrc_mig_bodies.specs.declared.kinds.RoutineKind.{RoutineKind}
use Rattle.mrc_mig_bodies.specs.declared.objections.LeftOutWord.{LeftOutWord}
use Rattle.mrc_mig_bodies.specs.declared.objections.LeftOutWord.TheVariants as words
use Rattle.mrc_mig_bodies.specs.declared.objections.Objection.{Objection}
use Rattle.mrc_mig_bodies.specs.Bodies.{is_in_request, is_in_reply, has_count}
use Rattle.mrc_mig_bodies.specs.Parameters.{Parameter}
use Rattle.mrc_mig_bodies.specs.Rights.{is_no_port, is_no_send_once}
use Rattle.mrc_mig_bodies.specs.Roles.{request_port, settled}

-- the order of the words
abbrev pub rank : LeftOutWord → ℕ
rank words.Unexpected = 0
rank words.UnknownType = 1
rank words.NoRequestPort = 2
rank words.ReplyPort = 3
rank words.TwiceNamed = 4
rank words.TooMany = 5

-- an argument is in a body
abbrev pub is_in_body : RoutineKind → Role → Bool
is_in_body kind role = is_in_request role || is_in_reply kind role

-- a reply port whose type is judged: `replyport` and `ureplyport`
abbrev pub is_judged_port : Role → Bool
is_judged_port roles.ReplyPort = true
is_judged_port roles.UserReplyPort = true
is_judged_port _ = false

-- the type has to be known
abbrev pub is_judged : RoutineKind → Role → Bool
is_judged kind role = is_in_body kind role || is_judged_port role

-- a name is longer than names may be
abbrev pub is_long : List ℕ → Bool
is_long name = nat_lt limit_of_name (length name)

-- the names that an argument takes: its own, and with `Cnt` behind it that of its count
abbrev pub names_of : RoutineKind → Parameter → List (List ℕ)
names_of kind a = a.name ∷ (if has_count kind a then (a.name ++ codes "Cnt") ∷ [] else [])

-- a name is among these
abbrev pub is_taken : List (List ℕ) → List ℕ → Bool
is_taken names name = list_any (λ taken. bytes_eq taken name) names

-- one of an argument's names is that of an earlier one
abbrev pub is_twice_named : RoutineKind → List Parameter → Parameter → Bool
is_twice_named kind earlier a =
    list_any (is_taken (flat_map (names_of kind) earlier)) (names_of kind a)

-- what objects to an argument behind others
pub data ObjectsTo (kind : RoutineKind) (judged : By) (earlier : List Parameter) (a : Parameter)
    : ℕ → LeftOutWord → Type 0 where
  -- its type has to be known, and is not
  unknown_type : is_judged kind a.role ≡ true
      → a.meaning ≡ None
      → ObjectsTo kind judged earlier a a.type_at words.UnknownType
  -- a reply port that may be more than a send-once right
  reply_port : is_judged_port a.role ≡ true
      → is_no_send_once judged a.meaning ≡ true
      → ObjectsTo kind judged earlier a a.type_at words.ReplyPort
  -- a name that is there already
  twice_named : is_twice_named kind earlier a ≡ true
      → ObjectsTo kind judged earlier a a.name_at words.TwiceNamed
  -- a long name
  long_name : is_long a.name ≡ true → ObjectsTo kind judged earlier a a.name_at words.TooMany
  -- a long name of the type of an argument of a body
  long_type_name : is_in_body kind a.role ≡ true
      → is_long a.type_name ≡ true
      → ObjectsTo kind judged earlier a a.type_at words.TooMany

-- what objects to a routine, whose arguments end at a place
pub data Objects (kind : RoutineKind) (judged : By) (end_at : ℕ) (arguments : List Parameter)
    : ℕ → LeftOutWord → Type 0 where
  -- there is no request port
  no_port : request_port arguments ≡ None
      → Objects kind judged end_at arguments end_at words.NoRequestPort
  -- the request port's type is unknown
  unknown_port : (a : Parameter)
      → request_port arguments ≡ Some a
      → a.meaning ≡ None
      → Objects kind judged end_at arguments a.type_at words.UnknownType
  -- the request port is no port
  other_port : (a : Parameter)
      → request_port arguments ≡ Some a
      → is_no_port a.meaning ≡ true
      → Objects kind judged end_at arguments a.type_at words.NoRequestPort
  -- what objects to one of the first arguments, up to the limit
  to_one : (earlier later : List Parameter) (a : Parameter) {place : ℕ} {word : LeftOutWord}
      → settled arguments ≡ earlier ++ a ∷ later
      → length earlier < limit_of_arguments
      → ObjectsTo kind judged earlier a place word
      → Objects kind judged end_at arguments place word
  -- the first one above the limit is too many
  above : (earlier later : List Parameter) (a : Parameter)
      → settled arguments ≡ earlier ++ a ∷ later
      → length earlier ≡ limit_of_arguments
      → Objects kind judged end_at arguments a.at words.TooMany

-- the first comes before another in the text, or at its place by the order of the words, or is it;
-- a place is how many tokens are left
abbrev pub IsNotBehind : Objection → Objection → Type 0
IsNotBehind first other =
    (other.at < first.at) ⊎ ((first.at ≡ other.at) × (rank first.word ≤ rank other.word))

-- the one that counts; or none, where nothing objects
abbrev pub IsFirst : (ℕ → LeftOutWord → Type 0) → Option Objection → Type 0
IsFirst Refuses None = (place : ℕ) (word : LeftOutWord) → Refuses place word → ⊥
IsFirst Refuses (Some first) =
    Refuses first.at first.word
    × ((place : ℕ) (word : LeftOutWord) → Refuses place word
    → IsNotBehind first (record { at = place; word = word }))
