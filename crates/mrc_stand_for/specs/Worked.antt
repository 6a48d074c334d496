-- Worked. Wirings and what they stand for: those of tasks, groups, sets and products, one whole
-- system, and the smallest wiring of each refusal. Each line has its number in a text whose first
-- line is the heading.
use Rattle.std.specs.Prelude.{◌≡◌, ℕ, ◌+◌, List, [], ◌∷◌, ◌++◌, Option, Some, None, codes, refl}
use Rattle.std.specs.Prelude.{map, Result, Ok, Err}
use Rattle.std.specs.Result.{result_err}
use Rattle.mrc_base.specs.declared.PortRight.{PortRight}
use Rattle.mrc_base.specs.declared.PortRight.TheVariants as right
use Rattle.mrc_wiring_text.specs.declared.items.Item.TheVariants.{Request, Reply, Destroyed}
use Rattle.mrc_wiring_text.specs.declared.policy.ClassName.{ClassName}
use Rattle.mrc_wiring_text.specs.declared.policy.ClassName.TheVariants as class
use Rattle.mrc_wiring_text.specs.declared.reading.Line.{Line}
use Rattle.mrc_wiring_text.specs.declared.trust.TrustVerb.{TrustVerb}
use Rattle.mrc_wiring_text.specs.declared.trust.TrustVerb.TheVariants as verb
use Rattle.mrc_wiring_text.specs.declared.wiring.HeldRight.TheVariants as held
use Rattle.mrc_wiring_text.specs.declared.wiring.WiringSays.{WiringSays}
use Rattle.mrc_wiring_text.specs.declared.wiring.WiringSays.TheVariants as core
use Rattle.mrc_stand_for.specs.declared.faults.StandFault.{StandFault}
use Rattle.mrc_stand_for.specs.declared.faults.StandFault.TheVariants.{BadLine, UnknownName, Empty}
use Rattle.mrc_stand_for.specs.declared.faults.StandFault.TheVariants.{Late, TwiceNamed}
use Rattle.mrc_stand_for.specs.declared.known.ClassSet.{ClassSet}
use Rattle.mrc_stand_for.specs.declared.known.Known.{Known}
use Rattle.mrc_stand_for.specs.declared.wide.Kinds.TheVariants as kinds
use Rattle.mrc_stand_for.specs.declared.wide.Place.TheVariants as place
use Rattle.mrc_stand_for.specs.declared.wide.RightVerb.TheVariants as verbs
use Rattle.mrc_stand_for.specs.declared.wide.SlotName.{SlotName}
use Rattle.mrc_stand_for.specs.declared.wide.Tasks.TheVariants as tasks
use Rattle.mrc_stand_for.specs.declared.wide.WideClass.{WideClass}
use Rattle.mrc_stand_for.specs.declared.wide.WideClass.TheVariants as wide
use Rattle.mrc_stand_for.specs.declared.wide.WideSays.{WideSays}
use Rattle.mrc_stand_for.specs.declared.wide.WideSays.TheVariants.{Task, Group, Set, Port, PortOf}
use Rattle.mrc_stand_for.specs.declared.wide.WideSays.TheVariants.{Births, Replies, HoldSend}
use Rattle.mrc_stand_for.specs.declared.wide.WideSays.TheVariants.{HoldOnce, Admit, Trust}
use Rattle.mrc_stand_for.specs.declared.wide.WideSays.TheVariants.{TrustReplies, TrustNone}
use Rattle.mrc_stand_for.specs.declared.wide.WideSays.TheVariants.{RepliesFit}
use Rattle.mrc_stand_for.specs.declared.wide.Whom.TheVariants as whom
use Rattle.mrc_stand_for.specs.Known.{no_lines}
use Rattle.mrc_stand_for.specs.Standing.{stand_for, known_of}

-- lines, the first of which has number n
abbrev lines : ℕ → List WideSays → List (Line WideSays)
lines n [] = []
lines n (says ∷ rest) = record { number = n; says = says } ∷ lines (n + 1) rest

-- what a line of this number stands for
abbrev of : ℕ → List WiringSays → List (Line WiringSays)
of n says = map (λ s. record { number = n; says = s }) says

-- the lines that wide lines stand for, and the fault of the first that is refused
abbrev stood : List (Line WideSays) → List (Line WiringSays) × Option StandFault
stood wide = ((stand_for wide).lines, result_err (stand_for wide).end)

-- all lines are stood for
abbrev all_of : List (Line WiringSays) → List (Line WiringSays) × Option StandFault
all_of core = (core, None)

-- those in front of the first that is refused
abbrev front : List (Line WiringSays) → StandFault → List (Line WiringSays) × Option StandFault
front core fault = (core, Some fault)

-- names of one letter
abbrev a : List ℕ
a = codes "a"

abbrev b : List ℕ
b = codes "b"

abbrev c : List ℕ
c = codes "c"

abbrev d : List ℕ
d = codes "d"

abbrev g : List ℕ
g = codes "g"

abbrev p : List ℕ
p = codes "p"

abbrev q : List ℕ
q = codes "q"

abbrev s : List ℕ
s = codes "s"

abbrev u : List ℕ
u = codes "u"

-- `births T K` as a class of a line
abbrev of_kind : List ℕ → ℕ → WideClass
of_kind task kind = wide.Births (whom.Who task) (kinds.One kind)

-- `task a, b, c`, `hold a, b send task other`
pub others : stood (lines 2 (
    Task (a ∷ b ∷ c ∷ [])
    ∷ HoldSend (tasks.Listed (a ∷ b ∷ [])) (place.Task whom.Other ∷ []) ∷ []))
    ≡ all_of (of 2 (core.Task a ∷ core.Task b ∷ core.Task c ∷ [])
    ++ of 3 (core.HoldTask a b ∷ core.HoldTask a c ∷ core.HoldTask b a ∷ core.HoldTask b c ∷ []))
others = refl

-- `task a, b, c, d`, `group g c, a, c`, `port p receiver d accepts none`,
-- `hold all but g, b send port p`, `hold g, a once port p`
pub groups : stood (lines 2 (
    Task (a ∷ b ∷ c ∷ d ∷ []) ∷ Group g (tasks.Listed (c ∷ a ∷ c ∷ [])) ∷ Port p d []
    ∷ HoldSend (tasks.AllBut (g ∷ b ∷ [])) (place.Port p ∷ [])
    ∷ HoldOnce (tasks.Listed (g ∷ a ∷ [])) (p ∷ []) ∷ []))
    ≡ all_of (of 2 (core.Task a ∷ core.Task b ∷ core.Task c ∷ core.Task d ∷ [])
    ++ of 4 (core.Port p d [] ∷ []) ++ of 5 (core.HoldPort d held.Send p ∷ [])
    ++ of 6 (core.HoldPort c held.SendOnce p ∷ core.HoldPort a held.SendOnce p ∷ []))
groups = refl

-- a right of b on a class that it gives
abbrev gives : List ℕ → ClassName → WiringSays
gives task on = core.Trust task verb.Gives (Some (record { right = right.Send; class = on }))

abbrev gives_once : List ℕ → ClassName → WiringSays
gives_once task on =
    core.Trust task verb.Gives (Some (record { right = right.SendOnce; class = on }))

-- `task a, b`, `births a 1 accepts destroyed`, `port p of births a 1`, `set s births a any`,
-- `trust b gives send, once s`
pub members : stood (lines 2 (
    Task (a ∷ b ∷ []) ∷ Births (tasks.Listed (a ∷ [])) 1 (Destroyed ∷ []) ∷ PortOf p a 1
    ∷ Set s (wide.Births (whom.Who a) kinds.Any ∷ [])
    ∷ Trust (tasks.Listed (b ∷ [])) (verbs.Gives ∷ []) (right.Send ∷ right.SendOnce ∷ [])
    (wide.Set s ∷ []) ∷ []))
    ≡ all_of (of 2 (core.Task a ∷ core.Task b ∷ [])
    ++ of 3 (core.Births a 1 (Destroyed ∷ []) ∷ [])
    ++ of 4 (core.Port p a (Destroyed ∷ []) ∷ [])
    ++ of 6 (gives b (class.Births a 0) ∷ gives b (class.Births a 1) ∷ gives b (class.Port p)
    ∷ gives_once b (class.Births a 0) ∷ gives_once b (class.Births a 1)
    ∷ gives_once b (class.Port p) ∷ []))
members = refl

-- the sets that are known after lines, if none is refused
abbrev sets_in : Result Known StandFault → List ClassSet
sets_in (Ok known) = known.sets
sets_in (Err fault) = []

-- a set, and its classes as a line that expects has them
abbrev with_bare : List ℕ → List ClassName → List ClassName → ClassSet
with_bare name classes bare = record { name = name; classes = classes; bare = bare }

-- `task a`, `births a 1 accepts none`, `port p of births a 1`, `set s births a 1`,
-- `set q births a 1, port p`, `set u s`
pub sets : sets_in (stand_for (lines 2 (
    Task (a ∷ []) ∷ Births (tasks.Listed (a ∷ [])) 1 [] ∷ PortOf p a 1
    ∷ Set s (of_kind a 1 ∷ []) ∷ Set q (of_kind a 1 ∷ wide.Port p ∷ [])
    ∷ Set u (wide.Set s ∷ []) ∷ []))).end
    ≡ with_bare s (class.Births a 1 ∷ class.Port p ∷ []) (class.Births a 1 ∷ [])
    ∷ with_bare q (class.Births a 1 ∷ class.Port p ∷ []) (class.Births a 1 ∷ class.Port p ∷ [])
    ∷ with_bare u (class.Births a 1 ∷ class.Port p ∷ []) (class.Births a 1 ∷ []) ∷ []
sets = refl

-- `task a`, `port p receiver a accepts none`, `births a 1 accepts destroyed`, in an older version
pub known_after_older : known_of (of 2 (
    core.Task a ∷ core.Port p a [] ∷ core.Births a 1 (Destroyed ∷ []) ∷ []))
    ≡ record no_lines {
      tasks = a ∷ [];
      ports = p ∷ [];
      births = record { task = a; kind = 1; accepts = Destroyed ∷ [] } ∷ [];
    }
known_after_older = refl

-- `task a, b`, `births all 8 replies s, ns`, `births b 1 accepts request s, ns, reply s, ns,
-- destroyed`
pub counted_kinds : stood (lines 2 (
    Task (a ∷ b ∷ []) ∷ Replies tasks.All 8 (s ∷ codes "ns" ∷ [])
    ∷ Births (tasks.Listed (b ∷ [])) 1 (Request s ∷ Request (codes "ns") ∷ Reply s
    ∷ Reply (codes "ns") ∷ Destroyed ∷ []) ∷ []))
    ≡ all_of (of 2 (core.Task a ∷ core.Task b ∷ [])
    ++ of 3 (core.Births a 8 (Reply s ∷ []) ∷ core.Births a 9 (Reply (codes "ns") ∷ [])
    ∷ core.Births b 8 (Reply s ∷ []) ∷ core.Births b 9 (Reply (codes "ns") ∷ []) ∷ [])
    ++ of 4 (core.Births b 1 (Request s ∷ Request (codes "ns") ∷ Reply s ∷ Reply (codes "ns")
    ∷ Destroyed ∷ []) ∷ []))
counted_kinds = refl

-- a task is trusted with replies of a class
abbrev replies : List ℕ → ClassName → WiringSays
replies task on =
    core.Trust task verb.Replies (Some (record { right = right.SendOnce; class = on }))

-- `task a, b`, `trust all takes, replies none`, `trust a, b replies births other, task b`,
-- `trust b gives any task a`
pub trusted : stood (lines 2 (
    Task (a ∷ b ∷ []) ∷ TrustNone tasks.All (verb.Takes ∷ verb.Replies ∷ [])
    ∷ TrustReplies (tasks.Listed (a ∷ b ∷ []))
    (wide.Births whom.Other (kinds.One 0) ∷ wide.Task (whom.Who b) ∷ [])
    ∷ Trust (tasks.Listed (b ∷ [])) (verbs.Gives ∷ [])
    (right.Send ∷ right.Receive ∷ right.SendOnce ∷ []) (wide.Task (whom.Who a) ∷ []) ∷ []))
    ≡ all_of (of 2 (core.Task a ∷ core.Task b ∷ [])
    ++ of 3 (core.Trust a verb.Takes None ∷ core.Trust a verb.Replies None
    ∷ core.Trust b verb.Takes None ∷ core.Trust b verb.Replies None ∷ [])
    ++ of 4 (replies a (class.Births b 0) ∷ replies a (class.Task b)
    ∷ replies b (class.Births a 0) ∷ replies b (class.Task b) ∷ [])
    ++ of 5 (gives b (class.Task a)
    ∷ core.Trust b verb.Gives (Some (record { right = right.Receive; class = class.Task a }))
    ∷ gives_once b (class.Task a) ∷ []))
trusted = refl

-- a slot of s
abbrev slot : List ℕ → SlotName
slot type = record { subsystem = s; type_name = type }

-- `task a, b`, `port p receiver a accepts none`, `admit s.q, s.u port p, task all`,
-- `admit s.q, s.u none`
pub admitted : stood (lines 2 (
    Task (a ∷ b ∷ []) ∷ Port p a []
    ∷ Admit (slot q ∷ slot u ∷ []) (Some (wide.Port p ∷ wide.Task whom.All ∷ []))
    ∷ Admit (slot q ∷ slot u ∷ []) None ∷ []))
    ≡ all_of (of 2 (core.Task a ∷ core.Task b ∷ []) ++ of 3 (core.Port p a [] ∷ [])
    ++ of 4 (core.Admit s q (Some (class.Port p)) ∷ core.Admit s q (Some (class.Task a))
    ∷ core.Admit s q (Some (class.Task b)) ∷ core.Admit s u (Some (class.Port p))
    ∷ core.Admit s u (Some (class.Task a)) ∷ core.Admit s u (Some (class.Task b)) ∷ [])
    ++ of 5 (core.Admit s q None ∷ core.Admit s u None ∷ []))
admitted = refl

-- `task a, b`, `port p of births a`, `port q of births a`,
-- `admit s.u port q, births a, task a, port q`
pub ports_of_births : stood (lines 2 (
    Task (a ∷ b ∷ []) ∷ PortOf p a 0 ∷ PortOf q a 0
    ∷ Admit (slot u ∷ []) (Some (wide.Port q ∷ of_kind a 0 ∷ wide.Task (whom.Who a)
    ∷ wide.Port q ∷ [])) ∷ []))
    ≡ all_of (of 2 (core.Task a ∷ core.Task b ∷ []) ++ of 3 (core.Port p a [] ∷ [])
    ++ of 4 (core.Port q a [] ∷ [])
    ++ of 5 (core.Admit s u (Some (class.Port q)) ∷ core.Admit s u (Some (class.Births a 0))
    ∷ core.Admit s u (Some (class.Port p)) ∷ core.Admit s u (Some (class.Task a)) ∷ []))
ports_of_births = refl

-- what a may do by a verb with a right on the kernel port of b
abbrev on_b : TrustVerb → PortRight → WiringSays
on_b by with_right = core.Trust a by (Some (record { right = with_right; class = class.Task b }))

-- `task a, b`, `trust a takes, sends send, once task all but a`
pub verbs_and_rights : stood (lines 2 (
    Task (a ∷ b ∷ []) ∷ Trust (tasks.Listed (a ∷ [])) (verbs.Takes ∷ verbs.Sends ∷ [])
    (right.Send ∷ right.SendOnce ∷ []) (wide.Task (whom.AllBut a) ∷ []) ∷ []))
    ≡ all_of (of 2 (core.Task a ∷ core.Task b ∷ [])
    ++ of 3 (on_b verb.Takes right.Send ∷ on_b verb.Takes right.SendOnce
    ∷ on_b verb.Sends right.Send ∷ on_b verb.Sends right.SendOnce ∷ []))
verbs_and_rights = refl

-- `task a, b`, `port p receiver b accepts none`, `hold a send port p, task all`
pub places : stood (lines 2 (
    Task (a ∷ b ∷ []) ∷ Port p b []
    ∷ HoldSend (tasks.Listed (a ∷ [])) (place.Port p ∷ place.Task whom.All ∷ []) ∷ []))
    ≡ all_of (of 2 (core.Task a ∷ core.Task b ∷ []) ++ of 3 (core.Port p b [] ∷ [])
    ++ of 4 (core.HoldPort a held.Send p ∷ core.HoldTask a a ∷ core.HoldTask a b ∷ []))
places = refl

-- a whole system: `task server, a, b`, `port gate receiver server accepts request s`,
-- `births server 1 accepts request s`, `births server 2 accepts request s`,
-- `births a 0 accepts reply s_a`, `births b 0 accepts reply s_b`, `hold a, b send port gate`,
-- `admit s_a.open.q births server 1` and `admit s_b.open.q births server 2`, here by the type of q,
-- and `replies fit`
pub system : stood (
    lines 2 (Task (codes "server" ∷ a ∷ b ∷ []) ∷ [])
    ++ lines 4 (Port (codes "gate") (codes "server") (Request s ∷ [])
    ∷ Births (tasks.Listed (codes "server" ∷ [])) 1 (Request s ∷ [])
    ∷ Births (tasks.Listed (codes "server" ∷ [])) 2 (Request s ∷ [])
    ∷ Births (tasks.Listed (a ∷ [])) 0 (Reply (codes "s_a") ∷ [])
    ∷ Births (tasks.Listed (b ∷ [])) 0 (Reply (codes "s_b") ∷ [])
    ∷ HoldSend (tasks.Listed (a ∷ b ∷ [])) (place.Port (codes "gate") ∷ [])
    ∷ Admit (record { subsystem = codes "s_a"; type_name = codes "session_t" } ∷ [])
    (Some (of_kind (codes "server") 1 ∷ []))
    ∷ Admit (record { subsystem = codes "s_b"; type_name = codes "session_t" } ∷ [])
    (Some (of_kind (codes "server") 2 ∷ [])) ∷ RepliesFit ∷ []))
    ≡ all_of (of 2 (core.Task (codes "server") ∷ core.Task a ∷ core.Task b ∷ [])
    ++ of 4 (core.Port (codes "gate") (codes "server") (Request s ∷ []) ∷ [])
    ++ of 5 (core.Births (codes "server") 1 (Request s ∷ []) ∷ [])
    ++ of 6 (core.Births (codes "server") 2 (Request s ∷ []) ∷ [])
    ++ of 7 (core.Births a 0 (Reply (codes "s_a") ∷ []) ∷ [])
    ++ of 8 (core.Births b 0 (Reply (codes "s_b") ∷ []) ∷ [])
    ++ of 9 (core.HoldPort a held.Send (codes "gate")
    ∷ core.HoldPort b held.Send (codes "gate") ∷ [])
    ++ of 10 (core.Admit (codes "s_a") (codes "session_t")
    (Some (class.Births (codes "server") 1)) ∷ [])
    ++ of 11 (core.Admit (codes "s_b") (codes "session_t")
    (Some (class.Births (codes "server") 2)) ∷ [])
    ++ of 12 (core.RepliesFit ∷ []))
system = refl

-- `task a, b, c`, `group u b, c`, `port p receiver a accepts none`, `births a 1 accepts none`,
-- `births u 1 accepts none`
abbrev three : List WideSays
three =
    Task (a ∷ b ∷ c ∷ []) ∷ Group u (tasks.Listed (b ∷ c ∷ [])) ∷ Port p a []
    ∷ Births (tasks.Listed (a ∷ [])) 1 [] ∷ Births (tasks.Listed (u ∷ [])) 1 [] ∷ []

abbrev three_lines : List (Line WiringSays)
three_lines =
    of 2 (core.Task a ∷ core.Task b ∷ core.Task c ∷ []) ++ of 4 (core.Port p a [] ∷ [])
    ++ of 5 (core.Births a 1 [] ∷ []) ++ of 6 (core.Births b 1 [] ∷ core.Births c 1 [] ∷ [])

-- `task a, b`, `group g all but a`, `task c`
pub task_is_late : stood (lines 2 (
    Task (a ∷ b ∷ []) ∷ Group g (tasks.AllBut (a ∷ [])) ∷ Task (c ∷ []) ∷ []))
    ≡ front (of 2 (core.Task a ∷ core.Task b ∷ [])) (Late 4)
task_is_late = refl

-- `set s births u any`, `births b 2 accepts none`
pub kind_is_late : stood (lines 2 (three ++ (
    Set s (wide.Births (whom.Who u) kinds.Any ∷ []) ∷ Births (tasks.Listed (b ∷ [])) 2 [] ∷ [])))
    ≡ front three_lines (Late 8)
kind_is_late = refl

-- `set s births c any`, `port q of births c 1`
pub port_is_late : stood (lines 2 (three ++ (
    Set s (wide.Births (whom.Who c) kinds.Any ∷ []) ∷ PortOf q c 1 ∷ [])))
    ≡ front three_lines (Late 8)
port_is_late = refl

-- `task a`, `port p of births a 0`, `births a 0 accepts destroyed`
pub births_are_late : stood (lines 2 (
    Task (a ∷ []) ∷ PortOf p a 0 ∷ Births (tasks.Listed (a ∷ [])) 0 (Destroyed ∷ []) ∷ []))
    ≡ front (of 2 (core.Task a ∷ []) ++ of 3 (core.Port p a [] ∷ [])) (Late 4)
births_are_late = refl

-- `group h all but u, a`
pub all_but_all : stood (lines 2 (three ++ (
    Group (codes "h") (tasks.AllBut (u ∷ a ∷ [])) ∷ [])))
    ≡ front three_lines (Empty 7)
all_but_all = refl

-- `task a`, `hold a send task other`
pub no_other : stood (lines 2 (
    Task (a ∷ []) ∷ HoldSend (tasks.Listed (a ∷ [])) (place.Task whom.Other ∷ []) ∷ []))
    ≡ front (of 2 (core.Task a ∷ [])) (Empty 3)
no_other = refl

-- `group g a`, `task a`
pub task_below : stood (lines 2 (Group g (tasks.Listed (a ∷ [])) ∷ Task (a ∷ []) ∷ []))
    ≡ front [] (UnknownName 2)
task_below = refl

-- `births u 2 accepts none`, `set s births all 2`
pub kind_of_some : stood (lines 2 (three ++ (
    Births (tasks.Listed (u ∷ [])) 2 []
    ∷ Set s (wide.Births whom.All (kinds.One 2) ∷ []) ∷ [])))
    ≡ front (three_lines ++ of 7 (core.Births b 2 [] ∷ core.Births c 2 [] ∷ [])) (UnknownName 8)
kind_of_some = refl

-- `task u`
pub task_is_a_group : stood (lines 2 (three ++ (Task (u ∷ []) ∷ [])))
    ≡ front three_lines (TwiceNamed 7)
task_is_a_group = refl

-- `task a`, `births a 15 replies ns, ns`
pub kind_16 : stood (lines 2 (
    Task (a ∷ []) ∷ Replies (tasks.Listed (a ∷ [])) 15 (codes "ns" ∷ codes "ns" ∷ []) ∷ []))
    ≡ front (of 2 (core.Task a ∷ [])) (BadLine 3)
kind_16 = refl

-- `task a, b`, `set s task other`, which has no holder
pub no_holder : stood (lines 2 (
    Task (a ∷ b ∷ []) ∷ Set s (wide.Task whom.Other ∷ []) ∷ []))
    ≡ front (of 2 (core.Task a ∷ core.Task b ∷ [])) (BadLine 3)
no_holder = refl

-- `task a`, `group a a`
pub group_is_a_task : stood (lines 2 (
    Task (a ∷ []) ∷ Group a (tasks.Listed (a ∷ [])) ∷ []))
    ≡ front (of 2 (core.Task a ∷ [])) (TwiceNamed 3)
group_is_a_task = refl

-- `task a`, `set s task a`, `set s births a`
pub set_is_a_set : stood (lines 2 (
    Task (a ∷ []) ∷ Set s (wide.Task (whom.Who a) ∷ []) ∷ Set s (of_kind a 0 ∷ []) ∷ []))
    ≡ front (of 2 (core.Task a ∷ [])) (TwiceNamed 4)
set_is_a_set = refl

-- `task a`, `port p of births a 1`
pub kind_of_no_line : stood (lines 2 (Task (a ∷ []) ∷ PortOf p a 1 ∷ []))
    ≡ front (of 2 (core.Task a ∷ [])) (UnknownName 3)
kind_of_no_line = refl
