-- Worked. Lines of wirings of version 4 and what they say: each kind of line once, and lines that
-- are refused.
use Rattle.std.specs.Prelude.{◌≡◌, ℕ, List, [], ◌∷◌, Option, Some, None, codes, refl}
use Rattle.mrc_base.specs.declared.PortRight.TheVariants as right
use Rattle.mrc_wiring_text.specs.declared.items.Item.TheVariants.{Request, Reply, Destroyed}
use Rattle.mrc_wiring_text.specs.declared.trust.TrustVerb.TheVariants as verb
use Rattle.mrc_wiring_text.specs.Items.{item_of, table_item}
use Rattle.mrc_wiring_text.specs.Kinds.{kind_of}
use Rattle.mrc_wiring_text.specs.Lexis.{is_blank, between_blanks, words}
use Rattle.mrc_wiring_text.specs.Names.{is_name}
use Rattle.mrc_wiring_text.specs.Policy.{right_of}
use Rattle.mrc_wiring_text.specs.Wiring.{verb_of}
use Rattle.mrc_stand_for.specs.declared.wide.Kinds.TheVariants as kinds
use Rattle.mrc_stand_for.specs.declared.wide.Place.TheVariants as place
use Rattle.mrc_stand_for.specs.declared.wide.RightVerb.TheVariants as verbs
use Rattle.mrc_stand_for.specs.declared.wide.Tasks.TheVariants as tasks
use Rattle.mrc_stand_for.specs.declared.wide.WideClass.TheVariants as class
use Rattle.mrc_stand_for.specs.declared.wide.WideSays.{WideSays}
use Rattle.mrc_stand_for.specs.declared.wide.WideSays.TheVariants.{Task, Group, Set, Port, PortOf}
use Rattle.mrc_stand_for.specs.declared.wide.WideSays.TheVariants.{Births, Replies, HoldSend}
use Rattle.mrc_stand_for.specs.declared.wide.WideSays.TheVariants.{HoldOnce, Admit, Trust}
use Rattle.mrc_stand_for.specs.declared.wide.WideSays.TheVariants.{TrustReplies, TrustNone}
use Rattle.mrc_stand_for.specs.declared.wide.WideSays.TheVariants.{RepliesFit}
use Rattle.mrc_stand_for.specs.declared.wide.Whom.TheVariants as whom
use Rattle.mrc_wide_text.specs.WideWords.{is_reserved, free_name, separated, list_len, in_front}
use Rattle.mrc_wide_text.specs.WideWords.{behind, tasks_len, tasks_in_front, tasks_behind}
use Rattle.mrc_wide_text.specs.WideWords.{tasks_of, whom_word, all_but_who}
use Rattle.mrc_wide_text.specs.WideWords.{whom_of, kinds_word, births_class, keyed_class, class_of}
use Rattle.mrc_wide_text.specs.WideWords.{keyed_place, place_of, port_of, slot_word, rights_of}
use Rattle.mrc_wide_text.specs.WideWords.{right_verb}
use Rattle.mrc_wide_text.specs.WideItems.{is_item_word, keyed, items_of}
use Rattle.mrc_wide_text.specs.WideLines.{group_line, set_line, received_port, born_port, port_line}
use Rattle.mrc_wide_text.specs.WideLines.{births_named, replies_named, births_by, births_say}
use Rattle.mrc_wide_text.specs.WideLines.{hold_says, admitted, trust_by, limits_say}
use Rattle.mrc_wide_text.specs.WideLines.{wide_says}

-- what a line says
abbrev says : List ℕ → Option WideSays
says line = wide_says (words line)

abbrev a : List ℕ
a = codes "a"

abbrev b : List ℕ
b = codes "b"

abbrev p : List ℕ
p = codes "p"

abbrev s : List ℕ
s = codes "s"

pub task : says (codes "task a, b # two") ≡ Some (Task (a ∷ b ∷ []))
unfolding words between_blanks is_blank wide_says free_name is_reserved is_name separated
task = refl

pub group : says (codes "group g all but a,b")
    ≡ Some (Group (codes "g") (tasks.AllBut (a ∷ b ∷ [])))
unfolding words between_blanks is_blank wide_says group_line free_name is_reserved is_name
    tasks_of separated
group = refl

pub set : says (codes "set s births all but a any, port p, births b, task all, g")
    ≡ Some (Set s (class.Births (whom.AllBut a) kinds.Any ∷ class.Port p
    ∷ class.Births (whom.Who b) (kinds.One 0) ∷ class.Task whom.All ∷ class.Set (codes "g") ∷ []))
unfolding words between_blanks is_blank wide_says set_line free_name is_reserved is_name class_of
    keyed_class births_class all_but_who whom_of whom_word kinds_word kind_of separated
set = refl

pub port : says (codes "port p receiver a accepts request s") ≡ Some (Port p a (Request s ∷ []))
unfolding words between_blanks is_blank wide_says port_line received_port free_name is_reserved
    is_name items_of keyed is_item_word item_of table_item separated
port = refl

pub port_of_births : says (codes "port p of births a 01") ≡ Some (PortOf p a 1)
unfolding words between_blanks is_blank wide_says port_line born_port free_name is_reserved
    is_name kind_of separated
port_of_births = refl

pub births : says (codes "births b, a 1 accepts request s, a, reply s, b, destroyed")
    ≡ Some (Births (tasks.Listed (b ∷ a ∷ [])) 1 (Request s ∷ Request a ∷ Reply s ∷ Reply b
    ∷ Destroyed ∷ []))
unfolding words between_blanks is_blank wide_says births_say births_by births_named replies_named
    tasks_of free_name is_reserved is_name kind_of items_of keyed is_item_word item_of
    table_item tasks_in_front tasks_behind tasks_len list_len separated
births = refl

pub births_replies : says (codes "births all 8 replies s, ns")
    ≡ Some (Replies tasks.All 8 (s ∷ codes "ns" ∷ []))
unfolding words between_blanks is_blank wide_says births_say births_by births_named replies_named
    tasks_of free_name is_reserved is_name kind_of tasks_in_front tasks_behind tasks_len list_len
    separated
births_replies = refl

pub hold_send : says (codes "hold all but a, b send port p, task other")
    ≡ Some (HoldSend (tasks.AllBut (a ∷ b ∷ [])) (place.Port p ∷ place.Task whom.Other ∷ []))
unfolding words between_blanks is_blank wide_says limits_say hold_says tasks_of free_name
    is_reserved is_name place_of keyed_place whom_of whom_word tasks_in_front tasks_behind
    tasks_len list_len separated
hold_send = refl

pub hold_once : says (codes "hold send once port p , port s")
    ≡ Some (HoldOnce (tasks.Listed (codes "send" ∷ [])) (p ∷ s ∷ []))
unfolding words between_blanks is_blank wide_says limits_say hold_says tasks_of free_name
    is_reserved is_name port_of tasks_in_front tasks_behind tasks_len list_len separated
hold_once = refl

pub admit : says (codes "admit s.it, a.p port p, task a")
    ≡ Some (Admit (record { subsystem = s; type_name = codes "it" }
    ∷ record { subsystem = a; type_name = p } ∷ [])
    (Some (class.Port p ∷ class.Task (whom.Who a) ∷ [])))
unfolding words between_blanks is_blank wide_says limits_say slot_word is_name admitted class_of
    keyed_class whom_of whom_word free_name is_reserved in_front behind list_len separated
admit = refl

pub admit_none : says (codes "admit s.it none")
    ≡ Some (Admit (record { subsystem = s; type_name = codes "it" } ∷ []) None)
unfolding words between_blanks is_blank wide_says limits_say slot_word is_name admitted in_front
    behind list_len separated
admit_none = refl

pub trust : says (codes "trust a takes, sends send, once port p, births other 3")
    ≡ Some (Trust (tasks.Listed (a ∷ [])) (verbs.Takes ∷ verbs.Sends ∷ [])
    (right.Send ∷ right.SendOnce ∷ [])
    (class.Port p ∷ class.Births whom.Other (kinds.One 3) ∷ []))
unfolding words between_blanks is_blank wide_says limits_say trust_by tasks_of free_name
    is_reserved is_name right_verb rights_of right_of class_of keyed_class births_class whom_word
    kinds_word kind_of tasks_in_front tasks_behind tasks_len list_len in_front behind separated
trust = refl

pub trust_any : says (codes "trust b gives any task a")
    ≡ Some (Trust (tasks.Listed (b ∷ [])) (verbs.Gives ∷ [])
    (right.Send ∷ right.Receive ∷ right.SendOnce ∷ []) (class.Task (whom.Who a) ∷ []))
unfolding words between_blanks is_blank wide_says limits_say trust_by tasks_of free_name
    is_reserved is_name right_verb rights_of class_of keyed_class whom_of whom_word tasks_in_front
    tasks_behind tasks_len list_len in_front behind separated
trust_any = refl

pub trust_replies : says (codes "trust a, b replies births other, task b")
    ≡ Some (TrustReplies (tasks.Listed (a ∷ b ∷ []))
    (class.Births whom.Other (kinds.One 0) ∷ class.Task (whom.Who b) ∷ []))
unfolding words between_blanks is_blank wide_says limits_say trust_by tasks_of free_name
    is_reserved is_name class_of keyed_class births_class whom_of whom_word tasks_in_front
    tasks_behind tasks_len list_len in_front behind separated
trust_replies = refl

pub trust_none : says (codes "trust all takes, replies none")
    ≡ Some (TrustNone tasks.All (verb.Takes ∷ verb.Replies ∷ []))
unfolding words between_blanks is_blank wide_says limits_say trust_by tasks_of verb_of
    tasks_in_front tasks_behind tasks_len list_len in_front behind separated
trust_none = refl

pub replies_fit : says (codes "replies fit") ≡ Some RepliesFit
unfolding words between_blanks is_blank wide_says limits_say separated
replies_fit = refl

-- no task has a reserved name
pub reserved : says (codes "task other") ≡ None
unfolding words between_blanks is_blank wide_says free_name is_reserved separated
reserved = refl

-- a set has no holder
pub no_other_in_a_set : says (codes "set s task other") ≡ None
unfolding words between_blanks is_blank wide_says set_line free_name is_reserved is_name class_of
    keyed_class whom_of whom_word separated
no_other_in_a_set = refl

-- nor has a slot
pub no_other_in_a_slot : says (codes "admit s.it births other") ≡ None
unfolding words between_blanks is_blank wide_says limits_say slot_word is_name admitted class_of
    keyed_class births_class whom_word in_front behind list_len separated
no_other_in_a_slot = refl

-- the second of the kinds is above 15
pub no_kind_16 : says (codes "births a 15 replies s, s") ≡ None
unfolding words between_blanks is_blank wide_says births_say births_by births_named replies_named
    tasks_of free_name is_reserved is_name kind_of tasks_in_front tasks_behind tasks_len list_len
    separated
no_kind_16 = refl

-- there is nothing between two commas
pub no_two_commas : says (codes "task a,, b") ≡ None
unfolding words between_blanks is_blank wide_says free_name is_reserved is_name separated
no_two_commas = refl

-- no name stands for an item behind `destroyed`
pub nothing_like_destroyed : says (codes "births a 1 accepts destroyed, s") ≡ None
unfolding words between_blanks is_blank wide_says births_say births_by births_named replies_named
    tasks_of free_name is_reserved is_name kind_of items_of keyed is_item_word item_of
    table_item tasks_in_front tasks_behind tasks_len list_len separated
nothing_like_destroyed = refl

-- no right goes with `replies`
pub no_right_of_replies : says (codes "trust a takes, replies send task b") ≡ None
unfolding words between_blanks is_blank wide_says limits_say trust_by tasks_of free_name
    is_reserved is_name right_verb rights_of right_of class_of keyed_class whom_of whom_word
    tasks_in_front tasks_behind tasks_len list_len in_front behind separated
no_right_of_replies = refl
