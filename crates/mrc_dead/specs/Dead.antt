-- Believe. Which parts of a system can do nothing, by a set of facts: files, lines and slots. This
-- profile's own choice.
use Rattle.std.specs.Prelude.{ℕ, ◌+◌, ◌==◌, ◌&&◌, ◌||◌, Bool, true, false, not, List, [], ◌∷◌, ◌++◌}
use Rattle.std.specs.Prelude.{length, bytes_eq, codes, find, slice_get, is_some, flat_map}
use Rattle.std.specs.Prelude.{Option, Some, None, option_and_then, if◌then◌else◌}
use Rattle.std.specs.List.{list_all, list_any}
use Rattle.mrc_base.specs.declared.Disp.{Disp}
use Rattle.mrc_base.specs.declared.Fact.{Fact}
use Rattle.mrc_base.specs.declared.Fact.TheVariants.{Hold}
use Rattle.mrc_base.specs.declared.PortRight.TheVariants.{SendOnce}
use Rattle.mrc_base.specs.Disposition.{needed, given}
use Rattle.mrc_model.specs.declared.LabelItem.{LabelItem}
use Rattle.mrc_model.specs.declared.LabelItem.TheVariants as items
use Rattle.mrc_model.specs.declared.RequestKind.TheVariants.{Replied, Routine, Simple}
use Rattle.mrc_model.specs.declared.Verb.TheVariants.{Sends, Replies}
use Rattle.mrc_model.specs.Wiring.{Wiring, classes, births_class, admits, may}
use Rattle.mrc_forms.specs.declared.form.MessageKind.{MessageKind}
use Rattle.mrc_forms.specs.declared.form.MessageKind.TheVariants as messages
use Rattle.mrc_forms.specs.declared.form.FormKind.{FormKind}
use Rattle.mrc_forms.specs.declared.form.FormKind.TheVariants as kinds
use Rattle.mrc_forms.specs.Forms.{Argument, Slot, Form}
use Rattle.mrc_forms.specs.Types.{dispositions_of}
use Rattle.mrc_forms.specs.Tables.{Row, Table as Interface}
use Rattle.mrc_name_table.specs.Names.{number_of, with_name}
use Rattle.mrc_wiring_text.specs.declared.reading.Line.{Line}
use Rattle.mrc_wiring_text.specs.declared.items.Item.{Item}
use Rattle.mrc_wiring_text.specs.declared.trust.TrustVerb.{TrustVerb}
use Rattle.mrc_wiring_text.specs.declared.trust.TrustVerb.TheVariants as verbs
use Rattle.mrc_wiring_text.specs.declared.wiring.WiringSays.{WiringSays}
use Rattle.mrc_wiring_text.specs.declared.wiring.WiringSays.TheVariants as says
use Rattle.mrc_wiring.specs.Finding.{item_of}
use Rattle.mrc_wiring.specs.Labels.{interface_number}
use Rattle.mrc_wiring.specs.ModelForms.{is_at}
use Rattle.mrc_wiring.specs.Sorts.{sorts_of, sort_number}
use Rattle.mrc_wiring.specs.Table.{Table, wiring_of}
use Rattle.mrc_dead.specs.declared.parts.QuietLine.{QuietLine}
use Rattle.mrc_dead.specs.Asking.{any_below, those_below, is_quiet, accepts, askers}

-- Interfaces that no port accepts.

-- class c accepts requests or replies of interface s
abbrev pub accepts_some : Wiring → ℕ → ℕ → Bool
accepts_some W s c = accepts W (items.Request s) c || accepts W (items.Reply s) c

-- no class accepts anything of interface s
abbrev pub is_unaccepted : Wiring → ℕ → Bool
is_unaccepted W s = not (any_below (accepts_some W s) (classes W))

-- the interfaces of which this is so, by their numbers
abbrev pub unaccepted : Table → List ℕ
unaccepted table = those_below (is_unaccepted (wiring_of table)) (length table.interfaces)

-- Lines of ports to which no other task may ever send.

-- the class of births of a line, if they accept something
abbrev pub births_declared : Table → List ℕ → ℕ → List Item → Option ℕ
births_declared table task kind [] = None
births_declared table task kind (item ∷ items) =
    option_and_then (λ t. births_class (wiring_of table) t kind) (number_of table.names task)

-- the class that a line declares: of a wired port, or of births that accept something
abbrev pub class_declared : Table → WiringSays → Option ℕ
class_declared table (says.Port name receiver items) = number_of table.ports name
class_declared table (says.Births task kind items) = births_declared table task kind items
class_declared table other = None

-- a class, if there is one, as a list
abbrev pub class_list : Option ℕ → List ℕ
class_list None = []
class_list (Some c) = c ∷ []

-- a line as it is written: its number, and the classes that lines of this number declare, which
-- stand side by side
pub record Written : Type 0 where
  pub line : ℕ
  pub classes : List ℕ

-- classes that a line of this number declares, in front of written lines: part of the first of them
-- if that has the number
abbrev pub in_front : ℕ → List ℕ → List Written → List Written
in_front n cs [] = record { line = n; classes = cs } ∷ []
in_front n cs (w ∷ ws) =
    if n == w.line then record { line = n; classes = cs ++ w.classes } ∷ ws
    else record { line = n; classes = cs } ∷ w ∷ ws

-- lines as they are written
abbrev pub written_lines : Table → List (Line WiringSays) → List Written
written_lines table [] = []
written_lines table (line ∷ lines) =
    in_front line.number (class_list (class_declared table line.says)) (written_lines table lines)

-- the line of this number, its first class and how many more it has, if it is to be in the list
abbrev pub quiet_if : Bool → ℕ → ℕ → ℕ → List QuietLine
quiet_if true n c more = record { line = n; class = c; more = more } ∷ []
quiet_if false n c more = []

-- the line of this number, if it declares these classes, there is one, and all are quiet
abbrev pub quiet_line : Table → (Fact → Bool) → ℕ → List ℕ → List QuietLine
quiet_line table set n [] = []
quiet_line table set n (c ∷ cs) =
    quiet_if (list_all (is_quiet (wiring_of table) set) (c ∷ cs)) n c (length cs)

-- the same of a written line
abbrev pub quiet_written : Table → (Fact → Bool) → Written → List QuietLine
quiet_written table set w = quiet_line table set w.line w.classes

-- all such lines, in their order
abbrev pub quiet_lines : Table → (Fact → Bool) → List (Line WiringSays) → List QuietLine
quiet_lines table set lines = flat_map (quiet_written table set) (written_lines table lines)

-- Interfaces that may be asked, but never with a port that accepts their replies.

-- the kind is that of a routine's request
abbrev pub is_routine_kind : FormKind → Bool
is_routine_kind (kinds.Request Routine) = true
is_routine_kind (kinds.Request Simple) = false
is_routine_kind (kinds.Request Replied) = false
is_routine_kind kinds.Reply = false

-- there is a form, and it is that of a routine's request
abbrev pub is_routine : Option Form → Bool
is_routine None = false
is_routine (Some form) = is_routine_kind form.kind

-- the request of the row is a routine's
abbrev pub is_routine_row : Row → Bool
is_routine_row row = is_routine row.request

-- there is an interface, and it has a routine
abbrev pub has_routine : Option Interface → Bool
has_routine None = false
has_routine (Some interface) = list_any is_routine_row interface.rows

-- t may name ports of class c for the replies of interface s: it may hold a send-once right there,
-- the class accepts them, and no line keeps t from it. A class that accepts requests of a routine
-- of s takes such a right, whether or not replies have to fit.
abbrev pub hears_at : Wiring → (Fact → Bool) → ℕ → ℕ → ℕ → Bool
hears_at W set s t c =
    set (Hold t c SendOnce) && (accepts W (items.Reply s) c && may W Replies t SendOnce c)

-- t may name a port for the replies of interface s
abbrev pub hears : Wiring → (Fact → Bool) → ℕ → ℕ → Bool
hears W set s t = any_below (hears_at W set s t) (classes W)

-- there is one of these tasks, and none of them may name a port for the replies of interface s
abbrev pub are_deaf : Wiring → (Fact → Bool) → ℕ → List ℕ → Bool
are_deaf W set s ts = not (length ts == 0) && not (list_any (hears W set s) ts)

-- interface s has a routine and may be asked, but never with a port that accepts its replies
abbrev pub is_unanswered : Table → (Fact → Bool) → ℕ → Bool
is_unanswered table set s =
    has_routine (slice_get table.interfaces s)
    && are_deaf (wiring_of table) set s (askers (wiring_of table) set (items.Request s))

-- the interfaces of which this is so, by their numbers
abbrev pub unanswered : Table → (Fact → Bool) → List ℕ
unanswered table set = those_below (is_unanswered table set) (length table.interfaces)

-- What lines limit: a type of slots, or a verb of a task.

-- the word of a verb
abbrev pub verb_word : TrustVerb → List ℕ
verb_word verbs.Takes = codes "takes"
verb_word verbs.Gives = codes "gives"
verb_word verbs.Sends = codes "sends"
verb_word verbs.Replies = codes "replies"

-- a type as lines name it, `S.T`
abbrev pub type_subject : List ℕ → List ℕ → List ℕ
type_subject subsystem type_name = subsystem ++ (codes "." ++ type_name)

-- what a line limits, if it does: `S.T`, or `T VERB`
abbrev pub subject : WiringSays → Option (List ℕ)
subject (says.Admit subsystem type_name class) = Some (type_subject subsystem type_name)
subject (says.Trust task verb right) = Some (task ++ (codes " " ++ verb_word verb))
subject other = None

-- the line names a class
abbrev pub names_class : WiringSays → Bool
names_class (says.Admit subsystem type_name class) = is_some class
names_class (says.Trust task verb right) = is_some right
names_class other = false

-- the subjects, and this one behind them unless it is one of them
abbrev pub with_subject : List (List ℕ) → Option (List ℕ) → List (List ℕ)
with_subject subjects None = subjects
with_subject subjects (Some one) = with_name subjects one

-- what the line limits, if it names a class
abbrev pub named_subject : WiringSays → Option (List ℕ)
named_subject line = if names_class line then subject line else None

-- what lines limit that name a class, behind these
abbrev pub named_from : List (List ℕ) → List (Line WiringSays) → List (List ℕ)
named_from subjects [] = subjects
named_from subjects (line ∷ lines) =
    named_from (with_subject subjects (named_subject line.says)) lines

-- what lines limit that name a class
abbrev pub named_subjects : List (Line WiringSays) → List (List ℕ)
named_subjects lines = named_from [] lines

-- the subject is one of these
abbrev pub is_among : List (List ℕ) → List ℕ → Bool
is_among subjects one = is_some (number_of subjects one)

-- Lines of `none` that add nothing.

-- A line of `none` by its number, and what it limits.
pub record IdleLine : Type 0 where
  pub line : ℕ
  pub subject : List ℕ

-- the line of this number, if it limits one of these
abbrev pub idle_at : Bool → ℕ → List ℕ → List IdleLine
idle_at true n one = record { line = n; subject = one } ∷ []
idle_at false n one = []

-- the same of a line that may limit something
abbrev pub idle_of : List (List ℕ) → ℕ → Option (List ℕ) → List IdleLine
idle_of named n None = []
idle_of named n (Some one) = idle_at (is_among named one) n one

-- the line, if it names no class, and another line about the same names one
abbrev pub idle_line : List (List ℕ) → Line WiringSays → List IdleLine
idle_line named line =
    if names_class line.says then [] else idle_of named line.number (subject line.says)

-- all such lines, in their order
abbrev pub idle_lines : List (Line WiringSays) → List IdleLine
idle_lines lines = flat_map (idle_line (named_subjects lines)) lines

-- Slots that never carry a right from one task to another.

-- t holds on class c what a slot of this disposition needs, the slot's type admits the class, and
-- no line keeps t from sending it
abbrev pub fills_at : Wiring → (Fact → Bool) → Disp → ℕ → ℕ → ℕ → Bool
fills_at W set x sort t c =
    set (Hold t c (needed x)) && (admits W sort c && may W Sends t (given x) c)

-- t has a right for the slot
abbrev pub fills : Wiring → (Fact → Bool) → Disp → ℕ → ℕ → Bool
fills W set x sort t = any_below (fills_at W set x sort t) (classes W)

-- there is one of these tasks, and none of them has a right for the slot
abbrev pub are_idle : Wiring → (Fact → Bool) → Disp → ℕ → List ℕ → Bool
are_idle W set x sort ts = not (length ts == 0) && not (list_any (fills W set x sort) ts)

-- Some task may ask another for a message of the item, and none that may has a right for a slot of
-- this disposition and type: no instance of K4 by the slot is of a sender that may ask another.
abbrev pub is_dead : Wiring → (Fact → Bool) → LabelItem → Disp → ℕ → Bool
is_dead W set item x sort = are_idle W set x sort (askers W set item)

-- A slot by the names of its routine and of its argument.
pub record DeadSlot : Type 0 where
  pub routine : List ℕ
  pub argument : List ℕ

-- A line about a type, and the slots of the type that never carry a right.
pub record DeadLine : Type 0 where
  pub line : ℕ
  pub subsystem : List ℕ
  pub type_name : List ℕ
  pub slots : List DeadSlot

-- which slots are looked for: those of a type of the interface of this number
pub record Wanted : Type 0 where
  pub table : Table
  pub set : Fact → Bool
  pub interface : ℕ
  pub type_name : List ℕ

-- the slot of this message is such a one, and is dead by each of its dispositions
abbrev pub is_dead_slot : Wanted → MessageKind → Option Slot → Bool
is_dead_slot w kind None = false
is_dead_slot w kind (Some slot) =
    bytes_eq slot.type_name w.type_name
    && list_all
    (λ x. is_dead (wiring_of w.table) w.set (item_of kind w.interface) x
    (sort_number (sorts_of w.table.interfaces) w.interface slot.type_name))
    (dispositions_of slot.types)

-- the slot, if it is to be in the list
abbrev pub slot_if : Bool → List ℕ → List ℕ → List DeadSlot
slot_if true routine argument = record { routine = routine; argument = argument } ∷ []
slot_if false routine argument = []

-- of arguments of a form, of which the first has this number, those that are dead slots
abbrev pub dead_from : Wanted → MessageKind → Form → ℕ → List Argument → List DeadSlot
dead_from w kind form i [] = []
dead_from w kind form i (argument ∷ arguments) =
    slot_if (is_dead_slot w kind (find (is_at i) form.slots)) form.name argument.name
    ++ dead_from w kind form (i + 1) arguments

-- of a form that is there, its arguments that are dead slots
abbrev pub dead_in : Wanted → MessageKind → Option Form → List DeadSlot
dead_in w kind None = []
dead_in w kind (Some form) = dead_from w kind form 0 form.arguments

-- the same of the request and the reply of a routine
abbrev pub dead_of_row : Wanted → Row → List DeadSlot
dead_of_row w row = dead_in w messages.Request row.request ++ dead_in w messages.Reply row.reply

-- the line of this number with these slots, if there is one
abbrev pub dead_line : ℕ → List ℕ → List ℕ → List DeadSlot → List DeadLine
dead_line n subsystem type_name [] = []
dead_line n subsystem type_name (slot ∷ slots) = record {
  line = n;
  subsystem = subsystem;
  type_name = type_name;
  slots = slot ∷ slots;
} ∷ []

-- the dead slots of this type of an interface that is there
abbrev pub dead_slots : Table → (Fact → Bool) → ℕ → List ℕ → Option Interface → List DeadSlot
dead_slots table set s type_name None = []
dead_slots table set s type_name (Some interface) =
    flat_map (dead_of_row (record {
      table = table;
      set = set;
      interface = s;
      type_name = type_name;
    })) interface.rows

-- the same of the interface of this number, if it has one
abbrev pub dead_of : Table → (Fact → Bool) → List ℕ → Option ℕ → List DeadSlot
dead_of table set type_name None = []
dead_of table set type_name (Some s) =
    dead_slots table set s type_name (slice_get table.interfaces s)

-- the line is the first about the subject, behind lines about these, and a line about it names a
-- class
abbrev pub is_first : (named known : List (List ℕ)) → List ℕ → Bool
is_first named known one = is_among named one && not (is_among known one)

-- the line of this number about a type with the dead slots of the type, if it is to be there
abbrev pub dead_if : Table → (Fact → Bool) → Bool → ℕ → List ℕ → List ℕ → List DeadLine
dead_if table set false n subsystem type_name = []
dead_if table set true n subsystem type_name =
    dead_line n subsystem type_name
    (dead_of table set type_name (interface_number table.interfaces subsystem))

-- the same of a line, if it is the first about a type for which some line names a class
abbrev pub dead_at : Table → (Fact → Bool) → (named known : List (List ℕ)) → ℕ → WiringSays
    → List DeadLine
dead_at table set named known n (says.Admit subsystem type_name class) =
    dead_if table set (is_first named known (type_subject subsystem type_name)) n subsystem
    type_name
dead_at table set named known n other = []

-- the same of lines behind lines that limit these, where others name classes of those
abbrev pub dead_among : Table → (Fact → Bool) → (named known : List (List ℕ))
    → List (Line WiringSays) → List DeadLine
dead_among table set named known [] = []
dead_among table set named known (line ∷ lines) =
    dead_at table set named known line.number line.says
    ++ dead_among table set named (with_subject known (subject line.says)) lines

-- the lines of slots that never carry a right from one task to another, in their order
abbrev pub dead_lines : Table → (Fact → Bool) → List (Line WiringSays) → List DeadLine
dead_lines table set lines = dead_among table set (named_subjects lines) [] lines

-- All parts that can do nothing.
pub record DeadParts : Type 0 where
  pub unaccepted : List ℕ
  pub quiet : List QuietLine
  pub unanswered : List ℕ
  pub slots : List DeadLine
  pub idle : List IdleLine

-- none
abbrev pub no_dead_parts : DeadParts
no_dead_parts = record { unaccepted = []; quiet = []; unanswered = []; slots = []; idle = [] }

-- all parts of a system that can do nothing, by a set of facts
abbrev pub dead_parts : Table → List (Line WiringSays) → (Fact → Bool) → DeadParts
dead_parts table lines set = record {
  unaccepted = unaccepted table;
  quiet = quiet_lines table set lines;
  unanswered = unanswered table set;
  slots = dead_lines table set lines;
  idle = idle_lines lines;
}
