-- Worked. A wiring of a file server and its client, over one interface.
use Rattle.std.specs.Prelude.{◌≡◌, ℕ, Bool, true, false, List, [], ◌∷◌, Option, Some, None}
use Rattle.std.specs.Prelude.{Result, Ok, Err}
use Rattle.std.specs.Prelude.{refl, codes, length, map}
use Rattle.std.specs.List.{range_with_len}
use Rattle.mrc_base.specs.declared.PortRight.TheVariants.{Send, SendOnce}
use Rattle.mrc_forms.specs.declared.types.ItemTypes.TheVariants.{One}
use Rattle.mrc_forms.specs.declared.form.FormKind.TheVariants as kind
use Rattle.mrc_forms.specs.Forms.{Argument, return_code}
use Rattle.mrc_forms.specs.Tables.{Table as Interface}
use Rattle.mrc_model.specs.declared.RequestKind.TheVariants as requests
use Rattle.mrc_model.specs.declared.LabelItem.TheVariants as label
use Rattle.mrc_model.specs.declared.FirstLine.TheVariants.{Task as TaskLine, Port as PortLine}
use Rattle.mrc_model.specs.declared.FirstLine.TheVariants.{Hold as HoldLine}
use Rattle.mrc_model.specs.Wiring.{Wiring, TrustLine, OneOf, Shape}
use Rattle.mrc_wiring_text.specs.declared.reading.Edition.TheVariants as edition
use Rattle.mrc_wiring_text.specs.declared.reading.Line.{Line}
use Rattle.mrc_wiring_text.specs.declared.policy.ClassName.TheVariants as class
use Rattle.mrc_wiring_text.specs.declared.items.Item.TheVariants as item
use Rattle.mrc_wiring_text.specs.declared.wiring.HeldRight.TheVariants as held
use Rattle.mrc_wiring_text.specs.declared.wiring.WiringSays.{WiringSays}
use Rattle.mrc_wiring_text.specs.declared.wiring.WiringSays.TheVariants as says
use Rattle.mrc_wiring.specs.declared.faults.ResolveFault.{ResolveFault}
use Rattle.mrc_wiring.specs.declared.faults.ResolveFault.TheVariants.{UnknownName, TwiceNamed}
use Rattle.mrc_wiring.specs.declared.faults.ResolveFault.TheVariants.{TooMany, IdClash}
use Rattle.mrc_wiring.specs.Births.{put_row}
use Rattle.mrc_wiring.specs.Table.{Table, wiring_of, admitted_of}
use Rattle.mrc_wiring.specs.Trusting.{right_place, trust_row}
use Rattle.mrc_model.specs.declared.Verb.TheVariants as verbs
use Rattle.mrc_wiring_text.specs.declared.trust.TrustVerb.TheVariants as trust
use Rattle.mrc_wiring.specs.Resolving.{empty_table, resolved, add_task, add_port, place_port}
use Rattle.mrc_wiring.specs.Resolving.{add_births}
use Rattle.mrc_wiring.specs.Resolving.{place_births, add_hold_port, place_hold}
use Rattle.mrc_wiring.specs.Resolving.{add_admit, add_trust, add_fit}

-- an argument of this name: `count` items of the type of this number, of so many bits each
abbrev argument : List ℕ → ℕ → ℕ → ℕ → Argument
argument name number size count = record {
  name = name;
  items = record { types = One number; size = size; number = count; is_bound = false };
}

-- subsystem fsys 3000; type file_t = MACH_MSG_TYPE_COPY_SEND; type path_t = c_string[64];
-- routine open(root : mach_port_t; in path : path_t; out file : file_t);
abbrev fsys : Interface
fsys = record {
  name = codes "fsys";
  base = 3000;
  rows = record {
    request = Some record {
      name = codes "open";
      id = 3000;
      kind = kind.Request requests.Routine;
      arguments = argument (codes "path") 12 8 64 ∷ [];
      slots = [];
    };
    reply = Some record {
      name = codes "open";
      id = 3100;
      kind = kind.Reply;
      arguments = return_code ∷ argument (codes "file") 19 32 1 ∷ [];
      slots = record { argument = 1; types = One 19; type_name = codes "file_t" } ∷ [];
    };
  } ∷ [];
}

-- a line of this number
abbrev line : ℕ → WiringSays → Line WiringSays
line n what = record { number = n; says = what }

-- task app; task fs; port root receiver fs accepts request fsys; births app accepts reply fsys;
-- hold app send port root; admit fsys.file_t births fs
abbrev filing : List (Line WiringSays)
filing =
    line 2 (says.Task (codes "app"))
    ∷ line 3 (says.Task (codes "fs"))
    ∷ line 4 (says.Port (codes "root") (codes "fs") (item.Request (codes "fsys") ∷ []))
    ∷ line 5 (says.Births (codes "app") 0 (item.Reply (codes "fsys") ∷ []))
    ∷ line 6 (says.HoldPort (codes "app") held.Send (codes "root"))
    ∷ line 7 (says.Admit (codes "fsys") (codes "file_t") (Some (class.Births (codes "fs") 0))) ∷ []

-- the wiring that lines mean, if they mean one
abbrev wiring_said : Result Table ResolveFault → Option Wiring
wiring_said (Ok table) = Some (wiring_of table)
wiring_said (Err fault) = None

-- an argument of one type, by its number: so many items of so many bits, and the number of its sort
abbrev shape : ℕ → ℕ → ℕ → ℕ → Shape
shape number size count sort = record {
  types = OneOf (number ∷ []);
  size = size;
  number = count;
  is_bound = false;
  sort = sort;
}

-- Two tasks and a port; class 0 is the port, 1 and 2 are kernel ports, 3 and 4 births. A file is
-- the one type of a port argument, number 0, and admits class 4.
pub files_are_wired : wiring_said (resolved edition.First (fsys ∷ []) filing) ≡ Some record {
  lines = TaskLine ∷ TaskLine ∷ PortLine 1 ∷ HoldLine 0 2 Send ∷ [];
  tasks = 2;
  ports = 1;
  births = (0, 0) ∷ (1, 0) ∷ [];
  interfaces = record {
    requests = record {
      id = 3000;
      kind = requests.Routine;
      shapes = shape 12 8 64 1 ∷ [];
    } ∷ [];
    replies = record {
      id = 3100;
      shapes = shape 2 32 1 1 ∷ shape 19 32 1 0 ∷ [];
    } ∷ [];
  } ∷ [];
  labels = (label.Request 0 ∷ []) ∷ [] ∷ [] ∷ (label.Reply 0 ∷ []) ∷ [] ∷ [];
  admitted = (0, Some 4) ∷ [];
  trusted = [];
  replies_fit = false;
}
unfolding add_task add_port place_port add_births place_births put_row add_hold_port place_hold
    add_admit
files_are_wired = refl

-- without its interface the port line names what is not there
pub no_interface : resolved edition.First [] filing ≡ Err (UnknownName 4)
unfolding add_task add_port place_port
no_interface = refl

-- two interfaces of one name are a fault before that of any line
pub interface_twice : resolved edition.First (fsys ∷ fsys ∷ []) filing ≡ Err (TwiceNamed 0)
interface_twice = refl

-- so many interfaces of different names
abbrev interfaces : ℕ → List Interface
interfaces n = map (λ k. record { name = k ∷ []; base = 0; rows = [] }) (range_with_len 65 n)

-- a wiring of version 3 may have more of them than one of version 2
pub sixteen : resolved edition.Second (interfaces 16) [] ≡ Ok (empty_table (interfaces 16))
sixteen = refl

pub seventeen : resolved edition.Second (interfaces 17) [] ≡ Err (TooMany 0)
seventeen = refl

pub seventeen_of_third :
    resolved edition.Third (interfaces 17) [] ≡ Ok (empty_table (interfaces 17))
seventeen_of_third = refl

-- a label that has one item twice
pub item_twice :
    resolved edition.First (fsys ∷ []) (line 2 (says.Task (codes "a"))
    ∷ line 3 (says.Births (codes "a") 0 (item.Reply (codes "fsys") ∷ item.Destroyed
    ∷ item.Reply (codes "fsys") ∷ [])) ∷ [])
    ≡ Err (IdClash 3)
unfolding add_task add_births place_births put_row
item_twice = refl

-- births of several kinds in any order are numbered by task, and then by kind; those of kind 0 are
-- always there
abbrev kinds : List (Line WiringSays)
kinds =
    line 2 (says.Task (codes "a"))
    ∷ line 3 (says.Births (codes "a") 5 (item.Destroyed ∷ []))
    ∷ line 4 (says.Task (codes "b"))
    ∷ line 5 (says.Births (codes "b") 1 [])
    ∷ line 6 (says.Births (codes "a") 3 []) ∷ []

pub kinds_are_wired : wiring_said (resolved edition.Second [] kinds) ≡ Some record {
  lines = TaskLine ∷ TaskLine ∷ [];
  tasks = 2;
  ports = 0;
  births = (0, 0) ∷ (0, 3) ∷ (0, 5) ∷ (1, 0) ∷ (1, 1) ∷ [];
  interfaces = [];
  labels = [] ∷ [] ∷ [] ∷ [] ∷ (label.Destroyed ∷ []) ∷ [] ∷ [] ∷ [];
  admitted = [];
  trusted = [];
  replies_fit = false;
}
unfolding add_task add_births place_births put_row
kinds_are_wired = refl

-- the births of one task and kind are said once
pub kind_twice :
    resolved edition.Second []
    (line 2 (says.Task (codes "a")) ∷ line 3 (says.Births (codes "a") 1 [])
    ∷ line 4 (says.Births (codes "a") 1 []) ∷ [])
    ≡ Err (TwiceNamed 4)
unfolding add_task add_births place_births put_row
kind_twice = refl

-- files are what a makes of kind 2; a later line says it of kind 1 also
abbrev admitting : List (Line WiringSays)
admitting =
    line 2 (says.Task (codes "a"))
    ∷ line 3 (says.Births (codes "a") 2 [])
    ∷ line 4 (says.Admit (codes "fsys") (codes "file_t") (Some (class.Births (codes "a") 2)))
    ∷ line 5 (says.Births (codes "a") 1 []) ∷ []

-- which types admit which classes, if the lines have a meaning
abbrev admits_said : Result Table ResolveFault → Option (List (ℕ × Option ℕ))
admits_said (Ok table) =
    Some (admitted_of (length table.ports) (length table.names) table.births table.admits)
admits_said (Err fault) = None

-- a's kernel port is class 0, and its births of kinds 0, 1 and 2 are classes 1, 2 and 3
pub later_kind_shifts :
    admits_said (resolved edition.Second (fsys ∷ []) admitting) ≡ Some ((0, Some 3) ∷ [])
unfolding add_task add_births place_births put_row add_admit
later_kind_shifts = refl

-- an admit line names a kind of an earlier line
pub later_kind_is_unknown :
    resolved edition.Second (fsys ∷ []) (line 2 (says.Task (codes "a"))
    ∷ line 3 (says.Admit (codes "fsys") (codes "file_t") (Some (class.Births (codes "a") 1)))
    ∷ line 4 (says.Births (codes "a") 1 []) ∷ [])
    ≡ Err (UnknownName 3)
unfolding add_task add_admit
later_kind_is_unknown = refl

-- what b may do is limited; a's births of kind 2 are class 4 once those of kind 1 are there
abbrev trusting : List (Line WiringSays)
trusting =
    line 2 (says.Task (codes "a"))
    ∷ line 3 (says.Task (codes "b"))
    ∷ line 4 (says.Births (codes "a") 2 [])
    ∷ line 5 (says.Trust (codes "b") trust.Takes (Some record {
      right = Send;
      class = class.Births (codes "a") 2;
    }))
    ∷ line 6 (says.Trust (codes "b") trust.Replies None)
    ∷ line 7 says.RepliesFit
    ∷ line 8 (says.Births (codes "a") 1 []) ∷ []

-- which tasks are trusted, and whether reply ports have to fit, if lines have a meaning
abbrev trusted_lines : Result Table ResolveFault → Option (List TrustLine × Bool)
trusted_lines (Ok table) = Some ((wiring_of table).trusted, (wiring_of table).replies_fit)
trusted_lines (Err fault) = None

pub trusted_tasks_are_wired : trusted_lines (resolved edition.Third [] trusting) ≡ Some (
  record { verb = verbs.Takes; task = 1; right = Some (Send, 4) }
      ∷ record { verb = verbs.Replies; task = 1; right = None } ∷ [],
  true,
)
unfolding add_task add_births place_births put_row add_trust add_fit
trusted_tasks_are_wired = refl

-- b's send right on that class: place 4 of the row of its verb; a send-once right is placed behind
-- the parts of the two other rights, of 1,344 classes each
pub row_of_the_verb : trust_row verbs.Takes 1 ≡ 4
row_of_the_verb = refl

pub send_is_placed : right_place Send 4 ≡ 4
send_is_placed = refl

pub once_is_placed : right_place SendOnce 4 ≡ 2692
once_is_placed = refl

-- a task, and a class, of a later line
pub later_task_is_unknown :
    resolved edition.Third [] (line 2 (says.Task (codes "a"))
    ∷ line 3 (says.Trust (codes "b") trust.Gives None)
    ∷ line 4 (says.Task (codes "b")) ∷ [])
    ≡ Err (UnknownName 3)
unfolding add_task add_trust
later_task_is_unknown = refl

pub later_class_is_unknown :
    resolved edition.Third [] (line 2 (says.Task (codes "a"))
    ∷ line 3 (says.Trust (codes "a") trust.Gives (Some record {
      right = SendOnce;
      class = class.Births (codes "a") 1;
    })) ∷ [])
    ≡ Err (UnknownName 3)
unfolding add_task add_trust
later_class_is_unknown = refl

-- that reply ports fit is said once; that a task may do nothing by a verb may be said twice
pub fit_twice :
    resolved edition.Third [] (line 2 (says.Task (codes "a"))
    ∷ line 3 (says.Trust (codes "a") trust.Gives None)
    ∷ line 4 (says.Trust (codes "a") trust.Gives None)
    ∷ line 5 says.RepliesFit ∷ line 6 says.RepliesFit ∷ [])
    ≡ Err (TwiceNamed 6)
unfolding add_task add_trust add_fit
fit_twice = refl
