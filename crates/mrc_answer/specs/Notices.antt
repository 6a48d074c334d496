-- Believe. What is told besides an answer: routines that may carry rights and are left out of MIG
-- files, files that an older `mig` has cut, routines of notifications, a policy that is easily read
-- wrongly, parts that can do nothing, and trusted tasks. This profile's own choice.
use Rattle.std.specs.Prelude.{◌≡◌, ℕ, ◌+◌, ◌==◌, Bool, true, false, not, ◌&&◌, ◌||◌, List, [], ◌∷◌}
use Rattle.std.specs.Prelude.{◌++◌, map, filter, Option, Some, None, bytes_eq, codes, find}
use Rattle.std.specs.List.{list_any}
use Rattle.mrc_base.specs.declared.Fact.{Fact}
use Rattle.mrc_model.specs.Rules.{IsLeast}
use Rattle.mrc_forms.specs.declared.form.MessageKind.TheVariants.{Request}
use Rattle.mrc_forms.specs.Forms.{Form}
use Rattle.mrc_forms.specs.Tables.{Table as Interface, forms_by}
use Rattle.mrc_interface.specs.Left.{carriers, is_old_cut}
use Rattle.mrc_wide_policy.specs.declared.asked.Stance.{Stance}
use Rattle.mrc_wide_policy.specs.declared.asked.Stance.TheVariants.{Forbidden, Waived, Expected}
use Rattle.mrc_wide_policy.specs.declared.facts.WaivedLine.{WaivedLine}
use Rattle.mrc_wide_policy.specs.Asked.{waiver_number}
use Rattle.mrc_wiring_text.specs.declared.reading.Line.{Line}
use Rattle.mrc_wiring_text.specs.declared.wiring.WiringSays.{WiringSays}
use Rattle.mrc_wiring.specs.Claims.{Claimed}
use Rattle.mrc_wiring.specs.declared.claim.ForbiddenLine.{ForbiddenLine}
use Rattle.mrc_wiring.specs.declared.table.TrustedLine.{TrustedLine}
use Rattle.mrc_wiring.specs.Table.{Table, wiring_of}
use Rattle.mrc_dead.specs.Dead.{DeadParts, dead_parts, no_dead_parts}
use Rattle.mrc_check.specs.declared.demands.Demand.{Demand}
use Rattle.mrc_check.specs.Texts.{Stated}
use Rattle.mrc_why.specs.Answered.{is_waived, told}
use Rattle.mrc_answer.specs.Expected.{does_expect, expected_facts}
use Rattle.mrc_answer.specs.Files.{Files, given}
use Rattle.mrc_answer.specs.PlainLines.{PlainLine, plain_lines}
use Rattle.mrc_answer.specs.LeakyLines.{LeakyLine, leaky_lines}

-- a MIG file, by its number, that has a routine of notifications
pub record Notification : Type 0 where
  pub file : ℕ
  pub routine : List ℕ

-- what is told of a policy of version 3: whether it waives something, whether it expects nothing,
-- the numbers of the lines that waive nothing, and, besides the answer to a certificate, how many
-- facts it expects
pub record DemandNotices : Type 0 where
  pub waives : Bool
  pub expects_nothing : Bool
  pub idle : List ℕ
  pub unjudged : ℕ

-- nothing
abbrev pub no_demand_notices : DemandNotices
no_demand_notices = record { waives = false; expects_nothing = false; idle = []; unjudged = 0 }

-- All that is told besides an answer.
pub record Notices : Type 0 where
  pub left_out : List (List (List ℕ))
  pub cut_before : List ℕ
  pub notification : Option Notification
  pub is_empty_policy : Bool
  pub demands : DemandNotices
  pub plain : List PlainLine
  pub leaky : List LeakyLine
  pub dead : DeadParts
  pub trusted : List (List ℕ)
  pub wired : Option Table

-- nothing
abbrev pub no_notices : Notices
no_notices = record {
  left_out = [];
  cut_before = [];
  notification = None;
  is_empty_policy = false;
  demands = no_demand_notices;
  plain = [];
  leaky = [];
  dead = no_dead_parts;
  trusted = [];
  wired = None;
}

-- of each MIG file, the routines that may carry rights and are left out of it
abbrev pub left_out : List (List ℕ) → List (List (List ℕ))
left_out defs = map carriers defs

-- a number, if it is to be in the list
abbrev pub number_if : Bool → ℕ → List ℕ
number_if true n = n ∷ []
number_if false n = []

-- the numbers of those of the MIG files from this number on that an older `mig` has cut
abbrev pub cut_from : ℕ → List (List ℕ) → List ℕ
cut_from n [] = []
cut_from n (bytes ∷ defs) = number_if (is_old_cut bytes) n ++ cut_from (n + 1) defs

-- the numbers of the MIG files that an older `mig` has cut
abbrev pub cut_before : List (List ℕ) → List ℕ
cut_before defs = cut_from 0 defs

-- whether a routine of this name asks for a notification of no senders or of a dead name, or is one
abbrev pub is_notification : List ℕ → Bool
is_notification name =
    bytes_eq name (codes "mach_port_request_notification")
    || (bytes_eq name (codes "mach_notify_no_senders")
    || bytes_eq name (codes "mach_notify_dead_name"))

-- the request of the first such routine of an interface, in the order of the ids
abbrev pub notification_in : Interface → Option Form
notification_in table =
    find (λ (form : Form). is_notification form.name) (forms_by Request table)

-- the file of this number with such a routine, or else this
abbrev pub notification_or : Option Notification → ℕ → Option Form → Option Notification
notification_or other n None = other
notification_or other n (Some form) = Some (record { file = n; routine = form.name })

-- the first such routine of the MIG files from this number on, which have these interfaces
abbrev pub notification_from : ℕ → List Interface → Option Notification
notification_from n [] = None
notification_from n (table ∷ tables) =
    notification_or (notification_from (n + 1) tables) n (notification_in table)

-- whether no line forbids anything
abbrev pub is_empty : List ForbiddenLine → Bool
is_empty [] = true
is_empty (line ∷ lines) = false

-- the line trusts the task of this number
abbrev pub is_line_of : ℕ → TrustedLine → Bool
is_line_of task line = line.task == task

-- some line trusts the task of this number
abbrev pub is_trusted : List TrustedLine → ℕ → Bool
is_trusted lines task = list_any (is_line_of task) lines

-- the name, if it is to be in the list
abbrev pub name_if : Bool → List ℕ → List (List ℕ)
name_if true name = name ∷ []
name_if false name = []

-- of the tasks from this number on, which have these names, the names of those that a line trusts
abbrev pub trusted_from : List TrustedLine → ℕ → List (List ℕ) → List (List ℕ)
trusted_from lines n [] = []
trusted_from lines n (name ∷ names) =
    name_if (is_trusted lines n) name ++ trusted_from lines (n + 1) names

-- the names of the tasks that lines of the wiring trust, in the order of the tasks' numbers
abbrev pub trusted_names : Table → List (List ℕ)
trusted_names table = trusted_from table.trusts 0 table.names

-- a demand is waived by the line of this number
abbrev pub is_waived_by : ℕ → Stance → Bool
is_waived_by n Forbidden = false
is_waived_by n (Waived m) = m == n
is_waived_by n Expected = false

-- the line waives none of the demands that are told
abbrev pub is_idle : List Demand → WaivedLine → Bool
is_idle told line = not (list_any (λ demand. is_waived_by line.number demand.stance) told)

-- what is told of what a policy demands, by a set of facts
abbrev pub demand_notices_of : Stated → (Fact → Bool) → DemandNotices
demand_notices_of meant set = record {
  waives = list_any is_waived meant.demands;
  expects_nothing = meant.stands.is_wide && not (list_any does_expect meant.stands.lines);
  idle = map waiver_number (filter (is_idle (told set meant.demands)) meant.stands.waived);
  unjudged = 0;
}

-- what is told besides a no, of lines of a wiring, a claim and what a policy demands
abbrev pub notices_from : Files → List (Line WiringSays) → Claimed → DemandNotices → (Fact → Bool)
    → Notices
notices_from files lines claim demands set = record {
  left_out = left_out files.texts.defs;
  cut_before = cut_before files.texts.defs;
  notification = notification_from 0 claim.table.interfaces;
  is_empty_policy = is_empty claim.lines && not demands.waives;
  demands = demands;
  plain = plain_lines claim.table (given files.texts.policy);
  leaky = leaky_lines set claim.lines;
  dead = dead_parts claim.table lines set;
  trusted = [];
  wired = None;
}

-- what is told besides a no of files and what they mean, by a set of facts
abbrev pub notices_of : Files → Stated → (Fact → Bool) → Notices
notices_of files meant set =
    notices_from files meant.lines meant.claim (demand_notices_of meant set) set

-- the same besides a yes that waives: also which tasks are trusted
abbrev pub waived_notices_of : Files → Stated → (Fact → Bool) → Notices
waived_notices_of files meant set =
    record (notices_of files meant set) { trusted = trusted_names meant.claim.table }

-- the same besides a yes: also which tasks are trusted, and the wiring
abbrev pub yes_notices_of : Files → Stated → (Fact → Bool) → Notices
yes_notices_of files meant set = record (notices_of files meant set) {
  trusted = trusted_names meant.claim.table;
  wired = Some meant.claim.table;
}

-- these are told besides a no, by the least set
abbrev pub AreNotices : Files → Stated → Notices → Type 0
AreNotices files meant notices =
    (set : Fact → Bool) → IsLeast (wiring_of meant.claim.table) set
    → notices ≡ notices_of files meant set

-- these are told besides a yes that waives, by the least set
abbrev pub AreWaivedNotices : Files → Stated → Notices → Type 0
AreWaivedNotices files meant notices =
    (set : Fact → Bool) → IsLeast (wiring_of meant.claim.table) set
    → notices ≡ waived_notices_of files meant set

-- these are told besides a yes, by the least set
abbrev pub AreYesNotices : Files → Stated → Notices → Type 0
AreYesNotices files meant notices =
    (set : Fact → Bool) → IsLeast (wiring_of meant.claim.table) set
    → notices ≡ yes_notices_of files meant set

-- what is told besides the reason why a certificate is refused
abbrev pub left_out_alone : Files → Notices
left_out_alone files = record no_notices {
  left_out = left_out files.texts.defs;
  cut_before = cut_before files.texts.defs;
  demands = record no_demand_notices { unjudged = expected_facts files.texts };
}

-- what is told besides a certificate that is accepted
abbrev pub left_out_and_trusted : Files → Table → Notices
left_out_and_trusted files table = record no_notices {
  left_out = left_out files.texts.defs;
  cut_before = cut_before files.texts.defs;
  demands = record no_demand_notices { unjudged = expected_facts files.texts };
  trusted = trusted_names table;
}
