-- Believe. The table that the lines of a wiring mean over interfaces, or the first fault. Lines are
-- taken in their order; the list of interfaces comes before them, as line 0. This profile's own
-- choice.
use Rattle.std.specs.Prelude.{◌≡◌, ℕ, ◌++◌, ◌||◌, Bool, true, false, List, []}
use Rattle.std.specs.Prelude.{◌∷◌, length, bytes_eq}
use Rattle.std.specs.Prelude.{Option, Some, None, Result, Ok, Err, nat_le, nat_lt, is_some}
use Rattle.std.specs.Prelude.{position}
use Rattle.std.specs.Prelude.{if◌then◌else◌, slice_get, option_and_then}
use Rattle.std.specs.List.{list_any, filter_map}
use Rattle.std.specs.Option.{ok_or}
use Rattle.mrc_base.specs.Limits.{limit_of_tasks, limit_of_wired_ports, limit_of_interfaces}
use Rattle.mrc_base.specs.Limits.{limit_of_few_interfaces}
use Rattle.mrc_base.specs.Limits.{limit_of_names}
use Rattle.mrc_base.specs.Reading.{◌>>=◌, Refuses}
use Rattle.mrc_base.specs.declared.memory.OrMemory.{OrMemory}
use Rattle.mrc_base.specs.declared.PortRight.{PortRight}
use Rattle.mrc_base.specs.declared.PortRight.TheVariants.{Send, SendOnce}
use Rattle.mrc_model.specs.declared.LabelItem.{LabelItem}
use Rattle.mrc_model.specs.declared.Verb.{Verb}
use Rattle.mrc_model.specs.declared.Verb.TheVariants as verbs
use Rattle.mrc_model.specs.declared.FirstLine.{FirstLine}
use Rattle.mrc_model.specs.declared.FirstLine.TheVariants.{Task as TaskLine, Port as PortLine}
use Rattle.mrc_model.specs.declared.FirstLine.TheVariants.{Hold as HoldLine}
use Rattle.mrc_model.specs.FirstHoldings.{first_names}
use Rattle.mrc_forms.specs.Tables.{Table as Interface}
use Rattle.mrc_wiring_text.specs.declared.reading.Edition.{Edition}
use Rattle.mrc_wiring_text.specs.declared.reading.Edition.TheVariants.{First, Second, Third}
use Rattle.mrc_wiring_text.specs.declared.reading.Line.{Line}
use Rattle.mrc_wiring_text.specs.declared.policy.ClassName.{ClassName}
use Rattle.mrc_wiring_text.specs.declared.items.Item.{Item}
use Rattle.mrc_wiring_text.specs.declared.wiring.HeldRight.{HeldRight}
use Rattle.mrc_wiring_text.specs.declared.wiring.HeldRight.TheVariants as held
use Rattle.mrc_wiring_text.specs.declared.wiring.WiringSays.{WiringSays}
use Rattle.mrc_wiring_text.specs.declared.wiring.WiringSays.TheVariants.{Task, Port, Births}
use Rattle.mrc_wiring_text.specs.declared.wiring.WiringSays.TheVariants.{HoldPort, HoldTask, Admit}
use Rattle.mrc_wiring_text.specs.declared.wiring.WiringSays.TheVariants.{Trust, RepliesFit}
use Rattle.mrc_wiring_text.specs.declared.trust.TrustVerb.{TrustVerb}
use Rattle.mrc_wiring_text.specs.declared.trust.TrustVerb.TheVariants as trust
use Rattle.mrc_wiring_text.specs.declared.trust.TrustedRight.{TrustedRight}
use Rattle.mrc_wiring.specs.declared.faults.ResolveFault.{ResolveFault}
use Rattle.mrc_wiring.specs.declared.faults.ResolveFault.TheVariants.{UnknownName, TwiceNamed}
use Rattle.mrc_wiring.specs.declared.faults.ResolveFault.TheVariants.{TooMany, TooManyNames}
use Rattle.mrc_wiring.specs.declared.faults.ResolveFault.TheVariants.{IdClash}
use Rattle.mrc_wiring.specs.declared.names.NumberedClass.{NumberedClass}
use Rattle.mrc_wiring.specs.declared.table.AdmitLine.{AdmitLine}
use Rattle.mrc_wiring.specs.declared.table.NumberedRight.{NumberedRight}
use Rattle.mrc_wiring.specs.declared.table.TrustedLine.{TrustedLine}
use Rattle.mrc_wiring.specs.Births.{new_row, has_said, put_row}
use Rattle.mrc_wiring.specs.Sorts.{is_sort, sorts_of}
use Rattle.mrc_wiring.specs.Table.{Table, wiring_of, kernel_births, port_births}
use Rattle.mrc_wiring.specs.Names.{number_of, class_said}
use Rattle.mrc_wiring.specs.Labels.{interface_number, label_said, clash_among}

-- one more line of the first state
abbrev pub with_line : Table → FirstLine → Table
with_line table line = record table { lines = table.lines ++ line ∷ [] }

-- one more task
abbrev pub with_task : Table → List ℕ → Table
with_task table name = record table {
  names = table.names ++ name ∷ [];
  births = table.births ++ new_row (length table.names) 0 ∷ [];
  lines = table.lines ++ TaskLine ∷ [];
}

-- one more wired port, whose receive right task t has
abbrev pub with_port : Table → List ℕ → ℕ → List LabelItem → Table
with_port table name t label = record table {
  ports = table.ports ++ name ∷ [];
  accepts = table.accepts ++ label ∷ [];
  lines = table.lines ++ PortLine t ∷ [];
}

-- what the births of task t of this kind accept
abbrev pub with_births : Table → ℕ → ℕ → List LabelItem → Table
with_births table t kind label = record table { births = put_row table.births t kind label }

-- one more admit line
abbrev pub with_admit : Table → AdmitLine → Table
with_admit table line = record table { admits = table.admits ++ line ∷ [] }

-- one more line about a trusted task
abbrev pub with_trust : Table → TrustedLine → Table
with_trust table line = record table { trusts = table.trusts ++ line ∷ [] }

-- reply ports have to fit
abbrev pub with_fit : Table → Table
with_fit table = record table { fits = true }

-- the lines give task t more names than it may have
abbrev pub is_over : Table → ℕ → Bool
is_over table t = nat_lt limit_of_names (first_names (wiring_of table) t)

-- one more task, of a new name, unless there are as many as there may be
unfoldable pub add_task : Table → ℕ → List ℕ → Result Table ResolveFault
add_task table n name =
    if is_some (number_of table.names name) then Err (TwiceNamed n)
    else if nat_le limit_of_tasks (length table.names) then Err (TooMany n)
    else Ok (with_task table name)

-- one more wired port, of a new name, for task t, unless there are as many as there may be, the
-- task gets too many names, or two items of the label clash
unfoldable pub place_port : Table → ℕ → List ℕ → ℕ → List LabelItem → Result Table ResolveFault
place_port table n name t label =
    if is_some (number_of table.ports name) then Err (TwiceNamed n)
    else if nat_le limit_of_wired_ports (length table.ports) then Err (TooMany n)
    else if is_over (with_port table name t label) t then Err (TooManyNames t)
    else if clash_among table.interfaces [] label then Err (IdClash n)
    else Ok (with_port table name t label)

-- one more wired port: its receiver and interfaces have names that are there
unfoldable pub add_port : Table → ℕ → List ℕ → List ℕ → List Item → Result Table ResolveFault
add_port table n name receiver accepts = do
  t ← ok_or (number_of table.names receiver) (UnknownName n)
  label ← label_said table.interfaces n accepts
  place_port table n name t label

-- what the births of task t of this kind accept, unless a line has said it or two items clash
unfoldable pub place_births : Table → ℕ → ℕ → ℕ → List LabelItem → Result Table ResolveFault
place_births table n t kind label =
    if has_said table.births t kind then Err (TwiceNamed n)
    else if clash_among table.interfaces [] label then Err (IdClash n)
    else Ok (with_births table t kind label)

-- what a task's births of a kind accept: the task and the interfaces have names that are there
unfoldable pub add_births : Table → ℕ → List ℕ → ℕ → List Item → Result Table ResolveFault
add_births table n task kind accepts = do
  t ← ok_or (number_of table.names task) (UnknownName n)
  label ← label_said table.interfaces n accepts
  place_births table n t kind label

-- a right on a port of this birth number for task t, unless the task gets too many names
unfoldable pub place_hold : Table → ℕ → ℕ → PortRight → Result Table ResolveFault
place_hold table t p right =
    if is_over (with_line table (HoldLine t p right)) t then Err (TooManyNames t)
    else Ok (with_line table (HoldLine t p right))

-- the right that a line gives
abbrev pub right_held : HeldRight → PortRight
right_held held.Send = Send
right_held held.SendOnce = SendOnce

-- the birth number of the wired port of a name
abbrev pub port_birth : Table → List ℕ → Option ℕ
port_birth table name =
    option_and_then (slice_get (port_births 0 table.lines)) (number_of table.ports name)

-- the birth number of the kernel port of the task of a name
abbrev pub kernel_birth : Table → List ℕ → Option ℕ
kernel_birth table name =
    option_and_then (slice_get (kernel_births 0 table.lines)) (number_of table.names name)

-- a right on a wired port, for a task: both of earlier lines
unfoldable pub add_hold_port : Table → ℕ → List ℕ → HeldRight → List ℕ → Result Table ResolveFault
add_hold_port table n holder right port = do
  t ← ok_or (number_of table.names holder) (UnknownName n)
  p ← ok_or (port_birth table port) (UnknownName n)
  place_hold table t p (right_held right)

-- a send right to the kernel port of a task, for a task: both of earlier lines
unfoldable pub add_hold_task : Table → ℕ → List ℕ → List ℕ → Result Table ResolveFault
add_hold_task table n holder task = do
  t ← ok_or (number_of table.names holder) (UnknownName n)
  p ← ok_or (kernel_birth table task) (UnknownName n)
  place_hold table t p Send

-- the class of an admit line, or none
abbrev pub admitted_said : Table → ℕ → Option ClassName
    → Result (Option NumberedClass) ResolveFault
admitted_said table n None = Ok None
admitted_said table n (Some name) =
    ok_or (class_said table.names table.ports table.births name) (UnknownName n)
    >>= λ class. Ok (Some class)

-- a type admits a class, or none: the interface, the type of one of its port arguments, and the
-- class have names that are there
unfoldable pub add_admit : Table → ℕ → List ℕ → List ℕ → Option ClassName
    → Result Table ResolveFault
add_admit table n subsystem type_name class = do
  s ← ok_or (interface_number table.interfaces subsystem) (UnknownName n)
  sort ← ok_or (position (is_sort s type_name) (sorts_of table.interfaces)) (UnknownName n)
  admitted ← admitted_said table n class
  Ok (with_admit table record { sort = sort; class = admitted })

-- the verb that a line names
abbrev pub verb_said : TrustVerb → Verb
verb_said trust.Takes = verbs.Takes
verb_said trust.Gives = verbs.Gives
verb_said trust.Sends = verbs.Sends
verb_said trust.Replies = verbs.Replies

-- the right on a class of a line about a trusted task, or none
abbrev pub trusted_said : Table → ℕ → Option TrustedRight
    → Result (Option NumberedRight) ResolveFault
trusted_said table n None = Ok None
trusted_said table n (Some on) =
    ok_or (class_said table.names table.ports table.births on.class) (UnknownName n)
    >>= λ class. Ok (Some (record { right = on.right; class = class }))

-- what a trusted task may do by a verb: the task and the class have names that are there
unfoldable pub add_trust : Table → ℕ → List ℕ → TrustVerb → Option TrustedRight
    → Result Table ResolveFault
add_trust table n task verb right = do
  t ← ok_or (number_of table.names task) (UnknownName n)
  on ← trusted_said table n right
  Ok (with_trust table record { line = n; verb = verb_said verb; task = t; right = on })

-- reply ports have to fit, which is said once
unfoldable pub add_fit : Table → ℕ → Result Table ResolveFault
add_fit table n = if table.fits then Err (TwiceNamed n) else Ok (with_fit table)

-- what a line adds
abbrev pub add_line : Table → ℕ → WiringSays → Result Table ResolveFault
add_line table n (Task name) = add_task table n name
add_line table n (Port name receiver accepts) = add_port table n name receiver accepts
add_line table n (Births task kind accepts) = add_births table n task kind accepts
add_line table n (HoldPort holder right port) = add_hold_port table n holder right port
add_line table n (HoldTask holder task) = add_hold_task table n holder task
add_line table n (Admit subsystem type_name class) =
    add_admit table n subsystem type_name class
add_line table n (Trust task verb right) = add_trust table n task verb right
add_line table n RepliesFit = add_fit table n

-- what the lines add, in order
abbrev pub add_lines : Table → List (Line WiringSays) → Result Table ResolveFault
add_lines table [] = Ok table
add_lines table (line ∷ lines) =
    add_line table line.number line.says >>= λ more. add_lines more lines

-- no line yet
abbrev pub empty_table : List Interface → Table
empty_table interfaces = record {
  names = [];
  births = [];
  ports = [];
  accepts = [];
  lines = [];
  admits = [];
  trusts = [];
  fits = false;
  interfaces = interfaces;
}

-- the interface has this name
abbrev pub is_named : List ℕ → Interface → Bool
is_named name interface = bytes_eq name interface.name

-- two of the interfaces have one name
abbrev pub has_twice : List Interface → Bool
has_twice [] = false
has_twice (interface ∷ interfaces) =
    list_any (is_named interface.name) interfaces || has_twice interfaces

-- how many interfaces a wiring of an edition may have
abbrev pub interfaces_of : Edition → ℕ
interfaces_of First = limit_of_few_interfaces
interfaces_of Second = limit_of_few_interfaces
interfaces_of Third = limit_of_interfaces

-- the interfaces, of different names, unless there are more than there may be in the edition
abbrev pub started : Edition → List Interface → Result Table ResolveFault
started edition interfaces =
    if has_twice interfaces then Err (TwiceNamed 0)
    else if nat_lt (interfaces_of edition) (length interfaces) then Err (TooMany 0)
    else Ok (empty_table interfaces)

-- what the lines of a wiring of an edition mean over the interfaces
abbrev pub resolved : Edition → List Interface → List (Line WiringSays)
    → Result Table ResolveFault
resolved edition interfaces lines = started edition interfaces >>= λ table. add_lines table lines

-- the name of a `task` line
abbrev pub task_named : WiringSays → Option (List ℕ)
task_named (Task name) = Some name
task_named other = None

-- the names of the `task` lines, in their order
abbrev pub task_names : List (Line WiringSays) → List (List ℕ)
task_names lines = filter_map (λ (line : Line WiringSays). task_named line.says) lines

-- the table that a change left is the one that is said, unless memory ran out
abbrev pub Adds : Result (Unit {0}) (OrMemory ResolveFault) → Table → Result Table ResolveFault
    → Type 0
Adds (Ok done) new said = said ≡ Ok new
Adds (Err refusal) new said = Refuses refusal said
