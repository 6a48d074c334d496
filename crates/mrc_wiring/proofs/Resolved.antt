-- What lines mean over interfaces is a table that lines can mean.
use Rattle.std.proofs.Common.{◌≡◌, ℕ, ◌<◌, false, List, [], ◌∷◌, length}
use Rattle.std.proofs.Common.{Option, Some, Ok, refl, ap, subst}
use Rattle.std.proofs.Common.{arith, nat_lt, nat_le}
use Rattle.std.specs.Prelude.{is_some, position, slice_get}
use Rattle.std.specs.Option.{ok_or}
use Rattle.std.proofs.lemmas.Bool.{leb-false, ltb-false}
use Rattle.mrc_base.specs.Limits.{limit_of_tasks, limit_of_wired_ports, limit_of_names}
use Rattle.mrc_base.specs.declared.PortRight.{PortRight}
use Rattle.mrc_base.specs.declared.PortRight.TheVariants.{Send}
use Rattle.mrc_base.proofs.Steps.{bind_ok, not_stopped, ok_or_is, ok_is}
use Rattle.mrc_model.specs.declared.LabelItem.{LabelItem}
use Rattle.mrc_model.specs.declared.FirstLine.TheVariants.{Hold as HoldLine}
use Rattle.mrc_model.specs.Rights.{is_receive}
use Rattle.mrc_model.specs.FirstHoldings.{names_given}
use Rattle.mrc_forms.specs.Tables.{Table as Interface}
use Rattle.mrc_wiring_text.specs.declared.reading.Edition.{Edition}
use Rattle.mrc_wiring_text.specs.declared.reading.Line.{Line}
use Rattle.mrc_wiring_text.specs.declared.policy.ClassName.{ClassName}
use Rattle.mrc_wiring_text.specs.declared.items.Item.{Item}
use Rattle.mrc_wiring_text.specs.declared.wiring.HeldRight.{HeldRight}
use Rattle.mrc_wiring_text.specs.declared.wiring.HeldRight.TheVariants as held
use Rattle.mrc_wiring_text.specs.declared.wiring.WiringSays.{WiringSays}
use Rattle.mrc_wiring_text.specs.declared.wiring.WiringSays.TheVariants.{Task, Port, Births}
use Rattle.mrc_wiring_text.specs.declared.wiring.WiringSays.TheVariants.{HoldPort, HoldTask, Admit}
use Rattle.mrc_wiring_text.specs.declared.wiring.WiringSays.TheVariants.{Trust, RepliesFit}
use Rattle.mrc_wiring_text.specs.declared.trust.TrustVerb.{TrustVerb}
use Rattle.mrc_wiring_text.specs.declared.trust.TrustedRight.{TrustedRight}
use Rattle.mrc_wiring.specs.declared.faults.ResolveFault.TheVariants.{UnknownName, TwiceNamed}
use Rattle.mrc_wiring.specs.declared.faults.ResolveFault.TheVariants.{TooMany, TooManyNames}
use Rattle.mrc_wiring.specs.declared.faults.ResolveFault.TheVariants.{IdClash}
use Rattle.mrc_wiring.specs.Sorts.{is_sort, sorts_of}
use Rattle.mrc_wiring.specs.Births.{has_said}
use Rattle.mrc_wiring.specs.Table.{Table, IsTable, kernel_births, port_births}
use Rattle.mrc_wiring.specs.Names.{number_of}
use Rattle.mrc_wiring.specs.Labels.{interface_number, label_said, clash_among}
use Rattle.mrc_wiring.specs.Resolving.{with_line, with_task, with_port, with_births, is_over}
use Rattle.mrc_wiring.specs.Resolving.{add_task, place_port, add_port, place_births}
use Rattle.mrc_wiring.specs.Resolving.{add_births, place_hold, right_held, port_birth, kernel_birth}
use Rattle.mrc_wiring.specs.Resolving.{add_hold_port, add_hold_task, admitted_said, add_admit}
use Rattle.mrc_wiring.specs.Resolving.{add_line, add_lines, empty_table, has_twice, started}
use Rattle.mrc_wiring.specs.Resolving.{interfaces_of, resolved, trusted_said, add_trust, add_fit}
use Rattle.mrc_wiring.specs.State.{next_birth}
use Rattle.mrc_wiring.proofs.Lines.{holdings_port, holdings_hold, kernel_below, wired_below}
use Rattle.mrc_wiring.proofs.NameLemmas.{named_at, read_within}
use Rattle.mrc_wiring.proofs.TableLemmas.{next_is, and_then_is, task_table, port_table, hold_table}
use Rattle.mrc_wiring.proofs.TableLemmas.{births_table, admit_table, trust_table, fit_table}
use Rattle.mrc_wiring.proofs.TableLemmas.{empty_is_table}

-- a name's number is that of one of the names
number_within : (names : List (List ℕ)) (name : List ℕ) (t : ℕ)
    → number_of names name ≡ Some t
    → t < length names
number_within names name t e = read_within names t name (named_at names name t e)

task_kept : (table u : Table) (n : ℕ) (name : List ℕ)
    → IsTable table
    → add_task table n name ≡ Ok u
    → IsTable u
unfolding add_task
task_kept table u n name is e =
    let new = not_stopped (is_some (number_of table.names name)) (TwiceNamed n) _ u e in
    let room = not_stopped (nat_le limit_of_tasks (length table.names)) (TooMany n) _ u new.1 in
    let below = leb-false limit_of_tasks (length table.names) room.0 in
    subst IsTable (ok_is (with_task table name) u room.1)
    (task_table table name is (omega (arith, below)))

place_port_kept : (table u : Table) (n : ℕ) (name : List ℕ) (t : ℕ) (label : List LabelItem)
    → IsTable table
    → t < length table.names
    → place_port table n name t label ≡ Ok u
    → IsTable u
unfolding place_port
place_port_kept table u n name t label is there e =
    let more = with_port table name t label in
    let new = not_stopped (is_some (number_of table.ports name)) (TwiceNamed n) _ u e in
    let room = not_stopped (nat_le limit_of_wired_ports (length table.ports)) (TooMany n) _ u
    new.1 in
    let few = not_stopped (is_over more t) (TooManyNames t) _ u room.1 in
    let plain = not_stopped (clash_among table.interfaces [] label) (IdClash n) _ u few.1 in
    let below = leb-false limit_of_wired_ports (length table.ports) room.0 in
    let next = next_is table is in
    let same = ap (names_given t []) (holdings_port table.lines 0 0 t (next_birth table)
    (omega arith)) in
    let under = ltb-false limit_of_names _ few.0 in
    subst IsTable (ok_is more u plain.1)
    (port_table table name t label is (omega (arith, below)) there (omega arith))

port_kept : (table u : Table) (n : ℕ) (name receiver : List ℕ) (accepts : List Item)
    → IsTable table
    → add_port table n name receiver accepts ≡ Ok u
    → IsTable u
unfolding add_port
port_kept table u n name receiver accepts is e =
    let t = bind_ok (ok_or (number_of table.names receiver) (UnknownName n)) _ u e in
    let label = bind_ok (label_said table.interfaces n accepts) _ u t.2 in
    let there = number_within table.names receiver t.0 (ok_or_is _ (UnknownName n) t.0 t.1) in
    place_port_kept table u n name t.0 label.0 is there label.2

place_births_kept : (table u : Table) (n t kind : ℕ) (label : List LabelItem)
    → IsTable table
    → t < length table.names
    → place_births table n t kind label ≡ Ok u
    → IsTable u
unfolding place_births
place_births_kept table u n t kind label is there e =
    let new = not_stopped (has_said table.births t kind) (TwiceNamed n) _ u e in
    let plain = not_stopped (clash_among table.interfaces [] label) (IdClash n) _ u new.1 in
    subst IsTable (ok_is (with_births table t kind label) u plain.1)
    (births_table table t kind label is there)

births_kept : (table u : Table) (n : ℕ) (task : List ℕ) (kind : ℕ) (accepts : List Item)
    → IsTable table
    → add_births table n task kind accepts ≡ Ok u
    → IsTable u
unfolding add_births
births_kept table u n task kind accepts is e =
    let t = bind_ok (ok_or (number_of table.names task) (UnknownName n)) _ u e in
    let label = bind_ok (label_said table.interfaces n accepts) _ u t.2 in
    let there = number_within table.names task t.0 (ok_or_is _ (UnknownName n) t.0 t.1) in
    place_births_kept table u n t.0 kind label.0 is there label.2

place_hold_kept : (table u : Table) (t p : ℕ) (right : PortRight)
    → IsTable table
    → t < length table.names
    → p < next_birth table
    → is_receive right ≡ false
    → place_hold table t p right ≡ Ok u
    → IsTable u
unfolding place_hold
place_hold_kept table u t p right is there below plain e =
    let more = with_line table (HoldLine t p right) in
    let few = not_stopped (is_over more t) (TooManyNames t) _ u e in
    let same = ap (names_given t []) (holdings_hold table.lines 0 0 t p right) in
    let under = ltb-false limit_of_names _ few.0 in
    subst IsTable (ok_is more u few.1)
    (hold_table table t p right is there below plain (omega arith))

-- the right that a line gives is no receive right
held_plain : (right : HeldRight) → is_receive (right_held right) ≡ false
held_plain held.Send = refl
held_plain held.SendOnce = refl

hold_port_kept : (table u : Table) (n : ℕ) (holder : List ℕ) (right : HeldRight) (port : List ℕ)
    → IsTable table
    → add_hold_port table n holder right port ≡ Ok u
    → IsTable u
unfolding add_hold_port
hold_port_kept table u n holder right port is e =
    let t = bind_ok (ok_or (number_of table.names holder) (UnknownName n)) _ u e in
    let p = bind_ok (ok_or (port_birth table port) (UnknownName n)) _ u t.2 in
    let there = number_within table.names holder t.0 (ok_or_is _ (UnknownName n) t.0 t.1) in
    let k = and_then_is (slice_get (port_births 0 table.lines)) (number_of table.ports port) p.0
    (ok_or_is _ (UnknownName n) p.0 p.1) in
    let below = wired_below table.lines 0 k.0 p.0 k.1 in
    place_hold_kept table u t.0 p.0 (right_held right) is there
    (omega (arith, below, next_is table is)) (held_plain right) p.2

hold_task_kept : (table u : Table) (n : ℕ) (holder task : List ℕ)
    → IsTable table
    → add_hold_task table n holder task ≡ Ok u
    → IsTable u
unfolding add_hold_task
hold_task_kept table u n holder task is e =
    let t = bind_ok (ok_or (number_of table.names holder) (UnknownName n)) _ u e in
    let p = bind_ok (ok_or (kernel_birth table task) (UnknownName n)) _ u t.2 in
    let there = number_within table.names holder t.0 (ok_or_is _ (UnknownName n) t.0 t.1) in
    let k = and_then_is (slice_get (kernel_births 0 table.lines)) (number_of table.names task) p.0
    (ok_or_is _ (UnknownName n) p.0 p.1) in
    let below = kernel_below table.lines 0 k.0 p.0 k.1 in
    place_hold_kept table u t.0 p.0 Send is there (omega (arith, below, next_is table is)) refl
    p.2

admit_kept : (table u : Table) (n : ℕ) (subsystem type_name : List ℕ) (class : Option ClassName)
    → IsTable table
    → add_admit table n subsystem type_name class ≡ Ok u
    → IsTable u
unfolding add_admit
admit_kept table u n subsystem type_name class is e =
    let s = bind_ok (ok_or (interface_number table.interfaces subsystem) (UnknownName n)) _ u e in
    let sort = bind_ok (ok_or (position (is_sort s.0 type_name) (sorts_of table.interfaces))
    (UnknownName n)) _ u s.2 in
    let admitted = bind_ok (admitted_said table n class) _ u sort.2 in
    subst IsTable (ok_is _ u admitted.2) (admit_table table _ is)

trust_kept : (table u : Table) (n : ℕ) (task : List ℕ) (verb : TrustVerb)
    (right : Option TrustedRight)
    → IsTable table
    → add_trust table n task verb right ≡ Ok u
    → IsTable u
unfolding add_trust
trust_kept table u n task verb right is e =
    let t = bind_ok (ok_or (number_of table.names task) (UnknownName n)) _ u e in
    let on = bind_ok (trusted_said table n right) _ u t.2 in
    subst IsTable (ok_is _ u on.2) (trust_table table _ is)

fit_kept : (table u : Table) (n : ℕ) → IsTable table → add_fit table n ≡ Ok u → IsTable u
unfolding add_fit
fit_kept table u n is e =
    let once = not_stopped table.fits (TwiceNamed n) _ u e in
    subst IsTable (ok_is _ u once.1) (fit_table table is)

line_kept : (table u : Table) (n : ℕ) (says : WiringSays)
    → IsTable table
    → add_line table n says ≡ Ok u
    → IsTable u
line_kept table u n (Task name) = task_kept table u n name
line_kept table u n (Port name receiver accepts) = port_kept table u n name receiver accepts
line_kept table u n (Births task kind accepts) = births_kept table u n task kind accepts
line_kept table u n (HoldPort holder right port) = hold_port_kept table u n holder right port
line_kept table u n (HoldTask holder task) = hold_task_kept table u n holder task
line_kept table u n (Admit subsystem type_name class) =
    admit_kept table u n subsystem type_name class
line_kept table u n (Trust task verb right) = trust_kept table u n task verb right
line_kept table u n RepliesFit = fit_kept table u n

lines_kept : (table u : Table) (lines : List (Line WiringSays))
    → IsTable table
    → add_lines table lines ≡ Ok u
    → IsTable u
lines_kept table u [] is e = subst IsTable (ok_is table u e) is
lines_kept table u (line ∷ lines) is e =
    let more = bind_ok (add_line table line.number line.says) _ u e in
    lines_kept more.0 u lines (line_kept table more.0 line.number line.says is more.1) more.2

started_is : (edition : Edition) (interfaces : List Interface) (u : Table)
    → started edition interfaces ≡ Ok u
    → IsTable u
started_is edition interfaces u e =
    let new = not_stopped (has_twice interfaces) (TwiceNamed 0) _ u e in
    let room = not_stopped (nat_lt (interfaces_of edition) (length interfaces)) (TooMany 0) _ u new.1 in
    subst IsTable (ok_is (empty_table interfaces) u room.1) (empty_is_table interfaces)

pub resolved_is_table : (edition : Edition) (interfaces : List Interface)
    (lines : List (Line WiringSays)) (table : Table)
    → resolved edition interfaces lines ≡ Ok table
    → IsTable table
resolved_is_table edition interfaces lines table e =
    let first = bind_ok (started edition interfaces) _ table e in
    lines_kept first.0 table lines (started_is edition interfaces first.0 first.1) first.2
