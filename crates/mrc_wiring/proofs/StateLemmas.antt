-- What is kept beside the table stays what the table's lines say, with one more line.
use Rattle.std.proofs.Common.{◌≡◌, ℕ, ◌<◌, ◌≤◌, Bool, true, false, List, []}
use Rattle.std.proofs.Common.{◌∷◌, ◌++◌, length, Some, refl, ap, sym, subst, ◌∙◌}
use Rattle.std.proofs.Common.{arith}
use Rattle.std.proofs.Common.{IsTrue, append-nil, is_some}
use Rattle.std.proofs.Common.{Ok, Err, nat_le, if◌then◌else◌}
use Rattle.std.specs.Prelude.{slice_index, slice_get}
use Rattle.std.proofs.lemmas.Bool.{lt-ltb, le-ltb}
use Rattle.mrc_base.specs.declared.PortRight.{PortRight}
use Rattle.mrc_base.specs.declared.PortRight.TheVariants.{Send, Receive}
use Rattle.mrc_model.specs.declared.LabelItem.{LabelItem}
use Rattle.mrc_model.specs.declared.FirstLine.TheVariants.{Task as TaskLine, Port as PortLine}
use Rattle.mrc_model.specs.declared.FirstLine.TheVariants.{Hold as HoldLine}
use Rattle.mrc_model.specs.Rights.{is_receive}
use Rattle.mrc_model.specs.FirstHoldings.{line_holdings, names_given}
use Rattle.mrc_wiring_text.specs.Names.{is_name}
use Rattle.mrc_wiring.specs.declared.table.AdmitLine.{AdmitLine}
use Rattle.mrc_wiring.specs.declared.table.TrustedLine.{TrustedLine}
use Rattle.mrc_wiring.specs.Resolving.{with_trust, with_fit}
use Rattle.mrc_wiring.proofs.TableLemmas.{trust_table, fit_table}
use Rattle.mrc_wiring.specs.declared.faults.ResolveFault.TheVariants.{TwiceNamed, TooMany}
use Rattle.mrc_wiring.specs.declared.faults.ResolveFault.TheVariants.{TooManyNames, IdClash}
use Rattle.mrc_wiring.specs.Labels.{clash_among}
use Rattle.mrc_wiring.specs.declared.births.BirthRow.{BirthRow}
use Rattle.mrc_wiring.specs.Births.{put_row}
use Rattle.mrc_wiring.specs.Table.{Table, kernel_births}
use Rattle.mrc_wiring.specs.Table.{port_births}
use Rattle.mrc_wiring.specs.Names.{number_of}
use Rattle.mrc_wiring.specs.Resolving.{with_births, with_admit, with_line, with_port}
use Rattle.mrc_wiring.specs.Resolving.{is_over, place_hold, place_port, port_birth, kernel_birth}
use Rattle.mrc_wiring.specs.State.{Given, IsGiven, GivesMore, held_more, State, IsState, next_birth}
use Rattle.mrc_wiring.specs.State.{state_with_task, state_with_port, state_with_hold}
use Rattle.mrc_wiring.proofs.Lines.{holdings_task, holdings_port, holdings_hold, kernels_more}
use Rattle.mrc_wiring.proofs.Lines.{kernel_below, wired_below}
use Rattle.mrc_wiring.proofs.Lines.{wired_more, fresh_task}
use Rattle.mrc_wiring.proofs.TableLemmas.{and_then_is, next_is, task_table}
use Rattle.mrc_wiring.proofs.BirthLaws.{kinds_more, kinds_put}
use Rattle.mrc_wiring.proofs.TableLemmas.{port_table, hold_table, births_table, admit_table}
use Rattle.mrc_wiring.proofs.NameLemmas.{name_pushed}

-- the next task has no name yet
pub fresh_count : (s : State)
    → IsState s
    → length s.table.names < 64
    → slice_index s.given.counts (length s.table.names) ≤ 4096
fresh_count s is room =
    let tasks = is.is_table.tasks in
    let counted = is.given.counted (length s.table.names) room in
    let none = fresh_task s.table.lines 0 0 (length s.table.names) [] is.is_table.earlier
    (omega arith) in
    omega arith

pub task_kept : (s : State) (name : List ℕ) (new : Given)
    → IsState s
    → IsTrue (is_name name)
    → is_some (number_of s.table.names name) ≡ false
    → length s.table.names < 64
    → GivesMore s.given (length s.table.names) (next_birth s.table) Send new
    → IsState (state_with_task s name new)
task_kept s name new is named fresh room more =
    let table = s.table in
    let lines = table.lines in
    let n = length table.names in
    let tasks = is.is_table.tasks in
    let next = next_is table is.is_table in
    let e : line_holdings 0 0 (lines ++ TaskLine ∷ [])
    ≡ held_more (line_holdings 0 0 lines) n (next_birth table) Send = holdings_task lines 0 0 n
    (next_birth table) (omega arith) (omega arith) in
    record {
      is_table = task_table table name is.is_table room;
      kernels = ap (λ ks. ks ++ next_birth table ∷ []) is.kernels
          ∙ sym (kernels_more lines 0 (next_birth table) TaskLine (omega arith));
      wired = is.wired ∙ sym (append-nil _) ∙ sym (wired_more lines 0 (next_birth table) TaskLine
          (omega arith));
      given = subst (λ hs. IsGiven hs new) (sym e) (more (line_holdings 0 0 lines) is.given);
      kinds = kinds_more (length s.table.names) s.table.births is.kinds;
      names = name_pushed table.names name is.names named fresh;
      ports = is.ports;
    }

pub port_kept : (s : State) (name : List ℕ) (t : ℕ) (label : List LabelItem) (new : Given)
    → IsState s
    → IsTrue (is_name name)
    → is_some (number_of s.table.ports name) ≡ false
    → length s.table.ports < 256
    → t < length s.table.names
    → names_given t [] (held_more (line_holdings 0 0 s.table.lines) t (next_birth s.table) Receive)
    ≤ 4096
    → GivesMore s.given t (next_birth s.table) Receive new
    → IsState (state_with_port s name t label new)
port_kept s name t label new is named fresh room there own more =
    let table = s.table in
    let lines = table.lines in
    let p = next_birth table in
    let tasks = is.is_table.tasks in
    let ports = is.is_table.ports in
    let next = next_is table is.is_table in
    let e : line_holdings 0 0 (lines ++ PortLine t ∷ [])
    ≡ held_more (line_holdings 0 0 lines) t p Receive = holdings_port lines 0 0 t p (omega arith) in
    record {
      is_table = port_table table name t label is.is_table room there own;
      kernels = is.kernels ∙ sym (append-nil _)
          ∙ sym (kernels_more lines 0 p (PortLine t) (omega arith));
      wired = ap (λ ks. ks ++ p ∷ []) is.wired
          ∙ sym (wired_more lines 0 p (PortLine t) (omega arith));
      given = subst (λ hs. IsGiven hs new) (sym e) (more (line_holdings 0 0 lines) is.given);
      kinds = is.kinds;
      names = is.names;
      ports = name_pushed table.ports name is.ports named fresh;
    }

pub hold_kept : (s : State) (t p : ℕ) (right : PortRight) (new : Given)
    → IsState s
    → t < length s.table.names
    → p < next_birth s.table
    → is_receive right ≡ false
    → names_given t [] (held_more (line_holdings 0 0 s.table.lines) t p right) ≤ 4096
    → GivesMore s.given t p right new
    → IsState (state_with_hold s t p right new)
hold_kept s t p right new is there below plain own more =
    let table = s.table in
    let lines = table.lines in
    let b = next_birth table in
    let tasks = is.is_table.tasks in
    let next = next_is table is.is_table in
    let e : line_holdings 0 0 (lines ++ HoldLine t p right ∷ [])
    ≡ held_more (line_holdings 0 0 lines) t p right = holdings_hold lines 0 0 t p right in
    record {
      is_table = hold_table table t p right is.is_table there below plain own;
      kernels = is.kernels ∙ sym (append-nil _)
          ∙ sym (kernels_more lines 0 b (HoldLine t p right) (omega arith));
      wired = is.wired ∙ sym (append-nil _)
          ∙ sym (wired_more lines 0 b (HoldLine t p right) (omega arith));
      given = subst (λ hs. IsGiven hs new) (sym e) (more (line_holdings 0 0 lines) is.given);
      kinds = is.kinds;
      names = is.names;
      ports = is.ports;
    }

pub births_kept : (s : State) (t kind : ℕ) (label : List LabelItem)
    → IsState s
    → t < length s.table.names
    → kind < 16
    → IsState (record s { table = with_births s.table t kind label })
births_kept s t kind label is there small = record {
  is_table = births_table s.table t kind label is.is_table there;
  kernels = is.kernels;
  wired = is.wired;
  given = is.given;
  kinds = kinds_put s.table.births t kind label is.kinds small;
  names = is.names;
  ports = is.ports;
}

pub births_kept_as : (s now : State) (t kind : ℕ) (label : List LabelItem) (rows : List BirthRow)
    → s ≡ now
    → IsState now
    → t < length now.table.names
    → kind < 16
    → rows ≡ put_row s.table.births t kind label
    → IsState (record s { table = record s.table { births = rows } })
births_kept_as s now t kind label rows same is there small put =
    let there_too = subst (λ (x : State). t < length x.table.names) (sym same) there in
    subst (λ (bs : List BirthRow). IsState (record s { table = record s.table { births = bs } }))
    (sym put) (births_kept s t kind label (subst IsState (sym same) is) there_too small)

pub admit_kept : (s : State) (line : AdmitLine)
    → IsState s
    → IsState (record s { table = with_admit s.table line })
admit_kept s line is = record {
  is_table = admit_table s.table line is.is_table;
  kernels = is.kernels;
  wired = is.wired;
  given = is.given;
  kinds = is.kinds;
  names = is.names;
  ports = is.ports;
}

pub trust_kept : (s : State) (line : TrustedLine)
    → IsState s
    → IsState (record s { table = with_trust s.table line })
trust_kept s line is = record {
  is_table = trust_table s.table line is.is_table;
  kernels = is.kernels;
  wired = is.wired;
  given = is.given;
  kinds = is.kinds;
  names = is.names;
  ports = is.ports;
}

pub fit_kept : (s : State) → IsState s → IsState (record s { table = with_fit s.table })
fit_kept s is = record {
  is_table = fit_table s.table is.is_table;
  kernels = is.kernels;
  wired = is.wired;
  given = is.given;
  kinds = is.kinds;
  names = is.names;
  ports = is.ports;
}

-- the birth number of a wired port, or of a kernel port, is that of a port that is there
pub wired_there : (s : State) (name : List ℕ) (p : ℕ)
    → IsState s
    → port_birth s.table name ≡ Some p
    → p < next_birth s.table
wired_there s name p is e =
    let k = and_then_is (slice_get (port_births 0 s.table.lines)) (number_of s.table.ports name) p
    e in
    omega (arith, wired_below s.table.lines 0 k.0 p k.1, next_is s.table is.is_table)

pub kernel_there : (s : State) (name : List ℕ) (p : ℕ)
    → IsState s
    → kernel_birth s.table name ≡ Some p
    → p < next_birth s.table
kernel_there s name p is e =
    let k = and_then_is (slice_get (kernel_births 0 s.table.lines)) (number_of s.table.names name)
    p e in
    omega (arith, kernel_below s.table.lines 0 k.0 p k.1, next_is s.table is.is_table)

-- and there are not too many
pub next_within : (s : State) (p : ℕ) → IsState s → p < next_birth s.table → p < 320
next_within s p is below =
    let tasks = is.is_table.few_tasks in let ports = is.is_table.few_ports in omega arith

-- a right that gives a task too many names
pub hold_over : (table : Table) (t p : ℕ) (right : PortRight) (count : ℕ)
    → count ≡ names_given t [] (held_more (line_holdings 0 0 table.lines) t p right)
    → 4096 < count
    → place_hold table t p right ≡ Err (TooManyNames t)
unfolding place_hold
hold_over table t p right count e over =
    let same = ap (names_given t []) (holdings_hold table.lines 0 0 t p right) in
    let test : is_over (with_line table (HoldLine t p right)) t ≡ true = lt-ltb 4096 _ (omega
    arith) in
    rw test refl

-- and one that does not
pub hold_under : (table : Table) (t p : ℕ) (right : PortRight) (count : ℕ)
    → count ≡ names_given t [] (held_more (line_holdings 0 0 table.lines) t p right)
    → count ≤ 4096
    → place_hold table t p right ≡ Ok (with_line table (HoldLine t p right))
unfolding place_hold
hold_under table t p right count e under =
    let same = ap (names_given t []) (holdings_hold table.lines 0 0 t p right) in
    let test : is_over (with_line table (HoldLine t p right)) t ≡ false = le-ltb 4096 _ (omega
    arith) in
    rw test refl

-- the four tests of a port line
pub port_by : (table : Table) (n : ℕ) (name : List ℕ) (t : ℕ) (label : List LabelItem)
    (twice full over clash : Bool)
    → is_some (number_of table.ports name) ≡ twice
    → nat_le 256 (length table.ports) ≡ full
    → is_over (with_port table name t label) t ≡ over
    → clash_among table.interfaces [] label ≡ clash
    → place_port table n name t label
    ≡ (if twice then Err (TwiceNamed n) else if full then Err (TooMany n)
    else if over then Err (TooManyNames t) else if clash then Err (IdClash n)
    else Ok (with_port table name t label))
unfolding place_port
port_by table n name t label twice full over clash e f g h = rw (e, f, g, h) refl

-- the port gives its receiver too many names
pub port_over : (s : State) (name : List ℕ) (t : ℕ) (label : List LabelItem) (count : ℕ)
    → IsState s
    → count ≡ names_given t []
    (held_more (line_holdings 0 0 s.table.lines) t (next_birth s.table) Receive)
    → 4096 < count
    → is_over (with_port s.table name t label) t ≡ true
port_over s name t label count is e over =
    let next = next_is s.table is.is_table in
    let same = ap (names_given t []) (holdings_port s.table.lines 0 0 t (next_birth s.table)
    (omega arith)) in
    lt-ltb 4096 _ (omega arith)

pub port_under : (s : State) (name : List ℕ) (t : ℕ) (label : List LabelItem) (count : ℕ)
    → IsState s
    → count ≡ names_given t []
    (held_more (line_holdings 0 0 s.table.lines) t (next_birth s.table) Receive)
    → count ≤ 4096
    → is_over (with_port s.table name t label) t ≡ false
port_under s name t label count is e under =
    let next = next_is s.table is.is_table in
    let same = ap (names_given t []) (holdings_port s.table.lines 0 0 t (next_birth s.table)
    (omega arith)) in
    le-ltb 4096 _ (omega arith)
