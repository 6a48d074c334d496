-- A table that lines can mean stays one, with what one more line adds.
use Rattle.std.proofs.Common.{◌≡◌, inl, inr, ℕ, ◌+◌, ◌<◌, ◌≤◌, false, List, []}
use Rattle.std.proofs.Common.{◌∷◌, ◌++◌, length, Some, None, refl, ap, sym, arith}
use Rattle.std.proofs.Common.{length-append, ◌||◌, not, subst}
use Rattle.std.specs.Prelude.{Option, option_and_then}
use Rattle.std.specs.List.{list_any}
use Rattle.mrc_base.specs.declared.PortRight.{PortRight}
use Rattle.mrc_base.specs.declared.PortRight.TheVariants.{Send, Receive}
use Rattle.mrc_model.specs.declared.LabelItem.{LabelItem}
use Rattle.mrc_model.specs.declared.FirstLine.TheVariants.{Task as TaskLine, Port as PortLine}
use Rattle.mrc_model.specs.declared.FirstLine.TheVariants.{Hold as HoldLine}
use Rattle.mrc_model.specs.Rights.{is_receive, is_once}
use Rattle.mrc_model.specs.Breach.{Holding}
use Rattle.mrc_model.specs.FirstHoldings.{line_holdings, line_births, names_given}
use Rattle.mrc_model.specs.FirstHoldings.{is_named}
use Rattle.mrc_model.proofs.Few.{at_most_one}
use Rattle.mrc_forms.specs.Tables.{Table as Interface}
use Rattle.mrc_wiring.specs.declared.table.AdmitLine.{AdmitLine}
use Rattle.mrc_wiring.specs.declared.table.TrustedLine.{TrustedLine}
use Rattle.mrc_wiring.specs.Resolving.{with_trust, with_fit}
use Rattle.mrc_wiring.specs.Births.{AreBirths, new_row}
use Rattle.mrc_wiring.specs.Table.{Table, IsTable}
use Rattle.mrc_wiring.specs.Resolving.{with_task, with_births, with_admit, empty_table}
use Rattle.mrc_wiring.specs.Resolving.{with_line, with_port}
use Rattle.mrc_wiring.specs.State.{held_more, next_birth}
use Rattle.mrc_wiring.proofs.Lines.{task_lines_more, port_lines_more, births_are}
use Rattle.mrc_wiring.proofs.Lines.{holdings_task, holdings_port, holdings_hold}
use Rattle.mrc_wiring.proofs.Lines.{earlier_more, fresh_task, names_more, names_other}
use Rattle.mrc_wiring.proofs.GivenLemmas.{equal_or_not}
use Rattle.mrc_wiring.proofs.BirthLaws.{births_more, births_put}

-- what is found behind a number that is found
pub and_then_is : {X Y : Type 0} (f : X → Option Y) (o : Option X) (y : Y)
    → option_and_then f o ≡ Some y
    → (x : X) × (f x ≡ Some y)
and_then_is f None y e = cc
and_then_is f (Some x) y e = (x, e)

-- as many ports are there as tasks and wired ports
pub next_is : (table : Table) → IsTable table → next_birth table ≡ line_births table.lines
next_is table is = omega (arith, births_are table.lines, is.tasks, is.ports)

-- few names stay few where the one who gets a right has few with it
few_after : (hs new : List Holding) (n u t p : ℕ) (right : PortRight)
    → new ≡ held_more hs t p right
    → ((v : ℕ) → v < n → names_given v [] hs ≤ 4096)
    → names_given t [] (held_more hs t p right) ≤ 4096
    → (u ≡ t → ⊥) → u < n
    → names_given u [] new ≤ 4096
few_after hs new n u t p right e few own ne less =
    let same = ap (names_given u []) e in
    let other = names_other u t p right hs (λ f. ne (sym f)) in
    let bound = few u less in
    omega arith

few_own : (hs new : List Holding) (u t p : ℕ) (right : PortRight)
    → new ≡ held_more hs t p right
    → names_given t [] (held_more hs t p right) ≤ 4096
    → u ≡ t
    → names_given u [] new ≤ 4096
few_own hs new u t p right e own same =
    let one = ap (λ x. names_given x [] new) same in
    let two = ap (names_given t []) e in
    omega arith

-- one more right is one more name at most
pub names_at_most : (t p : ℕ) (right : PortRight) (hs : List Holding)
    → names_given t [] (held_more hs t p right) ≤ names_given t [] hs + 1
names_at_most t p right hs =
    let one = at_most_one (is_once right || not (list_any (is_named t p) hs)) in
    let more = names_more t p right hs in
    omega arith

-- one more task
pub task_table : (table : Table) (name : List ℕ)
    → IsTable table
    → length table.names < 64
    → IsTable (with_task table name)
task_table table name is room =
    let lines = table.lines in
    let n = length table.names in
    let tasks = is.tasks in
    let next = next_is table is in
    let e : line_holdings 0 0 (lines ++ TaskLine ∷ [])
    ≡ held_more (line_holdings 0 0 lines) n (next_birth table) Send = holdings_task lines 0 0 n
    (next_birth table) (omega arith) (omega arith) in
    let none : names_given n [] (line_holdings 0 0 lines) ≡ 0 = fresh_task lines 0 0 n []
    is.earlier (omega arith) in
    let count = names_at_most n (next_birth table) Send (line_holdings 0 0 lines) in
    let own : names_given n [] (held_more (line_holdings 0 0 lines) n (next_birth table) Send) ≤
    4096 =
    omega arith in
    record {
      few_tasks = omega (arith, length-append table.names (name ∷ []));
      few_ports = is.few_ports;
      births = subst (λ (k : ℕ). AreBirths k (table.births ++ new_row n 0 ∷ []))
          (sym (length-append table.names (name ∷ []))) (births_more n table.births is.births);
      accepts = is.accepts;
      tasks = omega (
        arith,
        length-append table.names (name ∷ []),
        task_lines_more lines TaskLine,
      );
      ports = omega (arith, is.ports, port_lines_more lines TaskLine);
      earlier = earlier_more lines 0 0 n (next_birth table) TaskLine (omega arith) (omega arith)
          is.earlier tt;
      few_names = λ u less. elim (equal_or_not u n) [
        | inl same ↦ few_own _ _ u n (next_birth table) Send e own same
        | inr other ↦ few_after _ _ n u n (next_birth table) Send e is.few_names own other
            (omega (arith, length-append table.names (name ∷ [])))
      ];
    }

-- one more wired port, whose receiver has few names with it
pub port_table : (table : Table) (name : List ℕ) (t : ℕ) (label : List LabelItem)
    → IsTable table
    → length table.ports < 256
    → t < length table.names
    → names_given t [] (held_more (line_holdings 0 0 table.lines) t (next_birth table) Receive)
    ≤ 4096
    → IsTable (with_port table name t label)
port_table table name t label is room there own =
    let lines = table.lines in
    let p = next_birth table in
    let tasks = is.tasks in
    let ports = is.ports in
    let next = next_is table is in
    let e : line_holdings 0 0 (lines ++ PortLine t ∷ [])
    ≡ held_more (line_holdings 0 0 lines) t p Receive = holdings_port lines 0 0 t p (omega arith) in
    record {
      few_tasks = is.few_tasks;
      few_ports = omega (arith, length-append table.ports (name ∷ []));
      births = is.births;
      accepts = omega (
        arith,
        is.accepts,
        length-append table.ports (name ∷ []),
        length-append table.accepts (label ∷ []),
      );
      tasks = omega (arith, task_lines_more lines (PortLine t));
      ports = omega (
        arith,
        length-append table.ports (name ∷ []),
        port_lines_more lines (PortLine t),
      );
      earlier = earlier_more lines 0 0 (length table.names) p (PortLine t) (omega arith)
          (omega arith) is.earlier (there, tt);
      few_names = λ u less. elim (equal_or_not u t) [
        | inl same ↦ few_own _ _ u t p Receive e own same
        | inr other ↦ few_after _ _ (length table.names) u t p Receive e is.few_names own other
            less
      ];
    }

-- one more right, on a port that is there, for a task that has few names with it
pub hold_table : (table : Table) (t p : ℕ) (right : PortRight)
    → IsTable table
    → t < length table.names
    → p < next_birth table
    → is_receive right ≡ false
    → names_given t [] (held_more (line_holdings 0 0 table.lines) t p right) ≤ 4096
    → IsTable (with_line table (HoldLine t p right))
hold_table table t p right is there below plain own =
    let lines = table.lines in
    let b = next_birth table in
    let tasks = is.tasks in
    let next = next_is table is in
    let e : line_holdings 0 0 (lines ++ HoldLine t p right ∷ [])
    ≡ held_more (line_holdings 0 0 lines) t p right = holdings_hold lines 0 0 t p right in
    record {
      few_tasks = is.few_tasks;
      few_ports = is.few_ports;
      births = is.births;
      accepts = is.accepts;
      tasks = omega (arith, task_lines_more lines (HoldLine t p right));
      ports = omega (arith, is.ports, port_lines_more lines (HoldLine t p right));
      earlier = earlier_more lines 0 0 (length table.names) b (HoldLine t p right) (omega arith)
          (omega arith) is.earlier (there, below, plain, tt);
      few_names = λ u less. elim (equal_or_not u t) [
        | inl same ↦ few_own _ _ u t p right e own same
        | inr other ↦ few_after _ _ (length table.names) u t p right e is.few_names own other less
      ];
    }

-- what births accept
pub births_table : (table : Table) (t kind : ℕ) (label : List LabelItem)
    → IsTable table
    → t < length table.names
    → IsTable (with_births table t kind label)
births_table table t kind label is there = record {
  few_tasks = is.few_tasks;
  few_ports = is.few_ports;
  births = births_put (length table.names) table.births t kind label is.births there;
  accepts = is.accepts;
  tasks = is.tasks;
  ports = is.ports;
  earlier = is.earlier;
  few_names = is.few_names;
}

-- one more admit line
pub admit_table : (table : Table) (line : AdmitLine)
    → IsTable table
    → IsTable (with_admit table line)
admit_table table line is = record {
  few_tasks = is.few_tasks;
  few_ports = is.few_ports;
  births = is.births;
  accepts = is.accepts;
  tasks = is.tasks;
  ports = is.ports;
  earlier = is.earlier;
  few_names = is.few_names;
}

-- one more line about a trusted task
pub trust_table : (table : Table) (line : TrustedLine)
    → IsTable table
    → IsTable (with_trust table line)
trust_table table line is = record {
  few_tasks = is.few_tasks;
  few_ports = is.few_ports;
  births = is.births;
  accepts = is.accepts;
  tasks = is.tasks;
  ports = is.ports;
  earlier = is.earlier;
  few_names = is.few_names;
}

-- reply ports have to fit
pub fit_table : (table : Table) → IsTable table → IsTable (with_fit table)
fit_table table is = record {
  few_tasks = is.few_tasks;
  few_ports = is.few_ports;
  births = is.births;
  accepts = is.accepts;
  tasks = is.tasks;
  ports = is.ports;
  earlier = is.earlier;
  few_names = is.few_names;
}

-- no line
pub empty_is_table : (interfaces : List Interface) → IsTable (empty_table interfaces)
empty_is_table interfaces = record {
  few_tasks = omega arith;
  few_ports = omega arith;
  births = record {
    ascending = tt;
    each = tt;
    zeroth = λ t less. absurd (omega arith);
  };
  accepts = refl;
  tasks = refl;
  ports = refl;
  earlier = tt;
  few_names = λ u less. omega arith;
}
