-- The table has the births and the admit lines that lines say: from the first line to the last.
use Rattle.std.proofs.Common.{◌≡◌, ◌⊎◌, inl, inr, ℕ, ◌<◌, true, false, List, [], ◌∷◌, ◌++◌}
use Rattle.std.proofs.Common.{length, Option, Some, None, Ok, refl, ap, sym, subst, ◌∙◌}
use Rattle.std.proofs.Common.{nat_le, nat_lt, ◌||◌}
use Rattle.std.specs.Prelude.{position, is_some, bytes_eq}
use Rattle.std.specs.List.{list_any}
use Rattle.std.specs.Option.{ok_or}
use Rattle.std.proofs.lemmas.List.{append-nil, append_assoc}
use Rattle.std.proofs.lemmas.List.Folds.{list_any-append}
use Rattle.std.proofs.lemmas.Option.{none-some, same_Some}
use Rattle.mrc_base.specs.Limits.{limit_of_tasks, limit_of_wired_ports}
use Rattle.mrc_base.specs.declared.PortRight.{PortRight}
use Rattle.mrc_base.specs.declared.PortRight.TheVariants.{Send}
use Rattle.mrc_base.proofs.Steps.{bind_ok, not_stopped, ok_or_is, ok_is}
use Rattle.mrc_model.specs.IsIn.{IsIn}
use Rattle.mrc_model.specs.declared.LabelItem.{LabelItem}
use Rattle.mrc_model.specs.declared.FirstLine.{FirstLine}
use Rattle.mrc_model.specs.declared.FirstLine.TheVariants.{Hold as HoldLine}
use Rattle.mrc_model.proofs.FirstHeld.{in_one}
use Rattle.mrc_model.proofs.Members.{in_left, in_append, any_in}
use Rattle.mrc_forms.specs.Tables.{Table as Interface}
use Rattle.mrc_wiring_text.specs.declared.reading.Edition.{Edition}
use Rattle.mrc_wiring_text.specs.declared.reading.Line.{Line}
use Rattle.mrc_wiring_text.specs.declared.policy.ClassName.{ClassName}
use Rattle.mrc_wiring_text.specs.declared.items.Item.{Item}
use Rattle.mrc_wiring_text.specs.declared.trust.TrustVerb.{TrustVerb}
use Rattle.mrc_wiring_text.specs.declared.trust.TrustedRight.{TrustedRight}
use Rattle.mrc_wiring_text.specs.declared.wiring.HeldRight.{HeldRight}
use Rattle.mrc_wiring_text.specs.declared.wiring.WiringSays.{WiringSays}
use Rattle.mrc_wiring_text.specs.declared.wiring.WiringSays.TheVariants.{Task, Port, Births}
use Rattle.mrc_wiring_text.specs.declared.wiring.WiringSays.TheVariants.{HoldPort, HoldTask, Admit}
use Rattle.mrc_wiring_text.specs.declared.wiring.WiringSays.TheVariants.{Trust, RepliesFit}
use Rattle.mrc_wiring.specs.declared.names.NumberedClass.{NumberedClass}
use Rattle.mrc_wiring.specs.declared.table.AdmitLine.{AdmitLine}
use Rattle.mrc_wiring.specs.declared.table.NumberedRight.{NumberedRight}
use Rattle.mrc_wiring.specs.declared.table.TrustedLine.{TrustedLine}
use Rattle.mrc_wiring.specs.declared.births.BirthRow.{BirthRow}
use Rattle.mrc_wiring.specs.declared.faults.ResolveFault.TheVariants.{UnknownName, TwiceNamed}
use Rattle.mrc_wiring.specs.declared.faults.ResolveFault.TheVariants.{TooMany, TooManyNames}
use Rattle.mrc_wiring.specs.declared.faults.ResolveFault.TheVariants.{IdClash}
use Rattle.mrc_wiring.specs.Births.{is_row, has_said, new_row, said_row}
use Rattle.mrc_wiring.specs.Sorts.{is_sort, sorts_of}
use Rattle.mrc_wiring.specs.Table.{Table, IsTable}
use Rattle.mrc_wiring.specs.Names.{number_of, class_said}
use Rattle.mrc_wiring.specs.Labels.{interface_number, label_said, clash_among}
use Rattle.mrc_wiring.specs.Resolving.{with_line, with_task, with_port, with_births, is_over}
use Rattle.mrc_wiring.specs.Resolving.{with_admit, with_trust, with_fit, admitted_said}
use Rattle.mrc_wiring.specs.Resolving.{add_task, place_port, add_port, place_births, add_births}
use Rattle.mrc_wiring.specs.Resolving.{place_hold, right_held, port_birth, kernel_birth}
use Rattle.mrc_wiring.specs.Resolving.{add_hold_port, add_hold_task, add_admit, trusted_said}
use Rattle.mrc_wiring.specs.Resolving.{add_trust, add_fit, add_line, add_lines, empty_table}
use Rattle.mrc_wiring.specs.Resolving.{verb_said, has_twice, interfaces_of, started, resolved}
use Rattle.mrc_wiring.specs.Resolving.{task_named, task_names}
use Rattle.mrc_wiring_laws.specs.GivenLines.{port_named, is_admit, port_names}
use Rattle.mrc_wiring_laws.specs.GivenLines.{HasBirthsLine, AreBirthsOf, IsClassOf, IsAdmitOf}
use Rattle.mrc_wiring_laws.specs.GivenLines.{AreAdmitsOf}
use Rattle.mrc_wiring_laws.specs.GivenLines.{HasRow, TablesAreOfLines}
use Rattle.mrc_wiring_laws.specs.TrustedLines.{is_trust, IsRightOf, IsTrustOf, TrustsAreOfLines}
use Rattle.mrc_wiring_laws.proofs.GivenRows.{place_kept, map_quiet, map_more, each_in}
use Rattle.mrc_wiring_laws.proofs.GivenRows.{is_row_of, row_once}
use Rattle.mrc_wiring_laws.proofs.GivenLines.{IsGrown, same_grown, AreRows, IsRowOf, IsOther}
use Rattle.mrc_wiring_laws.proofs.GivenLines.{rows_quiet}
use Rattle.mrc_wiring_laws.proofs.GivenLines.{rows_said, births_grown, admits_quiet, admits_more}
use Rattle.mrc_wiring_laws.proofs.TrustedLines.{AreTrusted, is_fit, trusted_quiet, trusted_more}
use Rattle.mrc_wiring_laws.proofs.TrustedLines.{fit_more, none_trusted, right_with}
use Rattle.mrc_wiring.proofs.Resolved.{resolved_is_table}

-- the table of the lines so far
pub record IsSoFar (interfaces : List Interface) (lines : List (Line WiringSays))
    (table : Table) : Type 0 where
  pub interfaces_are : table.interfaces ≡ interfaces
  pub tasks : table.names ≡ task_names lines
  pub ports : table.ports ≡ port_names lines
  pub rows : AreRows table lines
  pub admits : AreAdmitsOf table lines
  pub trusted : AreTrusted table lines

-- ---- the names of one line more

tasks_quiet : (lines : List (Line WiringSays)) (line : Line WiringSays)
    → task_named line.says ≡ None
    → task_names (lines ++ line ∷ []) ≡ task_names lines
tasks_quiet lines line e = map_quiet (λ (l : Line WiringSays). task_named l.says) lines line e

ports_quiet : (lines : List (Line WiringSays)) (line : Line WiringSays)
    → port_named line.says ≡ None
    → port_names (lines ++ line ∷ []) ≡ port_names lines
ports_quiet lines line e = map_quiet (λ (l : Line WiringSays). port_named l.says) lines line e

tasks_more : (lines : List (Line WiringSays)) (line : Line WiringSays) (name : List ℕ)
    → task_named line.says ≡ Some name
    → task_names (lines ++ line ∷ []) ≡ task_names lines ++ name ∷ []
tasks_more lines line name e =
    map_more (λ (l : Line WiringSays). task_named l.says) lines line name e

ports_more : (lines : List (Line WiringSays)) (line : Line WiringSays) (name : List ℕ)
    → port_named line.says ≡ Some name
    → port_names (lines ++ line ∷ []) ≡ port_names lines ++ name ∷ []
ports_more lines line name e =
    map_more (λ (l : Line WiringSays). port_named l.says) lines line name e

-- ---- one line more

-- a line that neither names nor admits nor says anything of births
abbrev IsPlain : WiringSays → Type 0
IsPlain says =
    (task_named says ≡ None)
    × (port_named says ≡ None)
    × (is_admit says ≡ false)
    × IsOther says

plain_more : (interfaces : List Interface) (lines : List (Line WiringSays))
    (line : Line WiringSays) (table u : Table)
    → IsSoFar interfaces lines table
    → IsPlain line.says
    → table.interfaces ≡ u.interfaces
    → table.names ≡ u.names
    → table.ports ≡ u.ports
    → table.births ≡ u.births
    → table.admits ≡ u.admits
    → AreTrusted u (lines ++ line ∷ [])
    → IsSoFar interfaces (lines ++ line ∷ []) u
plain_more interfaces lines line table u is plain faces names ports births admits trusted = record {
  interfaces_are = sym faces ∙ is.interfaces_are;
  tasks = sym names ∙ is.tasks ∙ sym (tasks_quiet lines line plain.0);
  ports = sym ports ∙ is.ports ∙ sym (ports_quiet lines line plain.1);
  rows = rows_quiet table u lines line grown plain.3
      (λ row at. subst (λ (rows : List BirthRow). IsIn row rows) births at)
      (λ row at. inl (subst (λ (rows : List BirthRow). IsIn row rows) (sym births) at)) is.rows;
  admits = admits_quiet table u lines line grown plain.2 admits is.admits;
  trusted = trusted;
}
  where
    grown : IsGrown table u
    grown = same_grown table u faces names ports births

task_more : (interfaces : List Interface) (lines : List (Line WiringSays))
    (line : Line WiringSays) (table : Table) (name : List ℕ)
    → IsSoFar interfaces lines table
    → line.says ≡ Task name
    → IsSoFar interfaces (lines ++ line ∷ []) (with_task table name)
task_more interfaces lines line table name is says = record {
  interfaces_are = is.interfaces_are;
  tasks = ap (λ (ns : List (List ℕ)). ns ++ name ∷ []) is.tasks
      ∙ sym (tasks_more lines line name (ap task_named says));
  ports = is.ports ∙ sym (ports_quiet lines line (ap port_named says));
  rows = rows_quiet table u lines line grown (λ task kind items e. other task kind items
      (sym says ∙ e))
      (λ row at. in_left row table.births (new_row (length table.names) 0 ∷ []) at)
      (λ row at. from row (in_append row table.births (new_row (length table.names) 0 ∷ []) at))
      is.rows;
  admits = admits_quiet table u lines line grown (ap is_admit says) refl is.admits;
  trusted = trusted_quiet table u lines line grown (ap is_trust says) (ap is_fit says) refl refl
      is.trusted;
}
  where
    u : Table
    u = with_task table name

    grown : IsGrown table u
    grown = record {
      interfaces_same = refl;
      names_kept = λ one t e. place_kept (bytes_eq one) table.names name t e;
      ports_kept = λ one p e. e;
      rows_kept = λ t kind has. list_any-append (is_row t kind) table.births
          (new_row (length table.names) 0 ∷ [])
          ∙ ap (λ b. b || list_any (is_row t kind) (new_row (length table.names) 0 ∷ [])) has;
    }

    other : (task : List ℕ) (kind : ℕ) (items : List Item) → Task name ≡ Births task kind items → ⊥
    other task kind items e = cc

    from : (row : BirthRow)
        → IsIn row table.births ⊎ IsIn row (new_row (length table.names) 0 ∷ [])
        → IsIn row table.births ⊎ ((row.accepts ≡ None) × (row.kind ≡ 0))
    from row (inl early) = inl early
    from row (inr last) =
        let same = in_one row (new_row (length table.names) 0) last in
        inr (ap (λ (r : BirthRow). r.accepts) same, ap (λ (r : BirthRow). r.kind) same)

port_more : (interfaces : List Interface) (lines : List (Line WiringSays))
    (line : Line WiringSays) (table : Table) (name receiver : List ℕ) (accepts : List Item) (t : ℕ)
    (label : List LabelItem)
    → IsSoFar interfaces lines table
    → line.says ≡ Port name receiver accepts
    → IsSoFar interfaces (lines ++ line ∷ []) (with_port table name t label)
port_more interfaces lines line table name receiver accepts t label is says = record {
  interfaces_are = is.interfaces_are;
  tasks = is.tasks ∙ sym (tasks_quiet lines line (ap task_named says));
  ports = ap (λ (ns : List (List ℕ)). ns ++ name ∷ []) is.ports
      ∙ sym (ports_more lines line name (ap port_named says));
  rows = rows_quiet table u lines line grown (λ task kind items e. other task kind items
      (sym says ∙ e)) (λ row at. at) (λ row at. inl at) is.rows;
  admits = admits_quiet table u lines line grown (ap is_admit says) refl is.admits;
  trusted = trusted_quiet table u lines line grown (ap is_trust says) (ap is_fit says) refl refl
      is.trusted;
}
  where
    u : Table
    u = with_port table name t label

    grown : IsGrown table u
    grown = record {
      interfaces_same = refl;
      names_kept = λ one k e. e;
      ports_kept = λ one p e. place_kept (bytes_eq one) table.ports name p e;
      rows_kept = λ k kind has. has;
    }

    other : (task : List ℕ) (kind : ℕ) (items : List Item)
        → Port name receiver accepts ≡ Births task kind items
        → ⊥
    other task kind items e = cc

births_more : (interfaces : List Interface) (lines : List (Line WiringSays))
    (line : Line WiringSays) (table : Table) (task : List ℕ) (kind : ℕ) (items : List Item) (t : ℕ)
    (label : List LabelItem)
    → IsSoFar interfaces lines table
    → line.says ≡ Births task kind items
    → number_of table.names task ≡ Some t
    → label_said table.interfaces line.number items ≡ Ok label
    → has_said table.births t kind ≡ false
    → IsSoFar interfaces (lines ++ line ∷ []) (with_births table t kind label)
births_more interfaces lines line table task kind items t label is says number means none = record {
  interfaces_are = is.interfaces_are;
  tasks = is.tasks ∙ sym (tasks_quiet lines line (ap task_named says));
  ports = is.ports ∙ sym (ports_quiet lines line (ap port_named says));
  rows = rows_said table lines line task kind items t label says number means none is.rows;
  admits = admits_quiet table (with_births table t kind label) lines line
      (births_grown table t kind label) (ap is_admit says) refl is.admits;
  trusted = trusted_quiet table (with_births table t kind label) lines line
      (births_grown table t kind label) (ap is_trust says) (ap is_fit says) refl refl is.trusted;
}

admit_more : (interfaces : List Interface) (lines : List (Line WiringSays))
    (line : Line WiringSays) (table : Table) (subsystem type_name : List ℕ)
    (class : Option ClassName) (admit : AdmitLine)
    → IsSoFar interfaces lines table
    → line.says ≡ Admit subsystem type_name class
    → IsAdmitOf table line admit
    → IsSoFar interfaces (lines ++ line ∷ []) (with_admit table admit)
admit_more interfaces lines line table subsystem type_name class admit is says means = record {
  interfaces_are = is.interfaces_are;
  tasks = is.tasks ∙ sym (tasks_quiet lines line (ap task_named says));
  ports = is.ports ∙ sym (ports_quiet lines line (ap port_named says));
  rows = rows_quiet table (with_admit table admit) lines line grown
      (λ task kind items e. other task kind items (sym says ∙ e)) (λ row at. at)
      (λ row at. inl at) is.rows;
  admits = admits_more table lines line admit (ap is_admit says) means is.admits;
  trusted = trusted_quiet table (with_admit table admit) lines line grown (ap is_trust says)
      (ap is_fit says) refl refl is.trusted;
}
  where
    grown : IsGrown table (with_admit table admit)
    grown = same_grown table (with_admit table admit) refl refl refl refl

    other : (task : List ℕ) (kind : ℕ) (items : List Item)
        → Admit subsystem type_name class ≡ Births task kind items
        → ⊥
    other task kind items e = cc

-- ---- what each line adds

-- the line of this number that says this
abbrev line_of : ℕ → WiringSays → Line WiringSays
line_of n says = record { number = n; says = says }

task_step : (interfaces : List Interface) (lines : List (Line WiringSays)) (table u : Table)
    (n : ℕ) (name : List ℕ)
    → IsSoFar interfaces lines table
    → add_task table n name ≡ Ok u
    → IsSoFar interfaces (lines ++ line_of n (Task name) ∷ []) u
unfolding add_task
task_step interfaces lines table u n name is e =
    let new = not_stopped (is_some (number_of table.names name)) (TwiceNamed n) _ u e in
    let room = not_stopped (nat_le limit_of_tasks (length table.names)) (TooMany n) _ u new.1 in
    subst (IsSoFar interfaces (lines ++ line_of n (Task name) ∷ []))
    (ok_is (with_task table name) u room.1)
    (task_more interfaces lines (line_of n (Task name)) table name is refl)

port_placed : (table u : Table) (n : ℕ) (name : List ℕ) (t : ℕ) (label : List LabelItem)
    → place_port table n name t label ≡ Ok u
    → with_port table name t label ≡ u
unfolding place_port
port_placed table u n name t label e =
    let more = with_port table name t label in
    let new = not_stopped (is_some (number_of table.ports name)) (TwiceNamed n) _ u e in
    let room = not_stopped (nat_le limit_of_wired_ports (length table.ports)) (TooMany n) _ u
    new.1 in
    let few = not_stopped (is_over more t) (TooManyNames t) _ u room.1 in
    let plain = not_stopped (clash_among table.interfaces [] label) (IdClash n) _ u few.1 in
    ok_is more u plain.1

port_step : (interfaces : List Interface) (lines : List (Line WiringSays)) (table u : Table)
    (n : ℕ) (name receiver : List ℕ) (accepts : List Item)
    → IsSoFar interfaces lines table
    → add_port table n name receiver accepts ≡ Ok u
    → IsSoFar interfaces (lines ++ line_of n (Port name receiver accepts) ∷ []) u
unfolding add_port
port_step interfaces lines table u n name receiver accepts is e =
    let t = bind_ok (ok_or (number_of table.names receiver) (UnknownName n)) _ u e in
    let label = bind_ok (label_said table.interfaces n accepts) _ u t.2 in
    subst (IsSoFar interfaces (lines ++ line_of n (Port name receiver accepts) ∷ []))
    (port_placed table u n name t.0 label.0 label.2)
    (port_more interfaces lines (line_of n (Port name receiver accepts)) table name receiver
    accepts t.0 label.0 is refl)

births_placed : (table u : Table) (n t kind : ℕ) (label : List LabelItem)
    → place_births table n t kind label ≡ Ok u
    → (has_said table.births t kind ≡ false) × (with_births table t kind label ≡ u)
unfolding place_births
births_placed table u n t kind label e =
    let new = not_stopped (has_said table.births t kind) (TwiceNamed n) _ u e in
    let plain = not_stopped (clash_among table.interfaces [] label) (IdClash n) _ u new.1 in
    (new.0, ok_is (with_births table t kind label) u plain.1)

births_step : (interfaces : List Interface) (lines : List (Line WiringSays)) (table u : Table)
    (n : ℕ) (task : List ℕ) (kind : ℕ) (accepts : List Item)
    → IsSoFar interfaces lines table
    → add_births table n task kind accepts ≡ Ok u
    → IsSoFar interfaces (lines ++ line_of n (Births task kind accepts) ∷ []) u
unfolding add_births
births_step interfaces lines table u n task kind accepts is e =
    let t = bind_ok (ok_or (number_of table.names task) (UnknownName n)) _ u e in
    let label = bind_ok (label_said table.interfaces n accepts) _ u t.2 in
    let placed = births_placed table u n t.0 kind label.0 label.2 in
    subst (IsSoFar interfaces (lines ++ line_of n (Births task kind accepts) ∷ [])) placed.1
    (births_more interfaces lines (line_of n (Births task kind accepts)) table task kind accepts
    t.0 label.0 is refl (ok_or_is _ (UnknownName n) t.0 t.1) label.1 placed.0)

-- a line of this verb is of none of the others
line_more : (interfaces : List Interface) (lines : List (Line WiringSays)) (table : Table)
    (line : Line WiringSays) (first : FirstLine)
    → IsSoFar interfaces lines table
    → IsPlain line.says
    → is_trust line.says ≡ false
    → is_fit line.says ≡ false
    → IsSoFar interfaces (lines ++ line ∷ []) (with_line table first)
line_more interfaces lines table line first is plain no_trust no_fit =
    plain_more interfaces lines line table u is plain refl refl refl refl refl
    (trusted_quiet table u lines line (same_grown table u refl refl refl refl) no_trust no_fit refl
    refl is.trusted)
  where
    u : Table
    u = with_line table first

hold_placed : (table u : Table) (t p : ℕ) (right : PortRight)
    → place_hold table t p right ≡ Ok u
    → with_line table (HoldLine t p right) ≡ u
unfolding place_hold
hold_placed table u t p right e =
    let more = with_line table (HoldLine t p right) in
    let few = not_stopped (is_over more t) (TooManyNames t) _ u e in
    ok_is more u few.1

hold_port_step : (interfaces : List Interface) (lines : List (Line WiringSays)) (table u : Table)
    (n : ℕ) (holder : List ℕ) (right : HeldRight) (port : List ℕ)
    → IsSoFar interfaces lines table
    → add_hold_port table n holder right port ≡ Ok u
    → IsSoFar interfaces (lines ++ line_of n (HoldPort holder right port) ∷ []) u
unfolding add_hold_port
hold_port_step interfaces lines table u n holder right port is e =
    let t = bind_ok (ok_or (number_of table.names holder) (UnknownName n)) _ u e in
    let p = bind_ok (ok_or (port_birth table port) (UnknownName n)) _ u t.2 in
    subst (IsSoFar interfaces (lines ++ line_of n (HoldPort holder right port) ∷ []))
    (hold_placed table u t.0 p.0 (right_held right) p.2)
    (line_more interfaces lines table (line_of n (HoldPort holder right port))
    (HoldLine t.0 p.0 (right_held right)) is (refl, refl, refl, λ task kind items f. cc) refl refl)

hold_task_step : (interfaces : List Interface) (lines : List (Line WiringSays)) (table u : Table)
    (n : ℕ) (holder task : List ℕ)
    → IsSoFar interfaces lines table
    → add_hold_task table n holder task ≡ Ok u
    → IsSoFar interfaces (lines ++ line_of n (HoldTask holder task) ∷ []) u
unfolding add_hold_task
hold_task_step interfaces lines table u n holder task is e =
    let t = bind_ok (ok_or (number_of table.names holder) (UnknownName n)) _ u e in
    let p = bind_ok (ok_or (kernel_birth table task) (UnknownName n)) _ u t.2 in
    subst (IsSoFar interfaces (lines ++ line_of n (HoldTask holder task) ∷ []))
    (hold_placed table u t.0 p.0 Send p.2)
    (line_more interfaces lines table (line_of n (HoldTask holder task))
    (HoldLine t.0 p.0 Send) is (refl, refl, refl, λ one kind items f. cc) refl refl)

-- the class that an admit line names
class_of_line : (table : Table) (n : ℕ) (said : Option ClassName) (class : Option NumberedClass)
    → admitted_said table n said ≡ Ok class
    → IsClassOf table said class
class_of_line table n None class e = sym (ok_is None class e)
class_of_line table n (Some name) class e =
    let named = bind_ok (ok_or (class_said table.names table.ports table.births name)
    (UnknownName n)) _ class e in
    (named.0, sym (ok_is (Some named.0) class named.2), ok_or_is _ (UnknownName n) named.0 named.1)

admit_step : (interfaces : List Interface) (lines : List (Line WiringSays)) (table u : Table)
    (n : ℕ) (subsystem type_name : List ℕ) (class : Option ClassName)
    → IsSoFar interfaces lines table
    → add_admit table n subsystem type_name class ≡ Ok u
    → IsSoFar interfaces (lines ++ line_of n (Admit subsystem type_name class) ∷ []) u
unfolding add_admit
admit_step interfaces lines table u n subsystem type_name class is e =
    let s = bind_ok (ok_or (interface_number table.interfaces subsystem) (UnknownName n)) _ u e in
    let sort = bind_ok (ok_or (position (is_sort s.0 type_name) (sorts_of table.interfaces))
    (UnknownName n)) _ u s.2 in
    let admitted = bind_ok (admitted_said table n class) _ u sort.2 in
    let admit : AdmitLine = record { sort = sort.0; class = admitted.0 } in
    subst (IsSoFar interfaces (lines ++ line_of n (Admit subsystem type_name class) ∷ []))
    (ok_is (with_admit table admit) u admitted.2)
    (admit_more interfaces lines (line_of n (Admit subsystem type_name class)) table subsystem
    type_name class admit is refl record {
      subsystem = subsystem;
      type_name = type_name;
      class = class;
      interface = s.0;
      says = refl;
      interface_is = ok_or_is _ (UnknownName n) s.0 s.1;
      sort_is = ok_or_is _ (UnknownName n) sort.0 sort.1;
      class_is = class_of_line table n class admitted.0 admitted.1;
    })

-- the right on a class that a `trust` line names
right_of_line : (table : Table) (n : ℕ) (said : Option TrustedRight) (right : Option NumberedRight)
    → trusted_said table n said ≡ Ok right
    → IsRightOf table said right
right_of_line table n None right e = sym (ok_is None right e)
right_of_line table n (Some on) right e =
    let named = bind_ok (ok_or (class_said table.names table.ports table.births on.class)
    (UnknownName n)) _ right e in (
      named.0,
      sym (ok_is (Some (right_with on.right named.0)) right named.2),
      ok_or_is _ (UnknownName n) named.0 named.1,
    )

trust_more : (interfaces : List Interface) (lines : List (Line WiringSays)) (table : Table)
    (line : Line WiringSays) (trusted : TrustedLine)
    → IsSoFar interfaces lines table
    → IsPlain line.says
    → is_trust line.says ≡ true
    → IsTrustOf table line trusted
    → IsSoFar interfaces (lines ++ line ∷ []) (with_trust table trusted)
trust_more interfaces lines table line trusted is plain verb means =
    plain_more interfaces lines line table (with_trust table trusted) is plain refl refl refl refl
    refl (trusted_more table lines line trusted verb means is.trusted)

trust_step : (interfaces : List Interface) (lines : List (Line WiringSays)) (table u : Table)
    (n : ℕ) (task : List ℕ) (verb : TrustVerb) (right : Option TrustedRight)
    → IsSoFar interfaces lines table
    → add_trust table n task verb right ≡ Ok u
    → IsSoFar interfaces (lines ++ line_of n (Trust task verb right) ∷ []) u
unfolding add_trust
trust_step interfaces lines table u n task verb right is e =
    let t = bind_ok (ok_or (number_of table.names task) (UnknownName n)) _ u e in
    let on = bind_ok (trusted_said table n right) _ u t.2 in
    let trusted : TrustedLine = record {
      line = n;
      verb = verb_said verb;
      task = t.0;
      right = on.0;
    } in
    subst (IsSoFar interfaces (lines ++ line_of n (Trust task verb right) ∷ []))
    (ok_is (with_trust table trusted) u on.2)
    (trust_more interfaces lines table (line_of n (Trust task verb right)) trusted is
    (refl, refl, refl, λ one kind items f. cc) refl record {
      task = task;
      word = verb;
      right = right;
      says = refl;
      line_is = refl;
      verb_is = refl;
      task_is = ok_or_is _ (UnknownName n) t.0 t.1;
      right_is = right_of_line table n right on.0 on.1;
    })

fit_step : (interfaces : List Interface) (lines : List (Line WiringSays)) (table u : Table)
    (n : ℕ)
    → IsSoFar interfaces lines table
    → add_fit table n ≡ Ok u
    → IsSoFar interfaces (lines ++ line_of n RepliesFit ∷ []) u
unfolding add_fit
fit_step interfaces lines table u n is e =
    let once = not_stopped table.fits (TwiceNamed n) _ u e in
    subst (IsSoFar interfaces (lines ++ line_of n RepliesFit ∷ []))
    (ok_is (with_fit table) u once.1)
    (plain_more interfaces lines (line_of n RepliesFit) table (with_fit table) is
    (refl, refl, refl, λ one kind items f. cc) refl refl refl refl refl
    (fit_more table lines (line_of n RepliesFit) refl once.0 is.trusted))

step : (interfaces : List Interface) (lines : List (Line WiringSays)) (table u : Table) (n : ℕ)
    (says : WiringSays)
    → IsSoFar interfaces lines table
    → add_line table n says ≡ Ok u
    → IsSoFar interfaces (lines ++ line_of n says ∷ []) u
step interfaces lines table u n (Task name) = task_step interfaces lines table u n name
step interfaces lines table u n (Port name receiver accepts) =
    port_step interfaces lines table u n name receiver accepts
step interfaces lines table u n (Births task kind accepts) =
    births_step interfaces lines table u n task kind accepts
step interfaces lines table u n (HoldPort holder right port) =
    hold_port_step interfaces lines table u n holder right port
step interfaces lines table u n (HoldTask holder task) =
    hold_task_step interfaces lines table u n holder task
step interfaces lines table u n (Admit subsystem type_name class) =
    admit_step interfaces lines table u n subsystem type_name class
step interfaces lines table u n (Trust task verb right) =
    trust_step interfaces lines table u n task verb right
step interfaces lines table u n RepliesFit = fit_step interfaces lines table u n

-- ---- all of them

steps : (interfaces : List Interface) (before lines : List (Line WiringSays)) (table u : Table)
    → IsSoFar interfaces before table
    → add_lines table lines ≡ Ok u
    → IsSoFar interfaces (before ++ lines) u
steps interfaces before [] table u is e =
    subst (IsSoFar interfaces (before ++ [])) (ok_is table u e)
    (subst (λ (ls : List (Line WiringSays)). IsSoFar interfaces ls table)
    (sym (append-nil before)) is)
steps interfaces before (line ∷ lines) table u is e =
    let more = bind_ok (add_line table line.number line.says) _ u e in
    subst (λ (ls : List (Line WiringSays)). IsSoFar interfaces ls u)
    (append_assoc before (line ∷ []) lines)
    (steps interfaces (before ++ line ∷ []) lines more.0 u
    (step interfaces before table more.0 line.number line.says is more.1) more.2)

no_line : (interfaces : List Interface) → IsSoFar interfaces [] (empty_table interfaces)
no_line interfaces = record {
  interfaces_are = refl;
  tasks = refl;
  ports = refl;
  rows = record {
    row = λ line task kind items at says. elim at [ ];
    line = λ row at. elim at [ ];
    once = λ i j one other task kind items others first second says also.
        absurd (none-some one first);
  };
  admits = record {
    many = refl;
    each = λ i line admit first second. absurd (none-some line first);
  };
  trusted = none_trusted interfaces;
}

started_so_far : (edition : Edition) (interfaces : List Interface) (u : Table)
    → started edition interfaces ≡ Ok u
    → IsSoFar interfaces [] u
started_so_far edition interfaces u e =
    let new = not_stopped (has_twice interfaces) (TwiceNamed 0) _ u e in
    let room = not_stopped (nat_lt (interfaces_of edition) (length interfaces)) (TooMany 0) _ u new.1 in
    subst (IsSoFar interfaces []) (ok_is (empty_table interfaces) u room.1) (no_line interfaces)

-- ---- in the law's words

is_there : (table : Table) (lines : List (Line WiringSays)) (t kind : ℕ)
    → AreRows table lines
    → IsTable table
    → HasRow table.births t kind
    → ((t < length table.names) × (kind ≡ 0))
    ⊎ ((label : List LabelItem) × HasBirthsLine table lines t kind label)
is_there table lines t kind are is has =
    let row = has.0 in
    elim (are.line row has.1) [
      | inl line ↦ inr (
        line.0,
        subst (λ (k : ℕ). HasBirthsLine table lines t k line.0) has.3
            (subst (λ (k : ℕ). HasBirthsLine table lines k row.kind line.0) has.2 line.2),
      )
      | inr zeroth ↦ inl (
        subst (λ (k : ℕ). k < length table.names) has.2
            (each_in (λ (r : BirthRow). r.task < length table.names) row table.births
            is.births.each has.1),
        sym has.3 ∙ zeroth.1,
      )
    ]

-- the row of a line, by the number of its task
row_of_line : (table : Table) (lines : List (Line WiringSays)) (t kind : ℕ)
    (label : List LabelItem)
    → AreRows table lines
    → HasBirthsLine table lines t kind label
    → IsIn (said_row t kind label) table.births
row_of_line table lines t kind label are is =
    let own = are.row is.line is.task kind is.items is.among is.says in
    let task : own.t ≡ t = same_Some _ _ (sym own.number ∙ is.numbered) in
    let accepts : own.label ≡ label = ok_is own.label label (sym own.means ∙ is.means) in
    subst (λ (l : List LabelItem). IsIn (said_row t kind l) table.births) accepts
    (subst (λ (k : ℕ). IsIn (said_row k kind own.label) table.births) task own.row)

from_there : (table : Table) (lines : List (Line WiringSays)) (t kind : ℕ)
    → AreRows table lines
    → IsTable table
    → ((t < length table.names) × (kind ≡ 0))
    ⊎ ((label : List LabelItem) × HasBirthsLine table lines t kind label)
    → HasRow table.births t kind
from_there table lines t kind are is (inl zeroth) =
    let there = any_in (is_row t 0) table.births (is.births.zeroth t zeroth.0) in
    let of_row = is_row_of t 0 there.0 there.2 in
    (there.0, there.1, of_row.0, of_row.1 ∙ sym zeroth.1)
from_there table lines t kind are is (inr line) = (
  said_row t kind line.0,
  row_of_line table lines t kind line.0 are line.1,
  refl,
  refl,
)

accepts_said : (table : Table) (lines : List (Line WiringSays)) (row : BirthRow)
    (label : List LabelItem)
    → IsRowOf table lines row
    → row.accepts ≡ Some label
    → HasBirthsLine table lines row.task row.kind label
accepts_said table lines row label (inl line) e =
    subst (HasBirthsLine table lines row.task row.kind) (same_Some _ _ (sym line.1 ∙ e)) line.2
accepts_said table lines row label (inr none) e = absurd (none-some label (sym none.0 ∙ e))

births_are : (table : Table) (lines : List (Line WiringSays))
    → AreRows table lines
    → IsTable table
    → AreBirthsOf table lines
births_are table lines are is = record {
  known = λ line task kind items among says.
      let own = are.row line task kind items among says in
      (own.t, own.label, own.number, own.means);
  once = are.once;
  there = λ t kind. (is_there table lines t kind are is, from_there table lines t kind are is);
  accepts = λ row label at. (
    accepts_said table lines row label (are.line row at),
    λ said. ap (λ (r : BirthRow). r.accepts) (row_once table.births row
        (said_row row.task row.kind label) is.births.ascending at
        (row_of_line table lines row.task row.kind label are said) refl refl),
  );
  ascending = is.births.ascending;
}

-- what is so at the last line
at_last : (edition : Edition) (interfaces : List Interface) (lines : List (Line WiringSays))
    (table : Table)
    → resolved edition interfaces lines ≡ Ok table
    → IsSoFar interfaces lines table
at_last edition interfaces lines table e =
    let first = bind_ok (started edition interfaces) _ table e in
    steps interfaces [] lines first.0 table
    (started_so_far edition interfaces first.0 first.1) first.2

pub tables_of_lines : TablesAreOfLines
tables_of_lines edition interfaces lines table e =
    let all = at_last edition interfaces lines table e in
    record {
      interfaces_are = all.interfaces_are;
      tasks = all.tasks;
      ports = all.ports;
      births = births_are table lines all.rows (resolved_is_table edition interfaces lines table e);
      admits = all.admits;
    }

pub trusts_of_lines : TrustsAreOfLines
trusts_of_lines edition interfaces lines table e =
    let all = at_last edition interfaces lines table e in
    record {
      given = tables_of_lines edition interfaces lines table e;
      trusts = all.trusted.trusts;
      fits = all.trusted.fits;
    }
