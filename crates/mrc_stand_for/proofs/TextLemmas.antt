-- Once a line has named all tasks, no line below adds one.
use Rattle.std.proofs.Common.{◌≡◌, ◌||◌, ◌&&◌, ◌+◌, ℕ, Bool, true, false, List, [], ◌∷◌, ◌++◌, refl}
use Rattle.std.proofs.Common.{ap, ◌∙◌, subst, Result, Ok, Err, Some, None, length, map}
use Rattle.std.specs.Prelude.{not, nat_le, nat_lt}
use Rattle.std.specs.List.{list_any}
use Rattle.mrc_base.specs.Limits.{limit_of_kinds}
use Rattle.mrc_base.specs.declared.PortRight.{PortRight}
use Rattle.mrc_base.specs.declared.PortRight.TheVariants as right
use Rattle.mrc_base.proofs.Steps.{bind_ok, not_stopped}
use Rattle.mrc_wiring_text.specs.declared.items.Item.{Item}
use Rattle.mrc_wiring_text.specs.declared.policy.ClassName.{ClassName}
use Rattle.mrc_wiring_text.specs.declared.policy.ClassName.TheVariants as class
use Rattle.mrc_wiring_text.specs.declared.reading.Line.{Line}
use Rattle.mrc_wiring_text.specs.declared.wiring.WiringSays.{WiringSays}
use Rattle.mrc_wiring_text.specs.declared.wiring.WiringSays.TheVariants as core
use Rattle.mrc_wiring_text.specs.declared.trust.TrustVerb.{TrustVerb}
use Rattle.mrc_wiring_text.specs.declared.trust.TrustVerb.TheVariants as verb
use Rattle.mrc_stand_for.specs.declared.faults.StandFault.{StandFault}
use Rattle.mrc_stand_for.specs.declared.faults.StandFault.TheVariants.{BadLine, UnknownName, Late}
use Rattle.mrc_stand_for.specs.declared.faults.StandFault.TheVariants.{TwiceNamed, TooMany}
use Rattle.mrc_stand_for.specs.declared.known.Known.{Known}
use Rattle.mrc_stand_for.specs.declared.lists.Found.{Found}
use Rattle.mrc_stand_for.specs.declared.standing.Standing.{Standing}
use Rattle.mrc_stand_for.specs.declared.wide.Place.{Place}
use Rattle.mrc_stand_for.specs.declared.wide.SlotName.{SlotName}
use Rattle.mrc_stand_for.specs.declared.wide.Tasks.{Tasks}
use Rattle.mrc_stand_for.specs.declared.wide.WideClass.{WideClass}
use Rattle.mrc_stand_for.specs.declared.wide.WideSays.{WideSays}
use Rattle.mrc_stand_for.specs.declared.wide.WideSays.TheVariants as says
use Rattle.mrc_stand_for.specs.Once.{is_among, with_each, same_verb, same_right}
use Rattle.mrc_stand_for.specs.Known.{has_group, has_set, has_kind, has_named}
use Rattle.mrc_stand_for.specs.Lists.{tasks_of, classes_of, ports_of}
use Rattle.mrc_stand_for.specs.Expected.{expected_classes}
use Rattle.mrc_stand_for.specs.ListLaws.{AllAreOfTheText}
use Rattle.mrc_stand_for.specs.Products.{verb_of, trust_lines}
use Rattle.mrc_stand_for.specs.Standing.{names_all, class_names_all, place_names_all, closing}
use Rattle.mrc_stand_for.specs.Standing.{naming, Stands, stands, stood_so_far, add_group, add_set}
use Rattle.mrc_stand_for.specs.Standing.{add_member, add_sends, add_trusts}
use Rattle.mrc_stand_for.specs.Standing.{group_stands, set_stands, member_stands, births_stands}
use Rattle.mrc_stand_for.specs.Standing.{replies_stands, send_stands, once_stands, admit_stands}
use Rattle.mrc_stand_for.specs.Standing.{trust_stands, none_stands, line_stands, is_late, is_group}
use Rattle.mrc_stand_for.specs.Standing.{known_after, stopped, add_part, add_parts, add_line}
use Rattle.mrc_stand_for.specs.Standing.{limit_of_lines_stood_for}
use Rattle.mrc_stand_for.specs.Steps.{each}
use Rattle.mrc_stand_for.proofs.ListLemmas.{chosen}

-- what is known later has the same tasks, and they stay closed
record Keeps (known more : Known) : Type 0 where
  tasks : more.tasks ≡ known.tasks
  closed : known.closed ≡ true → more.closed ≡ true

keeps_all : (known : Known) → Keeps known known
keeps_all known = record { tasks = refl; closed = λ h. h }

keeps_on : (a b c : Known) → Keeps a b → Keeps b c → Keeps a c
keeps_on a b c h k = record { tasks = k.tasks ∙ h.tasks; closed = λ is. k.closed (h.closed is) }

or_true : (b c : Bool) → b ≡ true → (b || c) ≡ true
or_true b c is = ap (λ x. x || c) is

keeps_closing : (known : Known) (all : Bool) → Keeps known (closing all known)
keeps_closing known all = record { tasks = refl; closed = λ is. or_true known.closed all is }

keeps_naming : (known : Known) (found : Found) → Keeps known (naming found known)
keeps_naming known found = record { tasks = refl; closed = λ h. h }

-- what is known with lines that are stood for
keeps_stands : (known more : Known) (lines : List WiringSays) (st : Stands)
    → stands more lines ≡ Ok st → Keeps known more → Keeps known st.known
keeps_stands known more lines st is keeps =
    let same : more ≡ st.known = let e : stood_so_far more lines ≡ st = cc in
    ap (λ (x : Stands). x.known) e in
    subst (Keeps known) same keeps

keeps_group : (known more : Known) (n : ℕ) (name : List ℕ) (tasks : List (List ℕ))
    → add_group known n name tasks ≡ Ok more → Keeps known more
keeps_group known more n name tasks is =
    subst (Keeps known)
    (chosen (is_among name known.tasks || has_group known name) (TwiceNamed n) _ more is)
    (record { tasks = refl; closed = λ h. h })

keeps_set : (known more : Known) (n : ℕ) (name : List ℕ) (found : Found) (bare : List ClassName)
    → add_set known n name found bare ≡ Ok more → Keeps known more
keeps_set known more n name found bare is =
    subst (Keeps known) (chosen (has_set known name) (TwiceNamed n) _ more is)
    (record { tasks = refl; closed = λ h. h })

keeps_member : (known more : Known) (n : ℕ) (port task : List ℕ) (kind : ℕ)
    → add_member known n port task kind ≡ Ok more → Keeps known more
keeps_member known more n port task kind is =
    let there = not_stopped (not (is_among task known.tasks && has_kind known task kind))
    (UnknownName n) _ more is in
    subst (Keeps known)
    (chosen (has_named known (class.Births task kind)) (Late n) _ more there.1)
    (record { tasks = refl; closed = λ h. h })

keeps_trust : (known : Known) (n : ℕ) (verbs : List TrustVerb) (rights : List PortRight)
    (classes : List WideClass) (so_far more : Stands) (task : List ℕ)
    → Keeps known so_far.known
    → add_trusts n verbs rights classes so_far task ≡ Ok more
    → Keeps known more.known
keeps_trust known n verbs rights classes so_far more task keeps is =
    let b = bind_ok (classes_of so_far.known n (Some task) classes) _ more is in
    keeps_stands known (naming b.0 so_far.known)
    (so_far.lines ++ trust_lines task verbs rights b.0.classes) more b.2
    (keeps_on known so_far.known (naming b.0 so_far.known) keeps (keeps_naming so_far.known b.0))

keeps_trusts : (known : Known) (n : ℕ) (verbs : List TrustVerb) (rights : List PortRight)
    (classes : List WideClass) (so_far more : Stands) (tasks : List (List ℕ))
    → Keeps known so_far.known
    → each (add_trusts n verbs rights classes) so_far tasks ≡ Ok more
    → Keeps known more.known
keeps_trusts known n verbs rights classes so_far more [] keeps is =
    let same : so_far ≡ more = cc in
    subst (Keeps known) (ap (λ (s : Stands). s.known) same) keeps
keeps_trusts known n verbs rights classes so_far more (task ∷ tasks) keeps is =
    let b = bind_ok (add_trusts n verbs rights classes so_far task) _ more is in
    keeps_trusts known n verbs rights classes b.0 more tasks
    (keeps_trust known n verbs rights classes so_far b.0 task keeps b.1) b.2

keeps_trust_line : (known : Known) (n : ℕ) (tasks : Tasks) (verbs : List TrustVerb)
    (rights : List PortRight) (classes : List WideClass) (st : Stands)
    → trust_stands known n tasks verbs rights classes ≡ Ok st → Keeps known st.known
keeps_trust_line known n tasks verbs rights classes st is =
    let b = bind_ok (tasks_of known n tasks) _ st is in
    let all = names_all tasks || list_any class_names_all classes in
    keeps_trusts known n (with_each same_verb [] verbs) (with_each same_right [] rights) classes
    (stood_so_far (closing all known) []) st b.0 (keeps_closing known all) b.2

keeps_group_line : (known : Known) (n : ℕ) (group : List ℕ) (tasks : Tasks) (st : Stands)
    → group_stands known n group tasks ≡ Ok st → Keeps known st.known
keeps_group_line known n group tasks st is =
    let b = bind_ok (tasks_of known n tasks) _ st is in
    let m = bind_ok (add_group known n group b.0) _ st b.2 in
    keeps_stands known (closing (names_all tasks) m.0) [] st m.2
    (keeps_on known m.0 (closing (names_all tasks) m.0) (keeps_group known m.0 n group b.0 m.1)
    (keeps_closing m.0 (names_all tasks)))

keeps_set_line : (known : Known) (n : ℕ) (set : List ℕ) (classes : List WideClass) (st : Stands)
    → set_stands known n set classes ≡ Ok st → Keeps known st.known
keeps_set_line known n set classes st is =
    let b = bind_ok (classes_of known n None classes) _ st is in
    let e = bind_ok (expected_classes known n None classes) _ st b.2 in
    let m = bind_ok (add_set known n set b.0 e.0) _ st e.2 in
    let all = list_any class_names_all classes in
    keeps_stands known (closing all (naming b.0 m.0)) [] st m.2
    (keeps_on known (naming b.0 m.0) (closing all (naming b.0 m.0))
    (keeps_on known m.0 (naming b.0 m.0) (keeps_set known m.0 n set b.0 e.0 m.1)
    (keeps_naming m.0 b.0)) (keeps_closing (naming b.0 m.0) all))

keeps_member_line : (known : Known) (n : ℕ) (port task : List ℕ) (kind : ℕ) (st : Stands)
    → member_stands known n port task kind ≡ Ok st → Keeps known st.known
keeps_member_line known n port task kind st is =
    let m = bind_ok (add_member known n port task kind) _ st is in
    keeps_stands known m.0 _ st m.2 (keeps_member known m.0 n port task kind m.1)

keeps_births_line : (known : Known) (n : ℕ) (tasks : Tasks) (kind : ℕ) (accepts : List Item)
    (st : Stands) → births_stands known n tasks kind accepts ≡ Ok st → Keeps known st.known
keeps_births_line known n tasks kind accepts st is =
    let b = bind_ok (tasks_of known n tasks) _ st is in
    keeps_stands known _ _ st b.2 (keeps_closing known (names_all tasks))

keeps_replies_line : (known : Known) (n : ℕ) (tasks : Tasks) (kind : ℕ)
    (subsystems : List (List ℕ)) (st : Stands)
    → replies_stands known n tasks kind subsystems ≡ Ok st → Keeps known st.known
keeps_replies_line known n tasks kind subsystems st is =
    let few = not_stopped (nat_lt limit_of_kinds (kind + length subsystems)) (BadLine n) _ st is in
    let b = bind_ok (tasks_of known n tasks) _ st few.1 in
    keeps_stands known _ _ st b.2 (keeps_closing known (names_all tasks))

keeps_send_line : (known : Known) (n : ℕ) (tasks : Tasks) (places : List Place) (st : Stands)
    → send_stands known n tasks places ≡ Ok st → Keeps known st.known
keeps_send_line known n tasks places st is =
    let b = bind_ok (tasks_of known n tasks) _ st is in
    let m = bind_ok (each (add_sends known n places) [] b.0) _ st b.2 in
    keeps_stands known _ _ st m.2
    (keeps_closing known (names_all tasks || list_any place_names_all places))

keeps_once_line : (known : Known) (n : ℕ) (tasks : Tasks) (ports : List (List ℕ)) (st : Stands)
    → once_stands known n tasks ports ≡ Ok st → Keeps known st.known
keeps_once_line known n tasks ports st is =
    let b = bind_ok (tasks_of known n tasks) _ st is in
    let m = bind_ok (ports_of known n ports) _ st b.2 in
    keeps_stands known _ _ st m.2 (keeps_closing known (names_all tasks))

keeps_admit_line : (known : Known) (n : ℕ) (slots : List SlotName) (classes : List WideClass)
    (st : Stands) → admit_stands known n slots classes ≡ Ok st → Keeps known st.known
keeps_admit_line known n slots classes st is =
    let b = bind_ok (classes_of known n None classes) _ st is in
    let all = list_any class_names_all classes in
    keeps_stands known _ _ st b.2
    (keeps_on known (naming b.0 known) (closing all (naming b.0 known)) (keeps_naming known b.0)
    (keeps_closing (naming b.0 known) all))

keeps_none_line : (known : Known) (n : ℕ) (tasks : Tasks) (verbs : List TrustVerb) (st : Stands)
    → none_stands known n tasks verbs ≡ Ok st → Keeps known st.known
keeps_none_line known n tasks verbs st is =
    let b = bind_ok (tasks_of known n tasks) _ st is in
    keeps_stands known _ _ st b.2 (keeps_closing known (names_all tasks))

-- a line leaves the tasks to the lines that it stands for
keeps_line : (known : Known) (n : ℕ) (line : WideSays) (st : Stands)
    → line_stands known n line ≡ Ok st → Keeps known st.known
keeps_line known n (says.Task names) st is = keeps_stands known known _ st is (keeps_all known)
keeps_line known n (says.Group group tasks) st is = keeps_group_line known n group tasks st is
keeps_line known n (says.Set set classes) st is = keeps_set_line known n set classes st is
keeps_line known n (says.Port port receiver accepts) st is =
    keeps_stands known known _ st is (keeps_all known)
keeps_line known n (says.PortOf port task kind) st is =
    keeps_member_line known n port task kind st is
keeps_line known n (says.Births tasks kind accepts) st is =
    keeps_births_line known n tasks kind accepts st is
keeps_line known n (says.Replies tasks kind subsystems) st is =
    keeps_replies_line known n tasks kind subsystems st is
keeps_line known n (says.HoldSend tasks places) st is = keeps_send_line known n tasks places st is
keeps_line known n (says.HoldOnce tasks ports) st is = keeps_once_line known n tasks ports st is
keeps_line known n (says.Admit slots (Some classes)) st is =
    keeps_admit_line known n slots classes st is
keeps_line known n (says.Admit slots None) st is =
    keeps_stands known known _ st is (keeps_all known)
keeps_line known n (says.Trust tasks verbs rights classes) st is =
    keeps_trust_line known n tasks (map verb_of verbs) rights classes st is
keeps_line known n (says.TrustReplies tasks classes) st is =
    keeps_trust_line known n tasks (verb.Replies ∷ []) (right.SendOnce ∷ []) classes st is
keeps_line known n (says.TrustNone tasks verbs) st is = keeps_none_line known n tasks verbs st is
keeps_line known n says.RepliesFit st is = keeps_stands known known _ st is (keeps_all known)

-- what is known after a line of version 3, if the tasks are closed
keeps_after : (known : Known) (line : WiringSays) → known.closed ≡ true
    → is_late known line ≡ false → Keeps known (known_after known line)
keeps_after known (core.Task name) closed late = absurd cc
keeps_after known (core.Port port receiver accepts) closed late =
    record { tasks = refl; closed = λ h. h }
keeps_after known (core.Births task kind accepts) closed late =
    record { tasks = refl; closed = λ h. h }
keeps_after known (core.HoldPort holder right port) closed late = keeps_all known
keeps_after known (core.HoldTask holder task) closed late = keeps_all known
keeps_after known (core.Admit subsystem type class) closed late = keeps_all known
keeps_after known (core.Trust task verb right) closed late = keeps_all known
keeps_after known core.RepliesFit closed late = keeps_all known

keeps_part : (n : ℕ) (so_far more : Standing) (line : WiringSays) → so_far.known.closed ≡ true
    → add_part n so_far line ≡ Ok more → Keeps so_far.known more.known
keeps_part n so_far more line closed is =
    let late = not_stopped (is_late so_far.known line) (stopped so_far (Late n)) _ more is in
    let group = not_stopped (is_group so_far.known line) (stopped so_far (TwiceNamed n)) _ more
    late.1 in
    let added = chosen (nat_le limit_of_lines_stood_for (length so_far.lines))
    (stopped so_far (TooMany n)) _ more group.1 in
    subst (Keeps so_far.known) (ap (λ (s : Standing). s.known) added)
    (keeps_after so_far.known line closed late.0)

keeps_parts : (n : ℕ) (so_far more : Standing) (lines : List WiringSays)
    → so_far.known.closed ≡ true → each (add_part n) so_far lines ≡ Ok more
    → Keeps so_far.known more.known
keeps_parts n so_far more [] closed is =
    let same : so_far ≡ more = cc in
    subst (Keeps so_far.known) (ap (λ (s : Standing). s.known) same) (keeps_all so_far.known)
keeps_parts n so_far more (line ∷ lines) closed is =
    let b = bind_ok (add_part n so_far line) _ more is in
    let first = keeps_part n so_far b.0 line closed b.1 in
    keeps_on so_far.known b.0.known more.known first
    (keeps_parts n b.0 more lines (first.closed closed) b.2)

keeps_stood : (so_far more : Standing) (n : ℕ) (said : Result Stands StandFault)
    → ((st : Stands) → said ≡ Ok st → Keeps so_far.known st.known)
    → so_far.known.closed ≡ true → add_parts so_far n said ≡ Ok more
    → Keeps so_far.known more.known
keeps_stood so_far more n (Ok st) keeps closed is =
    let first = keeps st refl in
    keeps_on so_far.known st.known more.known first
    (keeps_parts n (record so_far { known = st.known }) more st.lines (first.closed closed) is)
keeps_stood so_far more n (Err fault) keeps closed is = absurd cc

keeps_lines : (so_far more : Standing) (lines : List (Line WideSays))
    → so_far.known.closed ≡ true → each add_line so_far lines ≡ Ok more
    → Keeps so_far.known more.known
keeps_lines so_far more [] closed is =
    let same : so_far ≡ more = cc in
    subst (Keeps so_far.known) (ap (λ (s : Standing). s.known) same) (keeps_all so_far.known)
keeps_lines so_far more (line ∷ lines) closed is =
    let b = bind_ok (add_line so_far line) _ more is in
    let first = keeps_stood so_far b.0 line.number
    (line_stands so_far.known line.number line.says)
    (keeps_line so_far.known line.number line.says) closed b.1 in
    keeps_on so_far.known b.0.known more.known first
    (keeps_lines b.0 more lines (first.closed closed) b.2)

pub all_are_of_the_text : AllAreOfTheText
all_are_of_the_text = λ so_far more lines closed is.
    (keeps_lines so_far more lines closed is).tasks
