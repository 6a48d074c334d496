-- The facts of products, and what waivers keep.
use Rattle.std.proofs.Common.{◌≡◌, ℕ, Bool, true, false, cond, ◌&&◌, ◌||◌, List, [], ◌∷◌, ◌++◌}
use Rattle.std.proofs.Common.{map, length, Option, Some, None, Ok, refl, sym, ap, ◌∙◌}
use Rattle.std.proofs.Common.{subst, inl, inr, ◌⊎◌}
use Rattle.std.specs.Prelude.{not, bytes_eq, filter, fold, nat_eq}
use Rattle.std.specs.List.{list_any}
use Rattle.std.proofs.Math.Bool.{or-true}
use Rattle.std.proofs.lemmas.Bool.{cases_Bool}
use Rattle.std.proofs.lemmas.Grind.{flat_map-append}
use Rattle.std.proofs.lemmas.List.Elements.{filter-append}
use Rattle.std.proofs.lemmas.List.Folds.{list_any-append}
use Rattle.mrc_base.specs.declared.PortRight.{PortRight}
use Rattle.mrc_base.proofs.Steps.{bind_ok, passed, ok_is}
use Rattle.mrc_wiring_text.specs.declared.policy.ClassName.{ClassName}
use Rattle.mrc_wiring_text.specs.declared.reading.Line.{Line}
use Rattle.mrc_stand_for.specs.declared.faults.StandFault.TheVariants.{UnknownName, Empty}
use Rattle.mrc_stand_for.specs.declared.wide.Tasks.{Tasks}
use Rattle.mrc_stand_for.specs.declared.wide.WideClass.{WideClass}
use Rattle.mrc_stand_for.specs.Once.{same_class, same_right}
use Rattle.mrc_stand_for.specs.Standing.{group_stands, set_stands}
use Rattle.mrc_stand_for.specs.Steps.{each, filled}
use Rattle.mrc_stand_for.proofs.ListLemmas.{chosen}
use Rattle.mrc_wide_policy.specs.declared.facts.FactLine.{FactLine}
use Rattle.mrc_wide_policy.specs.declared.facts.NamedFact.{NamedFact}
use Rattle.mrc_wide_policy.specs.declared.facts.PolicyStands.{PolicyStands}
use Rattle.mrc_wide_policy.specs.declared.facts.Row.{Row}
use Rattle.mrc_wide_policy.specs.declared.facts.WaivedLine.{WaivedLine}
use Rattle.mrc_wide_policy.specs.declared.says.PolicySays.{PolicySays}
use Rattle.mrc_wide_policy.specs.declared.says.PolicySays.TheVariants as says
use Rattle.mrc_wide_policy.specs.declared.says.Product.{Product}
use Rattle.mrc_wide_policy.specs.declared.standing.Demands.{Demands}
use Rattle.mrc_wide_policy.specs.FactLaws.{ProductsHaveTheirFacts, WaivedIsForbidden}
use Rattle.mrc_wide_policy.specs.Facts.{fact, right_facts, row_facts, facts_in, same_fact}
use Rattle.mrc_wide_policy.specs.Facts.{is_of_row}
use Rattle.mrc_wide_policy.specs.Facts.{is_in, facts_of, is_of_waiver, is_waived, with_new}
use Rattle.mrc_wide_policy.specs.Facts.{new_facts, forbids, forbidding}
use Rattle.mrc_wide_policy.specs.PolicyStanding.{rows_of, rights_in}
use Rattle.mrc_wide_policy.specs.PolicyStanding.{product_facts}
use Rattle.mrc_wide_policy.specs.PolicyStanding.{has_name, named_facts, waived_of, counted}
use Rattle.mrc_wide_policy.specs.PolicyStanding.{add_group, add_set, add_facts}
use Rattle.mrc_wide_policy.specs.PolicyStanding.{add_waive, says_more, add_line, nothing_demanded}

-- ---- the facts of a product

none_of_three : (x y : Bool) → false ≡ (x && (y && false))
none_of_three true true = refl
none_of_three true false = refl
none_of_three false y = refl

last_of_three : (x y z w : Bool) → ((x && (y && z)) || (x && (y && w))) ≡ (x && (y && (z || w)))
last_of_three true true z w = refl
last_of_three true false z w = refl
last_of_three false y z w = refl

none_of_two : (x z : Bool) → false ≡ (x && (false && z))
none_of_two true z = refl
none_of_two false z = refl

middle_of_three : (x y w z : Bool) → ((x && (y && z)) || (x && (w && z))) ≡ (x && ((y || w) && z))
middle_of_three true true true true = refl
middle_of_three true true true false = refl
middle_of_three true true false true = refl
middle_of_three true true false false = refl
middle_of_three true false w z = refl
middle_of_three false y w z = refl

none_of_one : (y : Bool) → false ≡ (y && false)
none_of_one true = refl
none_of_one false = refl

rows_of_two : (x y z w : Bool) → ((x && (y && z)) || (y && w)) ≡ (y && ((x && z) || w))
rows_of_two true true z w = refl
rows_of_two true false z w = refl
rows_of_two false true z w = refl
rows_of_two false false z w = refl

classes_any : (f : NamedFact) (task : List ℕ) (right : PortRight) (classes : List ClassName)
    → list_any (same_fact f) (map (fact task right) classes)
    ≡ (bytes_eq f.task task && (same_right f.right right && list_any (same_class f.class) classes))
classes_any f task right [] = none_of_three (bytes_eq f.task task) (same_right f.right right)
classes_any f task right (class ∷ classes) =
    ap (λ b. same_fact f (fact task right class) || b) (classes_any f task right classes)
    ∙ last_of_three (bytes_eq f.task task) (same_right f.right right) (same_class f.class class)
    (list_any (same_class f.class) classes)

rights_any : (f : NamedFact) (row : Row) (rights : List PortRight)
    → list_any (same_fact f) (row_facts rights row)
    ≡ (bytes_eq f.task row.task && (list_any (same_right f.right) rights
    && list_any (same_class f.class) row.classes))
rights_any f row [] =
    none_of_two (bytes_eq f.task row.task) (list_any (same_class f.class) row.classes)
rights_any f row (right ∷ rights) =
    list_any-append (same_fact f) (right_facts row right) (row_facts rights row)
    ∙ ap (λ b. b || list_any (same_fact f) (row_facts rights row))
    (classes_any f row.task right row.classes)
    ∙ ap (λ b. (bytes_eq f.task row.task && (same_right f.right right
    && list_any (same_class f.class) row.classes)) || b) (rights_any f row rights)
    ∙ middle_of_three (bytes_eq f.task row.task) (same_right f.right right)
    (list_any (same_right f.right) rights) (list_any (same_class f.class) row.classes)

rows_any : (f : NamedFact) (rights : List PortRight) (rows : List Row)
    → list_any (same_fact f) (facts_in rights rows)
    ≡ (list_any (same_right f.right) rights && list_any (is_of_row f) rows)
rows_any f rights [] = none_of_one (list_any (same_right f.right) rights)
rows_any f rights (row ∷ rows) =
    list_any-append (same_fact f) (row_facts rights row) (facts_in rights rows)
    ∙ ap (λ b. b || list_any (same_fact f) (facts_in rights rows)) (rights_any f row rights)
    ∙ ap (λ b. (bytes_eq f.task row.task && (list_any (same_right f.right) rights
    && list_any (same_class f.class) row.classes)) || b) (rows_any f rights rows)
    ∙ rows_of_two (bytes_eq f.task row.task) (list_any (same_right f.right) rights)
    (list_any (same_class f.class) row.classes) (list_any (is_of_row f) rows)

pub products_have : ProductsHaveTheirFacts
products_have = λ rights rows f. sym (rows_any f rights rows)

-- ---- one of some is one of more

or_more : (x y z : Bool) → (y ≡ true → z ≡ true) → (x || y) ≡ true → (x || z) ≡ true
or_more true y z more h = refl
or_more false y z more h = more h

or_between : (x y z : Bool) → (x || z) ≡ true → (x || (y || z)) ≡ true
or_between true y z h = refl
or_between false y z h = ap (λ b. y || b) h ∙ or-true y

or_either : (x y : Bool) → (x || (y || false)) ≡ true → (x ≡ true) ⊎ (y ≡ true)
or_either true y h = inl refl
or_either false true h = inr refl
or_either false false h = absurd cc

or_moved : (x y z : Bool) → ((x || (y || false)) || z) ≡ true → (x || (y || z)) ≡ true
or_moved true y z h = refl
or_moved false true z h = refl
or_moved false false z h = h

any_filter : {X : Type 0} (t p : X → Bool) (xs : List X)
    → list_any t (filter p xs) ≡ true
    → list_any t xs ≡ true
any_filter t p [] h = h
any_filter t p (x ∷ xs) h =
    let choose : Bool → Bool = λ b. list_any t (cond b (x ∷ filter p xs) (filter p xs)) in
    elim (cases_Bool (p x)) [
      | inl passes ↦ or_more (t x) (list_any t (filter p xs)) (list_any t xs) (any_filter t p xs)
          (sym (ap choose passes) ∙ h)
      | inr fails ↦ ap (λ b. t x || b) (any_filter t p xs (sym (ap choose fails) ∙ h))
          ∙ or-true (t x)
    ]

-- a fact of some of the lines is one of all
any_line : (t : NamedFact → Bool) (p : FactLine → Bool) (lines : List FactLine)
    → list_any t (facts_of (filter p lines)) ≡ true
    → list_any t (facts_of lines) ≡ true
any_line t p [] h = h
any_line t p (line ∷ lines) h =
    let choose : Bool → Bool = λ b. list_any t (facts_of
    (cond b (line ∷ filter p lines) (filter p lines))) in
    let whole = list_any-append t line.facts (facts_of lines) in
    elim (cases_Bool (p line)) [
      | inl passes ↦ whole
          ∙ or_more (list_any t line.facts) (list_any t (facts_of (filter p lines)))
          (list_any t (facts_of lines)) (any_line t p lines)
          (sym (list_any-append t line.facts (facts_of (filter p lines)))
          ∙ sym (ap choose passes) ∙ h)
      | inr fails ↦ whole
          ∙ ap (λ b. list_any t line.facts || b)
          (any_line t p lines (sym (ap choose fails) ∙ h)) ∙ or-true (list_any t line.facts)
    ]

-- a fact of the lines so far that forbid is one of those of these and more
any_longer : (t : NamedFact → Bool) (lines more : List FactLine)
    → list_any t (facts_of (forbidding lines)) ≡ true
    → list_any t (facts_of (forbidding (lines ++ more))) ≡ true
any_longer t lines more h =
    ap (λ ls. list_any t (facts_of ls)) (filter-append forbids lines more)
    ∙ ap (list_any t) (flat_map-append (λ (line : FactLine). line.facts) (forbidding lines)
    (forbidding more))
    ∙ list_any-append t (facts_of (forbidding lines)) (facts_of (forbidding more))
    ∙ ap (λ b. b || list_any t (facts_of (forbidding more))) h

-- a line of a name that forbids is one of the lines that forbid
kept_named : (name : List ℕ) (line : FactLine) (lines : List FactLine) (e : Bool)
    → line.expects ≡ e
    → filter (has_name name) (forbidding lines) ≡ filter (has_name name) lines
    → filter (has_name name) (cond (not e) (line ∷ forbidding lines) (forbidding lines))
    ≡ filter (has_name name) (line ∷ lines)
kept_named name line lines true is h = h ∙ rw is refl
kept_named name line lines false is h =
    ap (λ ls. cond (has_name name line) (line ∷ ls) ls) h

named_forbids : (name : List ℕ) (lines : List FactLine)
    → filter (has_name name) (forbidding lines) ≡ filter (has_name name) lines
named_forbids name [] = refl
named_forbids name (line ∷ lines) =
    kept_named name line lines line.expects refl (named_forbids name lines)

-- ---- new facts are among those that were given

new_one : (t : NamedFact → Bool) (b : Bool) (so_far : List NamedFact) (f : NamedFact) (left : Bool)
    → (list_any t (cond b so_far (so_far ++ f ∷ [])) || left) ≡ true
    → (list_any t so_far || (t f || left)) ≡ true
new_one t true so_far f left h = or_between (list_any t so_far) (t f) left h
new_one t false so_far f left h =
    or_moved (list_any t so_far) (t f) left
    (sym (ap (λ b. b || left) (list_any-append t so_far (f ∷ []))) ∙ h)

new_some : (t : NamedFact → Bool) (waived : List WaivedLine) (so_far facts : List NamedFact)
    → list_any t (fold (with_new waived) so_far facts) ≡ true
    → (list_any t so_far || list_any t facts) ≡ true
new_some t waived so_far [] h = ap (λ b. b || false) h
new_some t waived so_far (f ∷ facts) h =
    new_one t (is_waived waived f || list_any (same_fact f) so_far) so_far f (list_any t facts)
    (new_some t waived (with_new waived so_far f) facts h)

-- ---- what is waived is forbidden

abbrev Kept : Demands → Type 0
Kept so_far =
    (f : NamedFact)
    → is_waived so_far.waived f ≡ true
    → list_any (same_fact f) (facts_of (forbidding so_far.lines)) ≡ true

-- the lines of a name are among those that forbid
any_named : (t : NamedFact → Bool) (name : List ℕ) (lines : List FactLine)
    → list_any t (facts_of (filter (has_name name) lines)) ≡ true
    → list_any t (facts_of (forbidding lines)) ≡ true
any_named t name lines h =
    any_line t (has_name name) (forbidding lines)
    (ap (λ ls. list_any t (facts_of ls)) (named_forbids name lines) ∙ h)

named_any : (t : NamedFact → Bool) (n : ℕ) (name : List ℕ) (lines : List FactLine)
    (named : List NamedFact)
    → named_facts n name lines ≡ Ok named
    → list_any t named ≡ true
    → list_any t (facts_of (forbidding lines)) ≡ true
named_any t n name lines named e h =
    let found = passed (list_any (has_name name) lines) (UnknownName n)
    (Ok (facts_of (filter (has_name name) lines))) named e in
    any_named t name lines
    (ap (list_any t) (ok_is (facts_of (filter (has_name name) lines)) named found.1) ∙ h)

those_any : (t : NamedFact → Bool) (so_far : Demands) (n : ℕ) (product : Option Product)
    (facts those : List NamedFact)
    → waived_of so_far n product facts ≡ Ok those
    → list_any t those ≡ true
    → list_any t facts ≡ true
those_any t so_far n None facts those e h = ap (list_any t) (ok_is facts those e) ∙ h
those_any t so_far n (Some product) facts those e h =
    let step = bind_ok (rows_of false so_far.known n product)
    (λ rows. Ok (filter (is_in (rights_in product) rows) facts)) those e in
    any_filter t (is_in (rights_in product) step.0) facts
    (ap (list_any t) (ok_is (filter (is_in (rights_in product) step.0) facts) those step.2) ∙ h)

waive_kept : (so_far after : Demands) (n : ℕ) (name : List ℕ) (product : Option Product)
    (because : List ℕ)
    → Kept so_far
    → add_waive so_far n name product because ≡ Ok after
    → Kept after
waive_kept so_far after n name product because kept e =
    let named = bind_ok (named_facts n name so_far.lines) _ after e in
    let those = bind_ok (waived_of so_far n product named.0) _ after named.2 in
    let some = bind_ok (filled n those.0) _ after those.2 in
    let count = bind_ok (counted n so_far.count (new_facts so_far.waived some.0)) _ after some.2 in
    let same = chosen (nat_eq (length those.0) 0) (Empty n) those.0 some.0 some.1 in
    let line : WaivedLine = record {
      number = n;
      name = name;
      because = because;
      facts = new_facts so_far.waived some.0;
    } in
    subst Kept (ok_is _ after count.2) (λ f h. elim (or_either (is_waived so_far.waived f)
    (is_of_waiver f line) (sym (list_any-append (is_of_waiver f) so_far.waived (line ∷ [])) ∙ h)) [
      | inl old ↦ kept f old
      | inr new ↦ named_any (same_fact f) n name so_far.lines named.0 named.1
          (those_any (same_fact f) so_far n product named.0 those.0 those.1
          (ap (list_any (same_fact f)) same
          ∙ new_some (same_fact f) so_far.waived [] some.0 new))
    ])

facts_kept : (expects : Bool) (so_far after : Demands) (n : ℕ) (name : Option (List ℕ))
    (product : Product)
    → Kept so_far
    → add_facts expects so_far n name product ≡ Ok after
    → Kept after
facts_kept expects so_far after n name product kept e =
    let facts = bind_ok (product_facts expects so_far.known n product) _ after e in
    let count = bind_ok (counted n so_far.count facts.0) _ after facts.2 in
    subst Kept (ok_is _ after count.2)
    (λ f h. any_longer (same_fact f) so_far.lines _ (kept f h))

group_kept : (so_far after : Demands) (n : ℕ) (group : List ℕ) (tasks : Tasks)
    → Kept so_far
    → add_group so_far n group tasks ≡ Ok after
    → Kept after
group_kept so_far after n group tasks kept e =
    let stood = bind_ok (group_stands so_far.known n group tasks) _ after e in
    subst Kept (ok_is _ after stood.2) kept

set_kept : (so_far after : Demands) (n : ℕ) (set : List ℕ) (classes : List WideClass)
    → Kept so_far
    → add_set so_far n set classes ≡ Ok after
    → Kept after
set_kept so_far after n set classes kept e =
    let stood = bind_ok (set_stands so_far.known n set classes) _ after e in
    subst Kept (ok_is _ after stood.2) kept

says_kept : (so_far after : Demands) (n : ℕ) (line : PolicySays)
    → Kept so_far
    → says_more so_far n line ≡ Ok after
    → Kept after
says_kept so_far after n (says.Group group tasks) kept e =
    group_kept so_far after n group tasks kept e
says_kept so_far after n (says.Set set classes) kept e =
    set_kept so_far after n set classes kept e
says_kept so_far after n (says.Forbid name product) kept e =
    facts_kept false so_far after n name product kept e
says_kept so_far after n (says.Expect name product) kept e =
    facts_kept true so_far after n name product kept e
says_kept so_far after n (says.Waive name product because) kept e =
    waive_kept so_far after n name product because kept e

lines_kept : (so_far after : Demands) (lines : List (Line PolicySays))
    → Kept so_far
    → each add_line so_far lines ≡ Ok after
    → Kept after
lines_kept so_far after [] kept e = subst Kept (ok_is so_far after e) kept
lines_kept so_far after (line ∷ lines) kept e =
    let step = bind_ok (add_line so_far line) (λ more. each add_line more lines) after e in
    lines_kept step.0 after lines
    (says_kept so_far step.0 line.number line.says kept step.1) step.2

pub waived_is_forbidden : WaivedIsForbidden
waived_is_forbidden = λ known lines stands f e h.
    let all = bind_ok (each add_line (nothing_demanded known) lines) _ stands e in
    let kept = lines_kept (nothing_demanded known) all.0 lines (λ f none. absurd cc) all.1 in
    let same = ok_is _ stands all.2 in
    subst (λ (s : PolicyStands). is_waived s.waived f ≡ true
    → list_any (same_fact f) (facts_of (forbidding s.lines)) ≡ true) same (kept f) h
