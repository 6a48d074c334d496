-- The lines of a policy that forbid a fact of the least set, the trusted task that another could
-- rewrite by it, and what follows for the verdict.
use Rattle.std.proofs.Common.{◌≡◌, ℕ, ◌+◌, ◌<◌, ◌≤◌, Bool, true, false, List, [], ◌∷◌, ◌++◌}
use Rattle.std.proofs.Common.{inl, inr, length}
use Rattle.std.proofs.Common.{map, take, get_or, refl, sym, ap, subst, ◌∙◌, arith}
use Rattle.std.proofs.Common.{Option, Some, None, cond, not}
use Rattle.std.proofs.Math.Path.{fun_ext}
use Rattle.std.specs.Prelude.{filter, if◌then◌else◌, IfSome, ◌==◌, ◌&&◌, nat_lt}
use Rattle.std.proofs.lemmas.Bool.{cases_Bool, false≢true}
use Rattle.std.specs.List.{All}
use Rattle.std.proofs.lemmas.List.Elements.{filter_more, All-push}
use Rattle.std.proofs.lemmas.List.{append-nil, map-append, take_all}
use Rattle.std.proofs.lemmas.Bool.{false_from_ne_true}
use Rattle.mrc_base.specs.declared.Fact.{Fact}
use Rattle.mrc_base.specs.declared.Fact.TheVariants.{Hold}
use Rattle.mrc_base.specs.declared.PortRight.TheVariants.{Send}
use Rattle.mrc_model.specs.IsIn.{IsIn, here, later}
use Rattle.mrc_model.specs.Wiring.{Wiring, kernel_class}
use Rattle.mrc_model.specs.Breach.{Forbid}
use Rattle.mrc_model.specs.Rules.{Has, IsLeast, ForbidsNone, Least}
use Rattle.mrc_model.proofs.Members.{in_filter, filter_in, in_right}
use Rattle.mrc_model.proofs.Few.{same_if}
use Rattle.mrc_wiring.specs.declared.claim.ForbiddenLine.{ForbiddenLine}
use Rattle.mrc_wiring.specs.Claims.{Claimed, holding_of, policy_of}
use Rattle.mrc_wiring.specs.Table.{Table, wiring_of}
use Rattle.mrc_facts.specs.Sets.{has}
use Rattle.mrc_closure.specs.declared.chains.Step.{Step}
use Rattle.mrc_closure.specs.Chains.{IsChain}
use Rattle.mrc_closure.proofs.Placing.{chains_are_least}
use Rattle.mrc_check.specs.declared.demands.Demand.{Demand}
use Rattle.mrc_check.specs.Demands.{is_forbidden, is_forbidden_by, holding_in, forbidden_in}
use Rattle.mrc_wide_policy.specs.declared.asked.Stance.{Stance}
use Rattle.mrc_wide_policy.specs.declared.asked.Stance.TheVariants.{Forbidden, Waived, Expected}
use Rattle.mrc_check.specs.Texts.{Stated}
use Rattle.mrc_check.specs.Trusted.{AreSecure, IsExposed, is_bound, may_rewrite}
use Rattle.mrc_why.specs.Answered.{AreTold, IsMet, are_met, is_told, is_told_by, told}
use Rattle.mrc_why.specs.Broken.{BrokenLine, forbidden_fact, is_broken, broken_lines, line_of}
use Rattle.mrc_why.specs.Broken.{AreBroken, IsDerivedIn, HasYes, HasNoYes, IsJudged, ExposedTask}
use Rattle.mrc_why.specs.Broken.{IsFirstExposed, IsExposedOf, IsReached, IsFound, is_yes}
use Rattle.mrc_why.specs.Derived.{Derived}

-- there is one least set
pub least_one : (W : Wiring) (S T : Fact → Bool) → IsLeast W S → IsLeast W T → S ≡ T
least_one W S T x y =
    fun_ext (λ f. same_if (S f) (T f) (λ h. x.least f h T y.closed) (λ h. y.least f h S x.closed))

-- what is told of one least set is so of each
pub told_of_each : (claim : Claimed) (facts : List Fact) (told : List BrokenLine)
    → IsLeast (wiring_of claim.table) (has facts)
    → map line_of told ≡ broken_lines (has facts) claim.lines
    → AreBroken claim told
told_of_each claim facts told least is set other =
    is ∙ ap (λ (s : Fact → Bool). broken_lines s claim.lines)
    (least_one (wiring_of claim.table) (has facts) set least other)

-- and so are the demands of a policy that are told of one
pub demands_of_each : (stated : Stated) (facts : List Fact) (demands : List Demand)
    → IsLeast (wiring_of stated.claim.table) (has facts)
    → demands ≡ told (has facts) stated.demands
    → AreTold stated demands
demands_of_each stated facts demands least is set other =
    is ∙ ap (λ (s : Fact → Bool). told s stated.demands)
    (least_one (wiring_of stated.claim.table) (has facts) set least other)

-- and whether they are met
pub met_of_each : (stated : Stated) (facts : List Fact) (demands : List Demand)
    → IsLeast (wiring_of stated.claim.table) (has facts)
    → demands ≡ told (has facts) stated.demands
    → IsMet stated (are_met demands)
met_of_each stated facts demands least is set other =
    ap are_met (sym (demands_of_each stated facts demands least is set other))

-- a holding that is forbidden and there is told
told_if : (set : Fact → Bool) (waives : Bool) (stance : Stance) (there : Bool)
    → is_forbidden_by waives stance ≡ true
    → there ≡ true
    → is_told_by stance there ≡ true
told_if set waives Forbidden there forbids holds = holds
told_if set waives (Waived n) there forbids holds = holds
told_if set waives Expected there forbids holds = absurd (false≢true forbids)

-- so if a line is broken, a demand is told
pub broken_are_told : (set : Fact → Bool) (waives : Bool) (demands : List Demand)
    → told set demands ≡ []
    → broken_lines set (forbidden_in waives demands) ≡ []
broken_are_told set waives [] none = refl
broken_are_told set waives (d ∷ demands) none =
    elim (cases_Bool (is_told set d)) [
      | inl is ↦ absurd (cons_is_nil d (told set demands)
          (sym (ap (λ b. cond b (d ∷ told set demands) (told set demands)) is) ∙ none))
      | inr not_told ↦
          let rest = broken_are_told set waives demands
          (sym (ap (λ b. cond b (d ∷ told set demands) (told set demands)) not_told) ∙ none) in
          elim (cases_Bool (is_forbidden waives d)) [
            | inl forbids ↦
                let lacks : is_broken set d.holding ≡ false = false_from_ne_true _ (λ there.
                false≢true (sym not_told ∙ told_if set waives d.stance (is_broken set d.holding)
                forbids there)) in
                ap (λ b. broken_lines set (map holding_in (cond b (d ∷ filter (is_forbidden waives)
                demands) (filter (is_forbidden waives) demands)))) forbids
                ∙ ap (λ b. cond b (d.holding ∷ broken_lines set (forbidden_in waives demands))
                (broken_lines set (forbidden_in waives demands))) lacks ∙ rest
            | inr lets ↦
                ap (λ b. broken_lines set (map holding_in (cond b (d ∷ filter (is_forbidden waives)
                demands) (filter (is_forbidden waives) demands)))) lets ∙ rest
          ]
    ]
  where
    cons_is_nil : (x : Demand) (xs : List Demand) → x ∷ xs ≡ [] → ⊥
    cons_is_nil x xs e = absurd cc

pub exposed_of_each : (claim : Claimed) (facts : List Fact) (exposed : Option ExposedTask)
    → IsLeast (wiring_of claim.table) (has facts)
    → IsFirstExposed claim.table (has facts) exposed
    → IsExposedOf claim exposed
exposed_of_each claim facts exposed least is set other =
    subst (λ (s : Fact → Bool). IsFirstExposed claim.table s exposed)
    (least_one (wiring_of claim.table) (has facts) set least other) is

-- what a chain derives is in the least set
pub derived_has : (W : Wiring) (facts : List Fact) (f : Fact) (steps : List Step)
    → IsLeast W (has facts)
    → IsChain W f steps
    → has facts f ≡ true
derived_has W facts f steps least chain =
    chains_are_least W f steps chain (has facts) least.closed

-- and what is not in every closed set is not
pub outside_lacks : (W : Wiring) (facts : List Fact) (f : Fact)
    → IsLeast W (has facts)
    → (Least W f → ⊥)
    → has facts f ≡ false
outside_lacks W facts f least none = false_from_ne_true (has facts f) (λ h. none (least.least f h))

-- a line more
pub line_told : (p : ForbiddenLine → Bool) (lines told : List ForbiddenLine) (i : ℕ)
    (line : ForbiddenLine)
    → i < length lines
    → line ≡ get_or lines i line
    → told ≡ filter p (take i lines)
    → p line ≡ true
    → told ++ line ∷ [] ≡ filter p (take (i + 1) lines)
line_told p lines told i line less is so_far broken =
    ap (λ ls. ls ++ line ∷ []) so_far
    ∙ ap (λ ls. filter p (take i lines) ++ ls)
    (sym (ap (λ l. if p l then l ∷ [] else []) (sym is)
    ∙ ap (λ b. if b then line ∷ [] else []) broken))
    ∙ sym (filter_more p lines i line less)

pub line_passed : (p : ForbiddenLine → Bool) (lines told : List ForbiddenLine) (i : ℕ)
    (line : ForbiddenLine)
    → i < length lines
    → line ≡ get_or lines i line
    → told ≡ filter p (take i lines)
    → p line ≡ false
    → told ≡ filter p (take (i + 1) lines)
line_passed p lines told i line less is so_far kept =
    so_far
    ∙ sym (append-nil (filter p (take i lines)))
    ∙ ap (λ ls. filter p (take i lines) ++ ls)
    (sym (ap (λ l. if p l then l ∷ [] else []) (sym is)
    ∙ ap (λ b. if b then line ∷ [] else []) kept))
    ∙ sym (filter_more p lines i line less)

map_in : {X Y : Type 0} (f : X → Y) (x : X) (xs : List X) → IsIn x xs → IsIn (f x) (map f xs)
map_in f x [] h = elim h [ ]
map_in f x (y ∷ xs) (here) = here
map_in f x (y ∷ xs) (later h) = later (map_in f x xs h)

-- an element of what is made of a list
record IsImage {X Y : Type 0} (f : X → Y) (y : Y) (xs : List X) : Type 0 where
  pub x : X
  pub among : IsIn x xs
  pub is : f x ≡ y

in_map : {X Y : Type 0} (f : X → Y) (y : Y) (xs : List X) → IsIn y (map f xs) → IsImage f y xs
in_map f y [] h = elim h [ ]
in_map f y (x ∷ xs) (here) = record { x = x; among = here; is = refl }
in_map f y (x ∷ xs) (later h) =
    let rest = in_map f y xs h in
    record { x = rest.x; among = later rest.among; is = rest.is }

-- if no task could rewrite a trusted one and no line is broken, the least set is accepted
yes_of_none : (claim : Claimed) (facts : List Fact)
    → IsLeast (wiring_of claim.table) (has facts)
    → AreSecure (wiring_of claim.table) (has facts) claim.table.trusts
    → broken_lines (has facts) claim.lines ≡ []
    → HasYes claim
yes_of_none claim facts least secure none = (
  facts,
  record {
    least = least;
    secure = secure;
    says = record { closed = least.closed; allowed = allowed };
  },
)
  where
    p : ForbiddenLine → Bool
    p = is_broken (has facts)

    nothing : (line : ForbiddenLine) → IsIn line [] → ⊥
    nothing line h = elim h [ ]

    allowed : ForbidsNone (policy_of claim) (Has (has facts))
    allowed l among held =
        let at = in_map holding_of l claim.lines among in
        let has_it : p at.x ≡ true = subst (λ (h : Forbid). Has (has facts)
        (Hold h.task h.class h.right))
        (sym at.is) held in
        nothing at.x (subst (IsIn at.x) none (filter_in p at.x claim.lines at.among has_it))

first_in : {X : Type 0} (xs : List X) → 0 < length xs → (x : X) × IsIn x xs
first_in [] less = absurd (omega arith)
first_in (x ∷ xs) less = (x, here)

-- if a line is broken, no set is accepted
no_of_some : (claim : Claimed) (facts : List Fact)
    → IsLeast (wiring_of claim.table) (has facts)
    → 0 < length (broken_lines (has facts) claim.lines)
    → HasNoYes claim
no_of_some claim facts least some set says secure =
    let first = first_in (broken_lines (has facts) claim.lines) some in
    let at = in_filter (is_broken (has facts)) first.0 claim.lines first.1 in
    says.allowed (holding_of first.0) (map_in holding_of first.0 claim.lines at.0)
    (least.least (forbidden_fact first.0) at.1 set says.closed)

all_still : (low same_if bound held after : Bool)
    → (low && (not same_if && (not bound && held))) ≡ true
    → (held ≡ true → after ≡ true)
    → (low && (not same_if && (not bound && after))) ≡ true
all_still true false false true after all more = more refl
all_still true false false false after all more = absurd (false≢true all)
all_still true false true held after all more = absurd (false≢true all)
all_still true true bound held after all more = absurd (false≢true all)
all_still false same_if bound held after all more = absurd (false≢true all)

held_by : (low same_if bound held : Bool) → (low && (not same_if && (not bound && held))) ≡ true
    → held ≡ true
held_by true false false held all = all
held_by true false true held all = absurd (false≢true all)
held_by true true bound held all = absurd (false≢true all)
held_by false same_if bound held all = absurd (false≢true all)

-- a task that may rewrite another by a set may do so by a larger one
may_still : (W : Wiring) (S T : Fact → Bool) (t u : ℕ) → may_rewrite W S t u ≡ true
    → (S (Hold u (kernel_class W t) Send) ≡ true → T (Hold u (kernel_class W t) Send) ≡ true)
    → may_rewrite W T t u ≡ true
may_still W S T t u may more =
    all_still (nat_lt t W.tasks) (u == t) (is_bound W u) (S (Hold u (kernel_class W t) Send))
    (T (Hold u (kernel_class W t) Send)) may more

-- and if another task could rewrite a trusted one by the least set, it could by each closed set
pub no_of_exposed : (claim : Claimed) (facts : List Fact) (n : ℕ) (f : Fact)
    → IsLeast (wiring_of claim.table) (has facts)
    → IsExposed claim.table (has facts) n f
    → HasNoYes claim
no_of_exposed claim facts n f least is set says secure =
    let W = wiring_of claim.table in
    let line_in : IsIn is.line claim.table.trusts = subst (IsIn is.line) (sym is.lines)
    (in_right is.line is.before (is.line ∷ is.behind) here) in
    let some : may_rewrite W set is.line.task is.task ≡ true = may_still W (has facts) set
    is.line.task is.task is.first.may
    (λ held. least.least (Hold is.task (kernel_class W is.line.task) Send) held set
    says.closed) in
    let none = secure is.line line_in is.task is.first.there in
    false≢true (sym none ∙ some)

-- what was found by derivations that stayed as they were
pub found_by : (claim : Claimed) (table : Table) (lines : List ForbiddenLine)
    (first next last : Derived) (facts : List Fact) (exposed : Option ExposedTask)
    (told : List BrokenLine)
    → table ≡ claim.table
    → lines ≡ claim.lines
    → first.table ≡ table
    → IsLeast (wiring_of table) (has first.facts)
    → next ≡ first
    → last ≡ next
    → facts ≡ last.facts
    → IsFirstExposed first.table (has first.facts) exposed
    → IfSome exposed (IsReached first.table)
    → map line_of told ≡ broken_lines (has next.facts) lines
    → All (IsDerivedIn next.table) told
    → IsFound claim facts exposed told
found_by claim table lines first next last facts exposed told of_claim its_lines of_table least
    to_next to_last of_last is_first chain are chains =
    let next_facts : next.facts ≡ first.facts = ap (λ (d : Derived). d.facts) to_next in
    let same_facts : first.facts ≡ facts = sym (of_last ∙ ap (λ (d : Derived). d.facts) to_last
    ∙ next_facts) in
    let of_first : first.table ≡ claim.table = of_table ∙ of_claim in
    let of_next : next.table ≡ claim.table = ap (λ (d : Derived). d.table) to_next ∙ of_first in
    record {
      least = subst (λ (t : Table). IsLeast (wiring_of t) (has facts)) of_claim
          (subst (λ (fs : List Fact). IsLeast (wiring_of table) (has fs)) same_facts least);
      first = subst (λ (t : Table). IsFirstExposed t (has facts) exposed) of_first
          (subst (λ (fs : List Fact). IsFirstExposed first.table (has fs) exposed) same_facts
          is_first);
      chain = subst (λ (t : Table). IfSome exposed (IsReached t)) of_first chain;
      lines = are ∙ ap (λ (fs : List Fact). broken_lines (has fs) lines)
          (next_facts ∙ same_facts) ∙ ap (broken_lines (has facts)) its_lines;
      chains = subst (λ (t : Table). All (IsDerivedIn t) told) of_next chains;
    }

-- what is found is a yes
pub yes_found : (claim : Claimed) (facts : List Fact) (exposed : Option ExposedTask)
    (told : List BrokenLine)
    → IsLeast (wiring_of claim.table) (has facts)
    → IsFirstExposed claim.table (has facts) exposed
    → map line_of told ≡ broken_lines (has facts) claim.lines
    → is_yes exposed told ≡ true
    → HasYes claim
yes_found claim facts None [] least secure lines is =
    yes_of_none claim facts least secure (sym lines)
yes_found claim facts None (b ∷ told) least secure lines is = absurd (false≢true is)
yes_found claim facts (Some x) told least exposed lines is = absurd (false≢true is)

-- or it is not
pub no_found : (claim : Claimed) (facts : List Fact) (exposed : Option ExposedTask)
    (told : List BrokenLine)
    → IsLeast (wiring_of claim.table) (has facts)
    → IsFirstExposed claim.table (has facts) exposed
    → map line_of told ≡ broken_lines (has facts) claim.lines
    → is_yes exposed told ≡ false
    → HasNoYes claim
no_found claim facts None [] least secure lines is = absurd (false≢true (sym is))
no_found claim facts None (b ∷ told) least secure lines is =
    no_of_some claim facts least (subst (λ ls. 0 < length ls) lines (omega arith))
no_found claim facts (Some x) told least exposed lines is =
    no_of_exposed claim facts x.line x.fact least exposed

-- a line was judged
pub judged : (d : Derived) (lines : List ForbiddenLine) (i : ℕ) (line : ForbiddenLine)
    (before after : List BrokenLine)
    → i < length lines
    → line ≡ get_or lines i line
    → IsJudged d line before after
    → map line_of before ≡ broken_lines (has d.facts) (take i lines)
    → All (IsDerivedIn d.table) before
    → (map line_of after ≡ broken_lines (has d.facts) (take (i + 1) lines))
    × All (IsDerivedIn d.table) after
judged d lines i line before after less is (inl x) so_far chains =
    let b : BrokenLine = record { line = line; steps = x.1.steps } in (
      ap (map line_of) x.1.pushed
          ∙ map-append line_of before (b ∷ [])
          ∙ line_told (is_broken (has d.facts)) lines (map line_of before) i line less is so_far
          x.0,
      subst (All (IsDerivedIn d.table)) (sym x.1.pushed)
          (All-push (IsDerivedIn d.table) before b chains x.1.derives),
    )
judged d lines i line before after less is (inr x) so_far chains = (
  ap (map line_of) x.1
      ∙ line_passed (is_broken (has d.facts)) lines (map line_of before) i line less is so_far x.0,
  subst (All (IsDerivedIn d.table)) (sym x.1) chains,
)

-- all lines were
pub all_judged : (d : Derived) (lines : List ForbiddenLine) (i : ℕ) (told : List BrokenLine)
    → length lines ≤ i
    → map line_of told ≡ broken_lines (has d.facts) (take i lines)
    → map line_of told ≡ broken_lines (has d.facts) lines
all_judged d lines i told past so_far =
    so_far ∙ ap (broken_lines (has d.facts)) (take_all i lines past)

-- the hold by which a trusted task could be rewritten is in each closed set
pub exposed_is_least : (table : Table) (facts : List Fact) (n : ℕ) (f : Fact)
    → IsLeast (wiring_of table) (has facts)
    → IsExposed table (has facts) n f
    → Least (wiring_of table) f
exposed_is_least table facts n f least is =
    subst (Least (wiring_of table)) (sym is.fact)
    (least.least (Hold is.task (kernel_class (wiring_of table) is.line.task) Send)
    (held_by (nat_lt is.line.task (wiring_of table).tasks) (is.task == is.line.task)
    (is_bound (wiring_of table) is.task)
    (has facts (Hold is.task (kernel_class (wiring_of table) is.line.task) Send)) is.first.may))
