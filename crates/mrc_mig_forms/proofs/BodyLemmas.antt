-- The bodies of a routine to which nothing objects fit a form.
use Rattle.std.proofs.Common.{◌≡◌, ◌≤◌, ℕ, ◌+◌, Bool, true, false, List, [], ◌∷◌, ◌++◌, length}
use Rattle.std.proofs.Common.{Option, Some, None, refl, ap, subst, ◌∙◌, arith, if◌then◌else◌}
use Rattle.std.proofs.Common.{length-append}
use Rattle.std.specs.Prelude.{◌&&◌, not, nat_lt}
use Rattle.std.specs.List.{list_all, flat_map}
use Rattle.std.proofs.lemmas.Bool.{ltb-true}
use Rattle.mrc_base.specs.Limits.{limit_of_arguments}
use Rattle.mrc_mig_bodies.specs.declared.kinds.RoutineKind.{RoutineKind}
use Rattle.mrc_mig_bodies.specs.declared.kinds.RoutineKind.TheVariants as kinds
use Rattle.mrc_mig_bodies.specs.declared.objections.LeftOutWord.TheVariants as words
use Rattle.mrc_mig_bodies.specs.Bodies.{Item, CountOf, form_by}
use Rattle.mrc_mig_bodies.specs.Bodies.{argument_item, request_items, reply_items, request_body}
use Rattle.mrc_mig_bodies.specs.Bodies.{reply_body, reply_begins, is_in_request, is_in_reply}
use Rattle.mrc_mig_bodies.specs.Bodies.{has_count}
use Rattle.mrc_mig_bodies.specs.Listed.{objections, first_of, port_objections, each_objections}
use Rattle.mrc_mig_bodies.specs.Listed.{objections_to, when, IsFirstOf}
use Rattle.mrc_mig_bodies.specs.Parameters.{Parameter}
use Rattle.mrc_mig_bodies.specs.Roles.{request_port, settled}
use Rattle.mrc_mig_bodies.proofs.FirstLemmas.{is_first}
use Rattle.mrc_mig_types.specs.declared.meaning.Meaning.{Meaning}
use Rattle.mrc_mig_types.specs.declared.shapes.By.{By}
use Rattle.mrc_mig_forms.specs.Bodies.{body, is_code}
use Rattle.mrc_mig_forms.specs.Bounds.{BodyFits, item_fits, meant_fits}
use Rattle.mrc_mig_forms.proofs.ShapeLemmas.{shape_kept}

-- two lists of which nothing comes
parts_are_none : {X : Type 0} (xs ys : List X) → xs ++ ys ≡ [] → (xs ≡ []) × (ys ≡ [])
parts_are_none [] ys e = (refl, e)
parts_are_none (x ∷ xs) ys e = absurd cc

-- a routine to which nothing objects has 32 arguments at most
few_step : (kind : RoutineKind) (judged : By) (earlier : List Parameter) (a : Parameter)
    (later : List Parameter) (fits : Bool) → nat_lt (length earlier) limit_of_arguments ≡ fits
    → (length (earlier ++ a ∷ []) ≤ limit_of_arguments
    → each_objections kind judged (earlier ++ a ∷ []) later ≡ []
    → length (earlier ++ a ∷ []) + length later ≤ limit_of_arguments)
    → (if fits then objections_to kind judged earlier a
    ++ each_objections kind judged (earlier ++ a ∷ []) later
    else when true a.at words.TooMany) ≡ []
    → length earlier + length (a ∷ later) ≤ limit_of_arguments
few_step kind judged earlier a later false test few e = absurd cc
few_step kind judged earlier a later true test few e =
    let less = ltb-true (length earlier) limit_of_arguments test in
    let one : length (earlier ++ a ∷ []) ≡ length earlier + 1 = length-append earlier (a ∷ []) in
    let all = few (omega (arith, less, one)) (parts_are_none (objections_to kind judged earlier a)
    (each_objections kind judged (earlier ++ a ∷ []) later) e).1 in
    omega (arith, all, one)

few_each : (kind : RoutineKind) (judged : By) (earlier later : List Parameter)
    → length earlier ≤ limit_of_arguments
    → each_objections kind judged earlier later ≡ []
    → length earlier + length later ≤ limit_of_arguments
few_each kind judged earlier [] le e = omega (arith, le)
few_each kind judged earlier (a ∷ later) le e =
    few_step kind judged earlier a later (nat_lt (length earlier) limit_of_arguments) refl
    (few_each kind judged (earlier ++ a ∷ []) later) e

pub few_arguments : (kind : RoutineKind) (judged : By) (end_at : ℕ) (arguments : List Parameter)
    → first_of (objections kind judged end_at arguments) ≡ None
    → length (settled arguments) ≤ limit_of_arguments
few_arguments kind judged end_at arguments none =
    let e : objections kind judged end_at arguments ≡ [] =
    subst (IsFirstOf (objections kind judged end_at arguments)) none
    (is_first (objections kind judged end_at arguments)) in
    let few = few_each kind judged [] (settled arguments) (omega arith)
    (parts_are_none (port_objections (request_port arguments) end_at)
    (each_objections kind judged [] (settled arguments)) e).1 in
    omega (arith, few)

-- what an argument puts into a body: nothing, or an item that fits
data Small : List Item → Type 0 where
  none : Small []
  one : (item : Item) → item_fits item ≡ true → Small (item ∷ [])

form_fits : (found : Option Meaning) (judged : By) → meant_fits (form_by found judged) ≡ true
form_fits None judged = refl
form_fits (Some meaning) judged = (shape_kept meaning judged).fits

request_by : (judged : By) (a : Parameter) (b c : Bool)
    → Small (if b then argument_item judged a ∷ [] else if c then CountOf a.name ∷ [] else [])
request_by judged a true c = one (argument_item judged a) (form_fits a.meaning judged)
request_by judged a false true = one (CountOf a.name) refl
request_by judged a false false = none

reply_by : (judged : By) (a : Parameter) (b : Bool)
    → Small (if b then argument_item judged a ∷ [] else [])
reply_by judged a true = one (argument_item judged a) (form_fits a.meaning judged)
reply_by judged a false = none

-- so many arguments put so many items into a body, at most
abbrev Fits : ℕ → List Item → Type 0
Fits n items = (length (body items) ≤ n) × (list_all item_fits items ≡ true)

with_one : (item : Item) (items : List Item) (n : ℕ) (b : Bool)
    → length (body items) ≤ n
    → length (if b then item ∷ body items else body items) ≤ n + 1
with_one item items n true le = omega (arith, le)
with_one item items n false le = omega (arith, le)

with_small : (items others : List Item) (n : ℕ) → Small items → Fits n others
    → Fits (n + 1) (items ++ others)
with_small items others n none fits = (let le = fits.0 in omega (arith, le), fits.1)
with_small items others n (one item is) fits = (
  with_one item others n (not (is_code item)) fits.0,
  ap (λ b. b && list_all item_fits others) is
      ∙ fits.1,
)

all_small : (put : Parameter → List Item) → ((a : Parameter) → Small (put a))
    → (arguments : List Parameter) → Fits (length arguments) (flat_map put arguments)
all_small put small [] = (omega arith, refl)
all_small put small (a ∷ later) =
    let fits = with_small (put a) (flat_map put later) (length later) (small a)
    (all_small put small later) in
    (let le = fits.0 in omega (arith, le), fits.1)

-- a body of so many items at most
body_fits : (n : ℕ) (items : List Item) → n ≤ limit_of_arguments → Fits n items → BodyFits items
body_fits n items le fits = record {
  few = let few = fits.0 in omega (arith, le, few);
  fit = fits.1;
}

pub request_fits : (kind : RoutineKind) (judged : By) (arguments : List Parameter)
    → length (settled arguments) ≤ limit_of_arguments
    → BodyFits (request_body kind judged arguments)
request_fits kind judged arguments le =
    body_fits (length (settled arguments)) (request_body kind judged arguments) le
    (all_small (request_items kind judged)
    (λ a. request_by judged a (is_in_request a.role) (has_count kind a)) (settled arguments))

pub reply_fits : (kind : RoutineKind) (judged : By) (arguments : List Parameter)
    → length (settled arguments) ≤ limit_of_arguments
    → BodyFits (reply_body kind judged arguments)
reply_fits kind judged arguments le = by kind
    (body_fits (length (settled arguments)) (flat_map (reply_items kind judged) (settled arguments))
    le (all_small (reply_items kind judged) (λ a. reply_by judged a (is_in_reply kind a.role))
    (settled arguments)))
  where
    by : (other : RoutineKind)
        → BodyFits (flat_map (reply_items kind judged) (settled arguments))
        → BodyFits (reply_begins other ++ flat_map (reply_items kind judged) (settled arguments))
    by kinds.Routine fits = record { few = fits.few; fit = fits.fit }
    by kinds.Simple fits = fits
