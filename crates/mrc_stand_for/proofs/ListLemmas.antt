-- What lists of tasks and of births have, and that the tasks stay once they are closed.
use Rattle.std.proofs.Common.{◌≡◌, ◌+◌, ◌<◌, ◌&&◌, ◌||◌, ℕ, Bool, true, false, List, []}
use Rattle.std.proofs.Common.{◌∷◌, length, get_or, refl, sym, ap, ◌∙◌, subst, arith, Contains}
use Rattle.std.proofs.Common.{Ok, Err}
use Rattle.std.proofs.Math.Bool.{or-false}
use Rattle.std.specs.Prelude.{not, bytes_eq, nat_eq, if◌then◌else◌}
use Rattle.std.specs.List.{range_with_len}
use Rattle.std.proofs.lemmas.Slice.Eq.{bytes_eq-Decides}
use Rattle.std.proofs.lemmas.Map.Views.{any-filter_same}
use Rattle.std.proofs.lemmas.List.FromFn.{length-range_with_len, get_or-range_with_len}
use Rattle.mrc_base.specs.Limits.{limit_of_kinds}
use Rattle.mrc_wiring_text.specs.declared.policy.ClassName.TheVariants as class
use Rattle.mrc_stand_for.specs.declared.faults.StandFault.TheVariants.{Empty}
use Rattle.mrc_stand_for.specs.declared.known.Known.{Known}
use Rattle.mrc_stand_for.specs.Once.{is_among}
use Rattle.mrc_stand_for.specs.Known.{has_kind, births_classes, kind_classes}
use Rattle.mrc_stand_for.specs.Lists.{all_but}
use Rattle.mrc_stand_for.specs.Steps.{filled}
use Rattle.mrc_stand_for.specs.ListLaws.{AllButAreTheOthers, OthersAreNotTheHolder, AnyHasEachKind}
use Rattle.mrc_stand_for.proofs.ProductLemmas.{first_in, lists_from}

pub all_but_are_the_others : AllButAreTheOthers
all_but_are_the_others = λ known left name.
    any-filter_same (bytes_eq name) (λ task. not (is_among task left)) (not (is_among name left))
    (λ task same. ap (λ t. not (is_among t left)) (sym ((bytes_eq-Decides name task).0 same)))
    known.tasks

-- what a test that refuses lets pass
pub chosen : {A F : Type 0} (b : Bool) (fault : F) (x y : A)
    → (if b then Err fault else Ok x) ≡ Ok y → x ≡ y
chosen true fault x y e = absurd cc
chosen false fault x y e = cc

-- a list that stands for something is as it was
filled_is : {A : Type 0} (n : ℕ) (xs ys : List A) → filled n xs ≡ Ok ys → xs ≡ ys
filled_is n xs ys e = chosen (nat_eq (length xs) 0) (Empty n) xs ys e

pub others_are_not_the_holder : OthersAreNotTheHolder
others_are_not_the_holder = λ known n holder others name is.
    ap (is_among name) (sym (filled_is n (all_but known (holder ∷ [])) others is))
    ∙ all_but_are_the_others known (holder ∷ []) name
    ∙ ap (λ b. not b && is_among name known.tasks) (or-false (bytes_eq name holder))

-- a number below n is among the first n numbers
number_in : (n k : ℕ) → k < n → Contains (range_with_len 0 n) k
number_in n k less =
    let len = length-range_with_len 0 n in
    let at : get_or (range_with_len 0 n) k k ≡ k =
    get_or-range_with_len 0 n k k less ∙ (let e : 0 + k ≡ k = omega arith in e) in
    (k, (let l : k < length (range_with_len 0 n) = omega (arith, len) in l), at)

kind_in : (known : Known) (task : List ℕ) (kind : ℕ) → has_kind known task kind ≡ true
    → Contains (kind_classes known task kind) (class.Births task kind)
kind_in known task kind has =
    subst (λ b. Contains (if b then births_classes known task kind else [])
    (class.Births task kind)) (sym has) (first_in (class.Births task kind) _)

pub any_has_each_kind : AnyHasEachKind
any_has_each_kind = λ known task kind less has.
    lists_from (kind_classes known task) (range_with_len 0 limit_of_kinds) kind
    (class.Births task kind) (number_in limit_of_kinds kind less) (kind_in known task kind has)
