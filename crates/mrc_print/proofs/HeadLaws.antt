-- Texts that begin with `NO ` or `WAIVED `.
use Rattle.std.proofs.Common.{◌≡◌, ◌<◌, ◌+◌, ◌||◌, ◌++◌, ◌∷◌, ◌∙◌, ℕ, Bool, true, false, List, []}
use Rattle.std.proofs.Common.{Option, Some, None, inl, inr, refl, ap, subst, sym, length, take}
use Rattle.std.specs.Prelude.{◌==◌, IfSome, slice_index_or}
use Rattle.std.specs.List.{list_any}
use Rattle.std.specs.Option.{is_some}
use Rattle.std.proofs.Math.Bool.{or-false}
use Rattle.std.proofs.lemmas.List.{take_more}
use Rattle.std.proofs.lemmas.List.Folds.{list_any-append}
use Rattle.mrc_check.specs.declared.demands.Demand.{Demand}
use Rattle.mrc_why.specs.Broken.{ExposedTask}
use Rattle.mrc_answer.specs.Verified.{IsAsked, asked_task, is_asked}
use Rattle.mrc_print.specs.Heads.{IsHead, HasTold, IsNo, IsTold, IsToldIf}

-- one that does, with more behind it
pub no_more : (head more text : List ℕ) → text ≡ head ++ more → IsNo head → IsNo text
no_more head more text is (rest, begins) =
    (rest ++ more, is ∙ ap (λ h. h ++ more) begins)

-- whether a demand is asked for, by both crates' words
pub asked_so : (only : Option ℕ) (demand : Demand) (asked : Bool)
    → (only ≡ None → asked ≡ true) → IfSome only (λ number. asked ≡ (demand.holding.line == number))
    → asked ≡ is_asked only demand
asked_so None demand asked all one = all refl
asked_so (Some n) demand asked all one = one

-- one text after another
pub no_both : (one two : Bool) (a b : List ℕ) → IsToldIf one a → IsToldIf two b
    → IsToldIf (one || two) (a ++ b)
no_both true two a b (inl (rest, begins)) is = inl (rest ++ b, ap (λ h. h ++ b) begins)
no_both true two a b (inr (rest, begins)) is = inr (rest ++ b, ap (λ h. h ++ b) begins)
no_both false two a b none is = subst (λ h. IsToldIf two (h ++ b)) (sym none) is

-- lines up to one more of their places
taken_more : (lines : List Demand) (i : ℕ) (line : Demand)
    → i < length lines → line ≡ slice_index_or lines i line
    → take (i + 1) lines ≡ take i lines ++ line ∷ []
taken_more lines i line low at =
    take_more lines i line low ∙ ap (λ y. take i lines ++ y ∷ []) (sym at)

any_of : (only : Option ℕ) (lines : List Demand) (i : ℕ) (line : Demand)
    → i < length lines → line ≡ slice_index_or lines i line
    → list_any (is_asked only) (take (i + 1) lines)
    ≡ (list_any (is_asked only) (take i lines) || is_asked only line)
any_of only lines i line low at =
    ap (list_any (is_asked only)) (taken_more lines i line low at)
    ∙ list_any-append (is_asked only) (take i lines) (line ∷ [])
    ∙ ap (λ b. list_any (is_asked only) (take i lines) || b) (or-false (is_asked only line))

-- the lines up to a place, and one more
pub no_next : (only : Option ℕ) (lines : List Demand) (i : ℕ) (line : Demand)
    (text one after : List ℕ)
    → i < length lines → line ≡ slice_index_or lines i line
    → IsToldIf (list_any (is_asked only) (take i lines)) text → IsToldIf (is_asked only line) one
    → after ≡ text ++ one
    → IsToldIf (list_any (is_asked only) (take (i + 1) lines)) after
no_next only lines i line text one after low at are is then_is =
    subst (λ t. IsToldIf (list_any (is_asked only) (take (i + 1) lines)) t) (sym then_is)
    (subst (λ any. IsToldIf any (text ++ one)) (sym (any_of only lines i line low at))
    (no_both (list_any (is_asked only) (take i lines)) (is_asked only line) text one are is))

-- the head and what is asked for
pub no_whole : (asked : Bool) (before own text : List ℕ)
    → asked ≡ true → IsHead before → IsToldIf asked own → text ≡ before ++ own → HasTold text
no_whole asked before own text is head own_is whole =
    let told : IsTold own = subst (λ b. IsToldIf b own) is own_is in
    (before, own, head, told, whole)

-- what is asked for begins so behind its head
pub told_whole : (only : Option ℕ) (exposed : Option ExposedTask) (told : List Demand)
    (common task lines text : List ℕ)
    → IsAsked only exposed told → IsHead common
    → IsToldIf (is_some (asked_task only exposed)) task
    → IsToldIf (list_any (is_asked only) told) lines
    → text ≡ common ++ (task ++ lines) → HasTold text
told_whole only exposed told common task lines text asked head task_is lines_are whole =
    no_whole (is_some (asked_task only exposed) || list_any (is_asked only) told) common
    (task ++ lines) text asked head
    (no_both (is_some (asked_task only exposed)) (list_any (is_asked only) told) task lines task_is
    lines_are)
    whole
