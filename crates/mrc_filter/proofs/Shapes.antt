-- How arguments meet shapes, place by place.
use Rattle.std.proofs.Common.{◌≡◌, ℕ, ◌+◌, ◌<◌, ◌≤◌, Bool, true, false, List, [], ◌∷◌}
use Rattle.std.proofs.Common.{length, drop, cond, Option, Some, None, ap, sym, ◌∙◌}
use Rattle.std.proofs.Common.{arith, get_or}
use Rattle.std.proofs.lemmas.List.{drop_all, get_or_default}
use Rattle.mrc_model.specs.declared.Denied.{Denied}
use Rattle.mrc_model.specs.declared.Denied.TheVariants.{WrongShape}
use Rattle.mrc_model.specs.Filter.{difference, or_behind, first_difference}
use Rattle.mrc_desc.specs.declared.argument.Argument.{Argument}
use Rattle.mrc_desc.specs.View.{argument_of, arguments_of}
use Rattle.mrc_desc.proofs.Walks.{item_first}
use Rattle.mrc_model.specs.Wiring.{Shape}

-- a choice that is made
pub chosen : {X : Type 0} (b : Bool) (x y : X) → true ≡ b → cond b x y ≡ x
chosen b x y e = ap (λ c. cond c x y) (sym e)

pub not_chosen : {X : Type 0} (b : Bool) (x y : X) → false ≡ b → cond b x y ≡ y
not_chosen b x y e = ap (λ c. cond c x y) (sym e)

-- the first difference from place i on
abbrev pub differs_from : ℕ → List Shape → List Argument → Option Denied
differs_from i shapes args = first_difference i (drop i shapes) (arguments_of (drop i args))

-- one place more
pub place_turn : (i : ℕ) (shapes : List Shape) (args : List Argument) (shape : Shape)
    (a : Argument) (here all : Option Denied)
    → i < length args → a ≡ get_or args i a
    → i < length shapes → shape ≡ get_or shapes i shape
    → here ≡ difference i shape.types shape (argument_of a)
    → all ≡ differs_from i shapes args
    → all ≡ or_behind here (differs_from (i + 1) shapes args)
place_turn i shapes args shape a here all less is there said told so_far =
    so_far
    ∙ ap (λ xs. first_difference i xs (arguments_of (drop i args)))
    (item_first shapes i shape there said)
    ∙ ap (λ ys. first_difference i (shape ∷ drop (i + 1) shapes) (arguments_of ys))
    (item_first args i a less is)
    ∙ ap (λ o. or_behind o (differs_from (i + 1) shapes args)) (sym told)

-- an argument that the form does not have
pub extra : (i : ℕ) (shapes : List Shape) (args : List Argument) (a : Argument)
    (all : Option Denied)
    → i < length args → a ≡ get_or args i a
    → length shapes ≤ i
    → all ≡ differs_from i shapes args
    → Some (WrongShape i) ≡ all
extra i shapes args a all less is more so_far =
    sym (so_far
    ∙ ap (λ xs. first_difference i xs (arguments_of (drop i args))) (drop_all i shapes more)
    ∙ ap (λ ys. first_difference i [] (arguments_of ys)) (item_first args i a less is))

-- an argument that is missing
pub missing : (i : ℕ) (shapes : List Shape) (args : List Argument) (all : Option Denied)
    → length args ≤ i
    → i < length shapes
    → all ≡ differs_from i shapes args
    → Some (WrongShape i) ≡ all
missing i [] args all more less so_far = absurd (omega arith)
missing i (x ∷ xs) args all more less so_far =
    sym (so_far
    ∙ ap (λ ys. first_difference i (drop i (x ∷ xs)) (arguments_of ys)) (drop_all i args more)
    ∙ ap (λ zs. first_difference i zs []) (item_first (x ∷ xs) i (get_or (x ∷ xs) i x) less
    (get_or_default (x ∷ xs) i x (get_or (x ∷ xs) i x) less)))

-- and none is
pub all_met : (i : ℕ) (shapes : List Shape) (args : List Argument) (all : Option Denied)
    → length args ≤ i
    → length shapes ≤ i
    → all ≡ differs_from i shapes args
    → None ≡ all
all_met i shapes args all more less so_far =
    sym (so_far
    ∙ ap (λ ys. first_difference i (drop i shapes) (arguments_of ys)) (drop_all i args more)
    ∙ ap (λ zs. first_difference i zs []) (drop_all i shapes less))
