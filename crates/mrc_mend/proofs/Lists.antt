-- Lists of which some are kept.
use Rattle.std.proofs.Common.{List, sym, subst}
use Rattle.std.specs.Prelude.{Bool}
use Rattle.std.specs.List.{All}
use Rattle.std.specs.List.Retain.{IsFiltered}
use Rattle.std.proofs.lemmas.Grind.{get_or_picked}

-- what is kept of a list has what all have
pub all_kept : {X F : Type 0} (R : F → X → Bool → F → Type 0) (P : X → Type 0) (f : F)
    (xs ys : List X) → IsFiltered R f xs ys → All P xs → All P ys
all_kept R P f xs ys kept all = subst (λ zs. All P zs) (sym kept.4)
    (λ k d lt. let p = get_or_picked kept.0 xs k d lt in
    subst P (sym p.1.2) (all p.1.0 d p.1.1))
