-- What leaves a task's space, if the task has one.
use Rattle.std.proofs.Common.{◌≡◌, ℕ, List, [], Option, Some, None, refl, sym, ◌∙◌}
use Rattle.std.proofs.Common.{ap, subst, unwrap_or}
use Rattle.std.specs.Prelude.{IsSome}
use Rattle.mrc_model.specs.Map.{empty, get}
use Rattle.mrc_model.specs.World.{Held, Space, Store, set_space, space}
use Rattle.mrc_model.specs.Destroyed.{all_rights}
use Rattle.mrc_model.proofs.Maps.{same_Some}
use Rattle.mrc_ports.proofs.TableLaws.{put_twice}
use Rattle.mrc_death.specs.Removing.{left_in, removed, removed_from}
use Rattle.mrc_death.specs.declared.removal.Removal.{Removal}

-- a task without a space has no rights
pub no_rights : (s : Store) (t : ℕ) (hs : List Held)
    → hs ≡ []
    → None ≡ get s.spaces t
    → hs ≡ all_rights (space s t).list
unfolding empty
no_rights s t hs none absent = none ∙ ap (λ o. all_rights (unwrap_or o empty).list) absent

module _ (s m : Store) (t : ℕ) (x blank : Space)
    (put : IsSome (get s.spaces t) → (Some x ≡ get s.spaces t) × (m ≡ set_space s t blank))
    (absent : get s.spaces t ≡ None → (x ≡ blank) × (m ≡ s)) where
  -- what is taken out is the task's space, and the empty one if it has none
  pub taken_space : blank ≡ empty → x ≡ space s t
  taken_space is = go (get s.spaces t) refl
    where
      go : (o : Option Space) → get s.spaces t ≡ o → x ≡ unwrap_or o empty
      go None none = (absent none).0 ∙ is
      go (Some y) some = same_Some x y ((put (subst IsSome (sym some) refl)).0 ∙ some)

  -- what is left is put back, if the task has a space
  pub put_back : (z : Store) (y : Space) (r : Removal) → y ≡ removed r x
      → (IsSome (get m.spaces t) → z ≡ set_space m t y)
      → (get m.spaces t ≡ None → z ≡ m)
      → z ≡ removed_from s t r
  put_back z y r left back none_back = go (get s.spaces t) refl
    where
      go : (o : Option Space) → get s.spaces t ≡ o
          → z ≡ record s { spaces = left_in s.spaces t r o }
      go None none =
          let same = (absent none).1 in
          none_back (ap (λ (k : Store). get k.spaces t) same ∙ none) ∙ same
      go (Some v) some =
          let both = put_twice s m z t x y blank (subst IsSome (sym some) refl) put back in
          both.1 ∙ ap (set_space s t)
          (left ∙ ap (removed r) (same_Some x v (sym both.0 ∙ some)))
