-- What giving a right comes to, once a name has less.
use Rattle.std.proofs.Common.{◌≡◌, ℕ, true, false, Option, Some, None, refl, sym, ◌∙◌, ap}
use Rattle.std.proofs.Common.{subst, Ok}
use Rattle.std.specs.Prelude.{IsSome}
use Rattle.std.specs.Option.{is_some, option_map}
use Rattle.std.proofs.lemmas.Bool.{true≢false}
use Rattle.mrc_base.specs.declared.PortRight.{PortRight}
use Rattle.mrc_base.specs.declared.PortRight.TheVariants.{SendOnce}
use Rattle.mrc_model.specs.declared.Entry.{Entry}
use Rattle.mrc_model.specs.Map.{insert}
use Rattle.mrc_model.specs.World.{Space}
use Rattle.mrc_model.specs.Space.{entry_of, joined}
use Rattle.mrc_model.proofs.Spaces.{entry_of-some}
use Rattle.mrc_index.specs.Undo.{CanPut}
use Rattle.mrc_index.specs.Names.{HoldsAlike}
use Rattle.mrc_index.proofs.UndoLaws.{joined_alike}
use Rattle.mrc_names.specs.Bounds.{IsBounded}
use Rattle.mrc_names.specs.Takes.{give_right, give_new}
use Rattle.mrc_names.proofs.GivingLaws.{given_unknown, given_joined}

-- the name of an entry tells whether there is one
pub found_by : (o : Option ℕ) (h : Option (ℕ × Entry))
    → o ≡ option_map (λ (e : ℕ × Entry). e.0) h
    → is_some o ≡ true
    → IsSome h
found_by o None is has = absurd (true≢false (sym has ∙ ap is_some is))
found_by o (Some e) is has = refl

-- and where there is none the right takes a new name
pub new_by : (x : Space) (p : ℕ) (r : PortRight) (o : Option ℕ)
    → (r ≡ SendOnce → ⊥)
    → o ≡ option_map (λ (e : ℕ × Entry). e.0) (entry_of x p)
    → is_some o ≡ false
    → give_right x p r ≡ give_new x p r
new_by x p r o other is none = go (entry_of x p) refl
  where
    go : (h : Option (ℕ × Entry)) → entry_of x p ≡ h → give_right x p r ≡ give_new x p r
    go None at = given_unknown x p r other at
    go (Some e) at =
        absurd (true≢false
        (sym (ap is_some (is ∙ ap (option_map (λ (d : ℕ × Entry). d.0)) at)) ∙ none))

-- an entry that a right joins can be put back
pub can_join : (x : Space) (p : ℕ) (r : PortRight) (f : ℕ × Entry) (e : Entry)
    → entry_of x p ≡ Some f
    → e ≡ joined f.1 r
    → CanPut x f.0 (Some e)
can_join x p r f e found is = (
  f.1,
  (entry_of-some x p f found).0,
  subst (HoldsAlike f.1) (sym is) (joined_alike f.1 r),
)

-- what was joined, from what each step of code tells
pub joined_as : (x y : Space) (p : ℕ) (r : PortRight) (f : ℕ × Entry) (e : Entry)
    → IsBounded x
    → (r ≡ SendOnce → ⊥)
    → entry_of x p ≡ Some f
    → e ≡ joined f.1 r
    → y ≡ insert x f.0 e
    → give_right x p r ≡ Ok (y, f.0)
joined_as x y p r f e bounds other found is put =
    given_joined x p r f bounds other found
    ∙ ap (λ z. Ok (z, f.0)) (sym (put ∙ ap (insert x f.0) is))
