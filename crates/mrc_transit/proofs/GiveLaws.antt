-- What giving to a space is to giving to a task.
use Rattle.std.proofs.Common.{◌≡◌, ℕ, Bool, true, false, Result, Ok, Err, refl, sym, ◌∙◌, ap, subst}
use Rattle.std.specs.Prelude.{IsOk, IfOk, IfErr}
use Rattle.std.specs.Result.{result_unwrap_or}
use Rattle.std.proofs.lemmas.Bool.{both_ways}
use Rattle.mrc_base.specs.declared.PortRight.{PortRight}
use Rattle.mrc_base.specs.declared.memory.OrMemory.{OrMemory}
use Rattle.mrc_base.specs.declared.memory.OrMemory.TheVariants.{Fault, Memory}
use Rattle.mrc_model.specs.declared.Code.{Code}
use Rattle.mrc_model.specs.declared.Code.TheVariants.{KernNoSpace}
use Rattle.mrc_model.specs.declared.Item.{Item}
use Rattle.mrc_model.specs.declared.Item.TheVariants.{Right as RightItem, Null as NullItem}
use Rattle.mrc_model.specs.declared.Item.TheVariants.{Dead as DeadItem}
use Rattle.mrc_model.specs.World.{Space, Store, space, set_space, port_dead}
use Rattle.mrc_model.specs.Reply.{Try, Refused, ◌>>◌, refuse_if}
use Rattle.mrc_model.specs.Space.{give_item, is_over_full, place}
use Rattle.mrc_model.proofs.Spaces.{space-set_same}
use Rattle.mrc_names.specs.Takes.{give_right}
use Rattle.mrc_names.specs.Refusals.{IsRefusal}
use Rattle.mrc_ports.proofs.TableLaws.{insert_twice}
use Rattle.mrc_transit.specs.Giving.{IsNotGiven}

-- the last one that was put stands
put_twice : (s : Store) (t : ℕ) (x y : Space) → set_space (set_space s t x) t y ≡ set_space s t y
put_twice s t x y = ap (λ m. record s { spaces = m }) (insert_twice s.spaces t x y)

-- a right that is given
gives_place : (s : Store) (t p : ℕ) (r : PortRight) (x : Space)
    → give_item (set_space s t x) t (RightItem p r)
    ≡ (set_space s t (place x p r).space, (place x p r).name)
unfolding give_item
gives_place s t p r x =
    ap (λ z. (set_space (set_space s t x) t (place z p r).space, (place z p r).name))
    (space-set_same s t x)
    ∙ ap (λ z. (z, (place x p r).name)) (put_twice s t x (place x p r).space)

module _ (x : Space) (p : ℕ) (r : PortRight) where
  answer : Bool → Try (Space × ℕ)
  answer b = refuse_if b (Refused KernNoSpace) >> Ok ((place x p r).space, (place x p r).name)

  answered : give_right x p r ≡ answer (is_over_full (place x p r).space)
  unfolding give_right answer
  answered = refl

  parts : (b : Bool) (y : Space) (n : ℕ)
      → answer b ≡ Ok (y, n)
      → ◌≡◌ {A = Space × ℕ} ((place x p r).space, (place x p r).name) (y, n)
  unfolding answer ◌>>◌ refuse_if
  parts true y n is = cc
  parts false y n is = ap (λ m. result_unwrap_or m (x, 0)) is

  over : (b : Bool) (code : Code)
      → answer b ≡ Err (Refused code)
      → (code ≡ KernNoSpace) × (b ≡ true)
  unfolding answer ◌>>◌ refuse_if
  over true code is = (cc, refl)
  over false code is = cc

  within : (b : Bool) → IsOk (answer b) → b ≡ false
  unfolding answer ◌>>◌ refuse_if
  within true ok = absurd (both_ways true (sym ok) refl)
  within false ok = refl

  -- what was given to the space is given to the task
  pub given_right : (s : Store) (t : ℕ) (y : Space) (n : ℕ)
      → give_right x p r ≡ Ok (y, n)
      → give_item (set_space s t x) t (RightItem p r) ≡ (set_space s t y, n)
  given_right s t y n is =
      gives_place s t p r x
      ∙ ap (λ (z : Space × ℕ). (set_space s t z.0, z.1)) (parts _ y n (sym answered ∙ is))

  -- what was not given makes the space too large
  pub not_given_right : (s : Store) (t : ℕ) (e : OrMemory Code)
      → IsRefusal e (give_right x p r)
      → IsNotGiven e t (give_item (set_space s t x) t (RightItem p r)).0
  not_given_right s t (Fault code) refused =
      let told = over _ code (sym answered ∙ refused) in (
        told.0,
        ap (λ (z : Store × ℕ). is_over_full (space z.0 t)) (gives_place s t p r x)
            ∙ ap is_over_full (space-set_same s t (place x p r).space) ∙ told.1,
      )
  not_given_right s t Memory ok =
      ap (λ (z : Store × ℕ). is_over_full (space z.0 t)) (gives_place s t p r x)
      ∙ ap is_over_full (space-set_same s t (place x p r).space)
      ∙ within _ (subst IsOk answered ok)

-- nothing, and a dead right
pub given_null : (s : Store) (t : ℕ) (x : Space) (item : Item)
    → item ≡ NullItem
    → give_item (set_space s t x) t item ≡ (set_space s t x, 0)
unfolding give_item
given_null s t x item is = rw is refl

pub given_dead : (s : Store) (t : ℕ) (x : Space) (item : Item)
    → item ≡ DeadItem
    → give_item (set_space s t x) t item ≡ (set_space s t x, port_dead)
unfolding give_item
given_dead s t x item is = rw is refl

-- what code tells of a right
pub copied_out : {F : Type 0} (r : Result ℕ F) (x y : Space) (p : ℕ) (q : PortRight) (item : Item)
    → item ≡ RightItem p q
    → IfOk r (λ n. give_right x p q ≡ Ok (y, n))
    → IfOk r (λ n. (s : Store) (t : ℕ)
    → give_item (set_space s t x) t item ≡ (set_space s t y, n))
copied_out (Ok n) x y p q item is given = λ s t.
    ap (give_item (set_space s t x) t) is ∙ given_right x p q s t y n given
copied_out (Err e) x y p q item is given = tt

pub not_copied_out : {T : Type 0} (r : Result T (OrMemory Code)) (x : Space) (p : ℕ)
    (q : PortRight) (item : Item)
    → item ≡ RightItem p q
    → IfErr r (λ e. IsRefusal e (give_right x p q))
    → IfErr r (λ e. (s : Store) (t : ℕ) → IsNotGiven e t (give_item (set_space s t x) t item).0)
not_copied_out (Ok n) x p q item is refuses = tt
not_copied_out (Err e) x p q item is refuses = λ s t.
    subst (λ k. IsNotGiven e t (give_item (set_space s t x) t k).0) (sym is)
    (not_given_right x p q s t e refuses)
