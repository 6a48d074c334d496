-- Changes of a store, as code makes them.
use Rattle.std.proofs.Common.{◌≡◌, ℕ, Bool, true, false, Option, Some, None, Result, Ok, Err, refl}
use Rattle.std.proofs.Common.{sym, ◌∙◌, ap, if◌then◌else◌}
use Rattle.std.specs.Prelude.{◌==◌, unwrap_or, IsOk, IsErr, is_err}
use Rattle.mrc_model.specs.Map.{Map, empty, get}
use Rattle.mrc_model.specs.World.{Space, Port, Store, World, space, set_space, set_port}
use Rattle.mrc_model.specs.Reply.{◌>>=◌, or_refuse}
use Rattle.mrc_model.specs.Space.{restart_if}
use Rattle.mrc_model.specs.Target.{with_store, bad_name}
use Rattle.mrc_model.proofs.Maps.{get-insert}
use Rattle.mrc_transit.proofs.ApplyLaws.{ok_not_err, restart_spaces}
use Rattle.mrc_model.specs.declared.Backup.{Backup}
use Rattle.mrc_machine.specs.Moves.{limited}
use Rattle.mrc_machine.specs.Requests.{with_backup}
use Rattle.mrc_machine.proofs.HousingLaws.{AreSame}

-- no space changes where a port's receipts become 0
pub restart_if_keeps : (b : Bool) (s : Store) (p : ℕ) → (restart_if b s p).spaces ≡ s.spaces
restart_if_keeps true s p = restart_spaces s p
restart_if_keeps false s p = refl

-- what the second space is, after the first was put
pub space_moved : (s : Store) (t u p : ℕ) (b : Bool) (g : Space)
    → space (restart_if b (set_space s t g) p) u ≡ (if u == t then g else space s u)
space_moved s t u p b g =
    ap (λ (m : Map Space). unwrap_or (get m u) empty) (restart_if_keeps b (set_space s t g) p)
    ∙ ap (λ o. unwrap_or o empty) (get-insert s.spaces t g u)
    ∙ elim (u == t) as (λ c. unwrap_or (if c then Some g else get s.spaces u) empty
    ≡ (if c then g else unwrap_or (get s.spaces u) empty)) [ true ↦ refl | false ↦ refl ]

-- the limit of a port's queue

limited_at : (w : World) (p limit : ℕ) (x : Port)
    → get w.store.ports p ≡ Some x
    → limited w p limit ≡ Ok (with_store w (set_port w.store p (record x { limit = limit })))
unfolding limited ◌>>=◌ or_refuse
limited_at w p limit x at = rw at refl

limited_none : (w : World) (p limit : ℕ)
    → get w.store.ports p ≡ None
    → limited w p limit ≡ Err bad_name
unfolding limited ◌>>=◌ or_refuse
limited_none w p limit at = rw at refl

-- what code tells of a port that it looked for
module _ {A B : Type 0} (w : World) (z : Store) (p limit : ℕ) (r : Result A B)
    (there : (x : Port) → get w.store.ports p ≡ Some x
    → IsOk r × (z ≡ set_port w.store p (record x { limit = limit })))
    (absent : get w.store.ports p ≡ None → IsErr r × (z ≡ w.store)) where
  pub limit_set : is_err r ≡ false → limited w p limit ≡ Ok (with_store w z)
  limit_set ok = go (get w.store.ports p) refl
    where
      go : (o : Option Port) → get w.store.ports p ≡ o → limited w p limit ≡ Ok (with_store w z)
      go None at = let other = (absent at).0 in cc
      go (Some x) at =
          limited_at w p limit x at ∙ ap (λ y. Ok (with_store w y)) (sym (there x at).1)

  pub limit_refused : is_err r ≡ true → (limited w p limit ≡ Err bad_name) × (z ≡ w.store)
  limit_refused err = go (get w.store.ports p) refl
    where
      go : (o : Option Port) → get w.store.ports p ≡ o
          → (limited w p limit ≡ Err bad_name) × (z ≡ w.store)
      go None at = (limited_none w p limit at, (absent at).1)
      go (Some x) at = let other = (there x at).0 in absurd (ok_not_err r other err)

  pub limit_keeps : AreSame w.store z
  limit_keeps = go (get w.store.ports p) refl
    where
      go : (o : Option Port) → get w.store.ports p ≡ o → AreSame w.store z
      go None at =
          (ap (λ (y : Store). y.spaces) (absent at).1, ap (λ (y : Store). y.next) (absent at).1)
      go (Some x) at =
          (ap (λ (y : Store). y.spaces) (there x at).1, ap (λ (y : Store). y.next) (there x at).1)

-- the request of a port: what code tells
module _ {A B : Type 0} (s z : Store) (p : ℕ) (b : Backup) (r : Result A B)
    (there : (y : Port) → get s.ports p ≡ Some y
    → IsOk r × (z ≡ set_port s p (record y { backup = b })))
    (absent : get s.ports p ≡ None → IsErr r × (z ≡ s)) where
  pub backup_set : z ≡ with_backup s p b (get s.ports p)
  backup_set = go (get s.ports p) refl
    where
      go : (o : Option Port) → get s.ports p ≡ o → z ≡ with_backup s p b o
      go None at = (absent at).1
      go (Some y) at = (there y at).1

  pub backup_keeps : AreSame s z
  backup_keeps = go (get s.ports p) refl
    where
      go : (o : Option Port) → get s.ports p ≡ o → AreSame s z
      go None at =
          (ap (λ (y : Store). y.spaces) (absent at).1, ap (λ (y : Store). y.next) (absent at).1)
      go (Some y) at =
          (ap (λ (k : Store). k.spaces) (there y at).1, ap (λ (k : Store). k.next) (there y at).1)
