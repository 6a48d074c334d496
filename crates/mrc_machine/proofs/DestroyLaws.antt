-- What is destroyed leaves each task with a space, and no port is born.
use Rattle.std.proofs.Common.{◌≡◌, ℕ, ◌<◌, ◌^◌, Option, Some, None}
use Rattle.std.proofs.Common.{List, [], ◌∷◌, refl, sym, ◌∙◌, ap, subst}
use Rattle.std.specs.Prelude.{IsSome}
use Rattle.std.specs.Option.{option_and_then}
use Rattle.mrc_model.specs.declared.Backup.{Backup}
use Rattle.mrc_model.specs.declared.Backup.TheVariants.{Absent as NoBackup, Dead as DeadBackup}
use Rattle.mrc_model.specs.declared.Backup.TheVariants.{Port as BackupPort}
use Rattle.mrc_model.specs.Map.{Map, get, alter_all}
use Rattle.mrc_model.specs.World.{Space, Port, Parcel, Store, Task, set_space}
use Rattle.mrc_model.specs.Death.{perished_entry, bury, append, append_to, once_notice}
use Rattle.mrc_model.specs.Death.{notify_backup, notify_port}
use Rattle.mrc_model.proofs.Maps.{get-alter_all, Each-alter_all}
use Rattle.mrc_death.specs.Plans.{Work, tell_once, tell_destroyed, carried_out, IsReady}
use Rattle.mrc_death.specs.Removing.{left_in, removed, removed_from}
use Rattle.mrc_death.specs.declared.removal.Removal.{Removal}
use Rattle.mrc_machine.specs.Housing.{IsHoused}
use Rattle.mrc_machine.proofs.HousingLaws.{AreSame, housed_same, housed_space}

-- notices change no space, and no port is born

then_same : (s z y : Store) → AreSame z y → AreSame s z → AreSame s y
then_same s z y later before = (later.0 ∙ before.0, later.1 ∙ before.1)

append_same : (s : Store) (p : ℕ) (m : Parcel) → AreSame s (append s p m)
unfolding append
append_same s p m = go (get s.ports p)
  where
    go : (o : Option Port) → AreSame s (append_to s p m o)
    go None = (refl, refl)
    go (Some x) = (refl, refl)

backup_same : (s : Store) (p : ℕ) (x : Port) (b : Backup) → AreSame s (notify_backup s p x b)
backup_same s p x NoBackup = (refl, refl)
backup_same s p x DeadBackup = (refl, refl)
backup_same s p x (BackupPort b) =
    let told = append_same _ b _ in (told.0, told.1)

port_same : (s : Store) (p : ℕ) (o : Option Port) → AreSame s (notify_port s p o)
port_same s p None = (refl, refl)
port_same s p (Some x) = backup_same s p x x.backup

-- the same tasks have spaces after a burial
module _ (ts : Map Task) (s : Store) (h : IsHoused record { tasks = ts; store = s }) where
  abbrev perish : List ℕ → ℕ → Space → Option Space
  perish dead t x = Some (alter_all (λ n e. perished_entry dead e) x)

  buried_there : (dead : List ℕ) (t : ℕ) (o : Option Space)
      → IsSome o
      → IsSome (option_and_then (perish dead t) o)
  buried_there dead t None has = cc
  buried_there dead t (Some x) has = refl

  buried_back : (dead : List ℕ) (t : ℕ) (o : Option Space)
      → IsSome (option_and_then (perish dead t) o)
      → IsSome o
  buried_back dead t None has = cc
  buried_back dead t (Some x) has = refl

  housed_buried : (dead : List ℕ) → IsHoused record { tasks = ts; store = bury s dead }
  unfolding bury
  housed_buried dead = record {
    spaces = λ t has. subst (λ o. IsSome o) (sym (get-alter_all (perish dead) s.spaces t))
        (buried_there dead t (get s.spaces t) (h.spaces t has));
    homes = λ t has. h.homes t (buried_back dead t (get s.spaces t)
        (subst (λ o. IsSome o) (get-alter_all (perish dead) s.spaces t) has));
    tasks = h.tasks;
    owners = Each-alter_all (λ t x. t < 2 ^ 32) (λ t x. t < 2 ^ 32) (perish dead) s.spaces
        (λ t x y at is short. short) h.owners;
    order = h.order;
    born = h.born;
  }

-- nor do the notices of a plan

told_once_same : (s : Store) (ps : List ℕ) → AreSame s (tell_once s ps)
told_once_same s [] = (refl, refl)
told_once_same s (p ∷ ps) =
    then_same s (append s p once_notice) (tell_once (append s p once_notice) ps)
    (told_once_same (append s p once_notice) ps) (append_same s p once_notice)

told_destroyed_same : (s : Store) (ps : List ℕ) → AreSame s (tell_destroyed s ps)
told_destroyed_same s [] = (refl, refl)
told_destroyed_same s (p ∷ ps) =
    let z = notify_port s p (get s.ports p) in
    then_same s z (tell_destroyed z ps) (told_destroyed_same z ps) (port_same s p (get s.ports p))

-- what leaves a task's space leaves it with one
left_housed : (ts : Map Task) (s : Store) → IsHoused record { tasks = ts; store = s }
    → (t : ℕ) (r : Removal) (o : Option Space)
    → get s.spaces t ≡ o
    → IsHoused record { tasks = ts; store = record s { spaces = left_in s.spaces t r o } }
left_housed ts s h t r None is = h
left_housed ts s h t r (Some x) is =
    housed_space ts s (set_space s t (removed r x)) t (removed r x) h
    (h.homes t (subst IsSome (sym is) refl)) refl

-- where a plan was carried out
pub housed_carried : (ts : Map Task) (s z : Store) (plan : Option Work)
    → IsHoused record { tasks = ts; store = s }
    → IsReady s plan
    → z ≡ carried_out s plan
    → IsHoused record { tasks = ts; store = z }
unfolding carried_out
housed_carried ts s z None h ready is =
    housed_same ts s z h (ap (λ (y : Store). y.spaces) is, ap (λ (y : Store). y.next) is)
housed_carried ts s z (Some w) h ready is =
    let without = removed_from s w.task w.removal in
    let put = left_housed ts s h w.task w.removal (get s.spaces w.task) refl in
    let after = bury without w.dead in
    let told = then_same after (tell_once after w.once)
    (tell_destroyed (tell_once after w.once) w.lost)
    (told_destroyed_same (tell_once after w.once) w.lost) (told_once_same after w.once) in
    housed_same ts after z (housed_buried ts without put w.dead)
    (ap (λ (y : Store). y.spaces) is ∙ told.0, ap (λ (y : Store). y.next) is ∙ told.1)
