-- A port that is replaced twice is the last one.
use Rattle.std.proofs.Common.{◌≡◌, ℕ, List, inl, inr, Option, Some, None, refl, sym, ◌∙◌, ap, subst}
use Rattle.std.proofs.Common.{Bool, true, false, nat_lt, ◌<◌, ◌≤◌, ◌+◌, length, arith}
use Rattle.std.proofs.Common.{if◌then◌else◌}
use Rattle.std.specs.Prelude.{IsSome, is_some}
use Rattle.std.proofs.lemmas.List.{length-map}
use Rattle.std.proofs.lemmas.Bool.{cases_eq, ltb-true}
use Rattle.mrc_model.specs.CallCreateTask.{limit_of_task_numbers}
use Rattle.mrc_model.specs.Map.{Map, empty, get, insert, alter_all, remove, next_key}
use Rattle.mrc_model.specs.Death.{has, perished_entry, perished_port, bury}
use Rattle.mrc_model.specs.World.{Space, Port, Store, set_port, set_space}
use Rattle.mrc_model.specs.Space.{restart, restart_port}
use Rattle.mrc_model.proofs.Maps.{get-insert_same, get-insert_other, get-next_key, get-remove_same}
use Rattle.mrc_model.proofs.Maps.{get-remove_other, same_Some, not_None, get-empty, Each-insert}
use Rattle.mrc_model.proofs.Maps.{Each-alter_all}
use Rattle.mrc_map.specs.Entries.{below}
use Rattle.mrc_map.proofs.SameMaps.{same_map}
use Rattle.mrc_ports.specs.Burials.{buried, left_of}
use Rattle.mrc_ports.specs.Tables.{Table, IsSound, with_port, restarted, store_of, next_task}
use Rattle.mrc_ports.specs.Tables.{with_home}

-- the last value put at a key stands there
pub insert_twice : {X : Type 0} (m : Map X) (k : ℕ) (v w : X)
    → insert (insert m k v) k w ≡ insert m k w
insert_twice m k v w = same_map _ _ (λ q. elim (cases_eq q k) [
  | inl same ↦
      ap (get (insert (insert m k v) k w)) same ∙ get-insert_same (insert m k v) k w
      ∙ sym (get-insert_same m k w) ∙ ap (get (insert m k w)) (sym same)
  | inr other ↦
      get-insert_other (insert m k v) k w q other ∙ get-insert_other m k v q other
      ∙ sym (get-insert_other m k w q other)
])

-- a space that is taken out, and another one put in its place
pub put_twice : (s m z : Store) (t : ℕ) (x y blank : Space)
    → IsSome (get s.spaces t)
    → (IsSome (get s.spaces t) → (Some x ≡ get s.spaces t) × (m ≡ set_space s t blank))
    → (IsSome (get m.spaces t) → z ≡ set_space m t y)
    → (get s.spaces t ≡ Some x) × (z ≡ set_space s t y)
put_twice s m z t x y blank there out back =
    let (is, left) = out there in
    let in_m : IsSome (get m.spaces t) = subst (λ (k : Store). IsSome (get k.spaces t)) (sym left)
    (ap is_some (get-insert_same s.spaces t blank)) in (
      sym is,
      back in_m ∙ ap (λ k. set_space k t y) left
          ∙ ap (λ (k : Map Space). record s { spaces = k }) (insert_twice s.spaces t blank y),
    )

-- the blank one stands there
pub stands_there : (ports m : Map Port) (p : ℕ) (blank : Port)
    → m ≡ insert ports p blank
    → IsSome (get m p)
stands_there ports m p blank put =
    subst (λ (n : Map Port). IsSome (get n p)) (sym put)
    (subst IsSome (sym (get-insert_same ports p blank)) refl)

-- a change of a port in the table is that change in the store
restarted_as : (spaces : Map Space) (t : Table) (p : ℕ) (o : Option Port)
    → store_of spaces (restarted t p o) ≡ restart_port (store_of spaces t) p o
restarted_as spaces t p None = refl
restarted_as spaces t p (Some x) = refl

pub restart_as : (spaces : Map Space) (t u : Table) (s : Store) (p : ℕ)
    → store_of spaces t ≡ s
    → u ≡ restarted t p (get t.ports p)
    → store_of spaces u ≡ restart s p
unfolding restart
restart_as spaces t u s p view is =
    ap (store_of spaces) is ∙ restarted_as spaces t p (get t.ports p)
    ∙ ap (λ (z : Store). restart_port z p (get z.ports p)) view

pub set_as : (spaces : Map Space) (t u : Table) (s : Store) (p : ℕ) (x : Port)
    → store_of spaces t ≡ s
    → u ≡ with_port t p x
    → store_of spaces u ≡ set_port s p x
set_as spaces t u s p x view is =
    ap (store_of spaces) is ∙ ap (λ (z : Store). set_port z p x) view

-- the burial in spaces and in the table is the store's
pub bury_as : (dead : List ℕ) (spaces turned : Map Space) (t u : Table) (s : Store)
    → store_of spaces t ≡ s
    → turned ≡ alter_all (λ k x. Some (alter_all (λ n e. perished_entry dead e) x)) spaces
    → u ≡ buried dead t
    → store_of turned u ≡ bury s dead
unfolding bury
bury_as dead spaces turned t u s view names ports =
    ap (λ (x : Map Space). store_of x u) names
    ∙ ap (store_of (alter_all (λ k x. Some (alter_all (λ n e. perished_entry dead e) x)) spaces))
    ports
    ∙ ap (λ (z : Store). bury z dead) view

-- the next task's number is one above the last
pub below_is : (limit k j : ℕ) → below limit k ≡ Some j → (k ≡ j) × (k < limit)
below_is limit k j is = go (nat_lt k limit) refl is
  where
    go : (b : Bool) → nat_lt k limit ≡ b → (if b then Some k else None) ≡ Some j
        → (k ≡ j) × (k < limit)
    go true t z = (same_Some k j z, ltb-true k limit t)
    go false t z = absurd (not_None j (sym z))

-- what was put at the next key and taken out again leaves the map as it was
pub remove_next : {X : Type 0} (m : Map X) (k : ℕ) (v : X)
    → next_key m ≡ k
    → remove (insert m k v) k ≡ m
remove_next m k v next = same_map _ _ (λ q. elim (cases_eq q k) [
  | inl same ↦
      ap (get (remove (insert m k v) k)) same ∙ get-remove_same (insert m k v) k
      ∙ sym (ap (get m) (same ∙ sym next) ∙ get-next_key m)
  | inr other ↦ get-remove_other (insert m k v) k q other ∙ get-insert_other m k v q other
])

-- a space that was added and went again
pub add_undone : (spaces put out : Map Space) (t u : Table) (s : Store) (key j : ℕ) (x : Space)
    → store_of spaces t ≡ s
    → next_task s ≡ Some j
    → key ≡ j
    → put ≡ insert spaces key x
    → out ≡ remove put key
    → u ≡ t
    → store_of out u ≡ s
add_undone spaces put out t u s key j x view next key_is put_is out_is table =
    let number : next_key spaces ≡ key =
    ap (λ (z : Store). next_key z.spaces) view
    ∙ (below_is limit_of_task_numbers (next_key s.spaces) j next).0 ∙ sym key_is in
    ap (λ m. store_of m u)
    (out_is ∙ ap (λ m. remove m key) put_is ∙ remove_next spaces key x number)
    ∙ ap (store_of spaces) table ∙ view

-- the space of a task that was just added
pub home_there : (spaces : Map Space) (t : Table) (s : Store) (class key : ℕ)
    → store_of spaces t ≡ with_home s empty class
    → key ≡ next_key s.spaces
    → IsSome (get spaces key)
home_there spaces t s class key is number =
    ap (λ (z : Store). is_some (get z.spaces key)) is
    ∙ ap (λ k. is_some (get (insert s.spaces (next_key s.spaces) empty) k)) number
    ∙ ap is_some (get-insert_same s.spaces (next_key s.spaces) empty)

-- and another one in its place
pub home_filled : (spaces put : Map Space) (t : Table) (s : Store) (class key : ℕ) (x : Space)
    → store_of spaces t ≡ with_home s empty class
    → key ≡ next_key s.spaces
    → put ≡ insert spaces key x
    → store_of put t ≡ with_home s x class
home_filled spaces put t s class key x is number put_is =
    let n = next_key s.spaces in
    ap (λ m. store_of m t) (put_is ∙ ap (λ (z : Store). insert z.spaces key x) is
    ∙ ap (λ k. insert (insert s.spaces n empty) k x) number ∙ insert_twice s.spaces n empty x)
    ∙ ap (λ (z : Store). record z { spaces = insert s.spaces n x }) is

-- what each port of a table keeps

pub none_sound : (ports : Map Port) → ports ≡ empty → IsSound 0 0 ports
none_sound ports is p x at =
    absurd (not_None x (sym at ∙ ap (λ m. get m p) is ∙ get-empty p))

-- no port has the number of the next birth
pub unborn : (next longest : ℕ) (ports : Map Port)
    → IsSound next longest ports
    → get ports next ≡ None
unborn next longest ports sound = go (get ports next) refl
  where
    go : (o : Option Port) → get ports next ≡ o → get ports next ≡ None
    go None at = at
    go (Some x) at = let young = (sound next x at).0 in absurd (omega arith)

pub born_sound : (next longest : ℕ) (was now : Map Port) (x : Port)
    → IsSound next longest was
    → length x.queue ≤ longest
    → now ≡ insert was next x
    → IsSound (next + 1) longest now
born_sound next longest was now x sound short is =
    subst (IsSound (next + 1) longest) (sym is)
    (Each-insert (λ p y. (p < next + 1) × (length y.queue ≤ longest)) was next x
    (λ p y at. let old = sound p y at in (omega (arith, old.0), old.1))
    (omega arith, short))

-- a port that is taken out and put back changed
pub put_sound : (next longest most : ℕ) (was mid now : Map Port) (p k : ℕ) (x y : Port)
    → IsSound next longest was
    → Some x ≡ get was p
    → ((z : Port) → insert mid p z ≡ insert was p z)
    → k ≡ p
    → now ≡ insert mid k y
    → longest ≤ most
    → (length x.queue ≤ longest → length y.queue ≤ most)
    → IsSound next most now
put_sound next longest most was mid now p k x y sound at others key is more short =
    let old = sound p x (sym at) in
    subst (IsSound next most) (sym (is ∙ ap (λ q. insert mid q y) key ∙ others y))
    (Each-insert (λ q z. (q < next) × (length z.queue ≤ most)) was p y
    (λ q z there. let kept = sound q z there in (kept.0, omega (arith, kept.1, more)))
    (old.0, short old.1))

pub buried_sound : (next longest : ℕ) (dead : List ℕ) (was now : Map Port)
    → IsSound next longest was
    → now ≡ alter_all (perished_port dead) was
    → IsSound next longest now
buried_sound next longest dead was now sound is =
    subst (IsSound next longest) (sym is)
    (Each-alter_all kept kept (perished_port dead) was
    (λ p x y at left h. (h.0, subst (λ n. n ≤ longest) (sym (as_long (has dead p) x y left)) h.1))
    sound)
  where
    kept : ℕ → Port → Type 0
    kept p x = (p < next) × (length x.queue ≤ longest)

    as_long : (b : Bool) (x y : Port)
        → (if b then None else Some (left_of dead x)) ≡ Some y
        → length y.queue ≡ length x.queue
    as_long true x y left = absurd (not_None y (sym left))
    as_long false x y left =
        ap (λ (z : Port). length z.queue) (sym (same_Some _ _ left)) ∙ length-map x.queue _

-- the same where the queue stays
pub kept_sound : (next longest : ℕ) (was mid now : Map Port) (p k : ℕ) (x y : Port)
    → IsSound next longest was
    → Some x ≡ get was p
    → ((z : Port) → insert mid p z ≡ insert was p z)
    → k ≡ p
    → now ≡ insert mid k y
    → y.queue ≡ x.queue
    → IsSound next longest now
kept_sound next longest was mid now p k x y sound at others key is same =
    put_sound next longest longest was mid now p k x y sound at others key is (omega arith)
    (λ h. subst (λ l. length l ≤ longest) (sym same) h)
