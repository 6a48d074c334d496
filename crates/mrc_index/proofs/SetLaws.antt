-- Changes of all entries that leave each one's port and kind.
use Rattle.std.proofs.Common.{◌≡◌, ℕ, ◌<◌, ◌^◌, Bool, true, not, List, [], ◌∷◌, Option}
use Rattle.std.proofs.Common.{Some, None, refl, sym, ◌∙◌, ap, subst, cond}
use Rattle.std.specs.Option.{option_and_then, is_some}
use Rattle.std.specs.Map.Calls.{RetainsPairs}
use Rattle.mrc_model.specs.declared.Entry.{Entry}
use Rattle.mrc_model.specs.declared.Entry.TheVariants.{Receive as ReceiveEntry, Send as SendEntry}
use Rattle.mrc_model.specs.declared.Entry.TheVariants.{SendOnce as OnceEntry, PortSet as SetEntry}
use Rattle.mrc_model.specs.declared.Entry.TheVariants.{DeadName as DeadEntry}
use Rattle.mrc_model.specs.Rising.{cons_some, alter_list}
use Rattle.mrc_model.specs.Map.{Map, get, alter_all}
use Rattle.mrc_model.specs.World.{Space}
use Rattle.mrc_model.specs.Space.{in_renamed, renamed_set, outside, without_set}
use Rattle.mrc_model.proofs.Maps.{get-alter_all, same_list, Each-alter_all}
use Rattle.mrc_index.specs.Names.{is_held_by, is_once_by, HoldsAlike, IsIndexed}

-- each entry stays, with this value, and the call that changes it leaves the closure as it was
abbrev pub IsChanged : {F X : Type 0}
    → (F → ℕ → X → Bool → X → F → Type 0)
    → (ℕ → X → Option X)
    → F
    → Type 0
IsChanged {F} {X} R g f =
    (k : ℕ) (v w : X) (b : Bool) (f' : F)
    → R f k v b w f'
    → (b ≡ true) × (g k v ≡ Some w) × (f' ≡ f)

changed_list : {F X : Type 0} (R : F → ℕ → X → Bool → X → F → Type 0) (g : ℕ → X → Option X)
    (f : F) (es fs : List (ℕ × X))
    → IsChanged R g f
    → RetainsPairs R f es fs
    → fs ≡ alter_list g es
changed_list R g f [] fs all h = h
changed_list R g f (e ∷ es) fs all (b, w, f', rest, called, more, is) =
    let one = all e.0 e.1 w b f' called in
    is ∙ ap (λ c. cond c ((e.0, w) ∷ rest) rest) one.0
    ∙ ap (λ l. (e.0, w) ∷ l)
    (changed_list R g f es rest all (subst (λ y. RetainsPairs R y es rest) one.2 more))
    ∙ sym (ap (λ o. cons_some e.0 o (alter_list g es)) one.1)

-- the same for maps
pub changed_map : {F X : Type 0} (R : F → ℕ → X → Bool → X → F → Type 0) (g : ℕ → X → Option X)
    (f : F) (old new : Map X)
    → IsChanged R g f
    → RetainsPairs R f old.list new.list
    → new ≡ alter_all g old
unfolding alter_all
changed_map R g f old new all h = same_list new _ (changed_list R g f old.list new.list all h)

alike_itself : (e : Entry) → HoldsAlike e e
alike_itself e = record { held = λ p. refl; once = λ p. refl }

-- a set that goes changes no port and no kind
pub outside_alike : (set k : ℕ) (e : Entry)
    → (f : Entry) × (outside set k e ≡ Some f) × HoldsAlike e f
outside_alike set k (ReceiveEntry p s i) = (
  ReceiveEntry p s (without_set set i),
  refl,
  record { held = λ q. refl; once = λ q. refl },
)
outside_alike set k (SendEntry p s) = (SendEntry p s, refl, alike_itself (SendEntry p s))
outside_alike set k (OnceEntry p) = (OnceEntry p, refl, alike_itself (OnceEntry p))
outside_alike set k SetEntry = (SetEntry, refl, alike_itself SetEntry)
outside_alike set k (DeadEntry s) = (DeadEntry s, refl, alike_itself (DeadEntry s))

-- nor does another name of it
pub renamed_alike : (old new k : ℕ) (e : Entry)
    → (f : Entry) × (in_renamed old new k e ≡ Some f) × HoldsAlike e f
renamed_alike old new k (ReceiveEntry p s i) = (
  ReceiveEntry p s (renamed_set old new i),
  refl,
  record { held = λ q. refl; once = λ q. refl },
)
renamed_alike old new k (SendEntry p s) = (SendEntry p s, refl, alike_itself (SendEntry p s))
renamed_alike old new k (OnceEntry p) = (OnceEntry p, refl, alike_itself (OnceEntry p))
renamed_alike old new k SetEntry = (SetEntry, refl, alike_itself SetEntry)
renamed_alike old new k (DeadEntry s) = (DeadEntry s, refl, alike_itself (DeadEntry s))

-- so the index stays
pub altered_indexed : (x y : Space) (ports onces : List (ℕ × ℕ)) (bits : List ℕ)
    (g : ℕ → Entry → Option Entry)
    → IsIndexed x ports onces bits
    → ((k : ℕ) (e : Entry) → (f : Entry) × (g k e ≡ Some f) × HoldsAlike e f)
    → y ≡ alter_all g x
    → IsIndexed y ports onces bits
altered_indexed x y ports onces bits g i alike is =
    subst (λ z. IsIndexed z ports onces bits) (sym is) record {
      words = i.words;
      short =
          Each-alter_all (λ k v. k < 2 ^ 32) (λ k v. k < 2 ^ 32) g x (λ k v w at h l. l) i.short;
      held = λ p n.
          i.held p n ∙ held_same p n (get x n) ∙ ap (is_held_by p) (sym (get-alter_all g x n));
      once = λ p n.
          i.once p n ∙ once_same p n (get x n) ∙ ap (is_once_by p) (sym (get-alter_all g x n));
      free = λ n small.
          i.free n small ∙ ap not (some_same n (get x n) ∙ ap is_some (sym (get-alter_all g x n)));
    }
  where
    held_same : (p n : ℕ) (o : Option Entry)
        → is_held_by p o ≡ is_held_by p (option_and_then (g n) o)
    held_same p n None = refl
    held_same p n (Some e) =
        sym ((alike n e).2.held p) ∙ ap (is_held_by p) (sym (alike n e).1)

    once_same : (p n : ℕ) (o : Option Entry)
        → is_once_by p o ≡ is_once_by p (option_and_then (g n) o)
    once_same p n None = refl
    once_same p n (Some e) =
        sym ((alike n e).2.once p) ∙ ap (is_once_by p) (sym (alike n e).1)

    some_same : (n : ℕ) (o : Option Entry) → is_some o ≡ is_some (option_and_then (g n) o)
    some_same n None = refl
    some_same n (Some e) = ap is_some (sym (alike n e).1)
