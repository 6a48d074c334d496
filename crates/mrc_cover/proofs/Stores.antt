-- A store in which one space or one port is changed: what stands there, and in how many places each
-- receive right is.
use Rattle.std.proofs.Common.{Bool, None, Option, Some, ap, arith, false, if◌then◌else◌, inl, inr}
use Rattle.std.proofs.Common.{refl, sym, true, ℕ, ◌+◌, ◌∙◌, ◌≡◌, ◌≤◌}
use Rattle.std.proofs.lemmas.Bool.{cases_eq}
use Rattle.std.specs.Option.{option_map, unwrap_or}
use Rattle.mrc_model.proofs.Maps.{at_most-total, at_or_0, get-insert_other, get-insert_same}
use Rattle.mrc_model.proofs.Maps.{not_None, total-empty, total-insert}
use Rattle.mrc_model.specs.Covers.{owed}
use Rattle.mrc_model.specs.Map.{empty, get}
use Rattle.mrc_model.specs.Wiring.{Wiring, is_kernel_number, numbers_of}
use Rattle.mrc_model.specs.World.{Port, Space, Store, class_of, places, queue_rights, receives}
use Rattle.mrc_model.specs.World.{set_port, set_space, space, space_receives}
use Rattle.mrc_cover.proofs.Rights.{each_receives, queue_receives}

-- the class is that of a kernel port
abbrev pub is_kernel_class : Wiring → ℕ → Bool
is_kernel_class W c = is_kernel_number (numbers_of W) c

-- no receive right is in the empty space
pub space_receives-empty : (p : ℕ) → space_receives p empty ≡ 0
unfolding space_receives
space_receives-empty p = total-empty _

-- a task with no space has the empty one
pub at_space : (p t : ℕ) (o : Option Space)
    → at_or_0 (each_receives p) t o ≡ space_receives p (unwrap_or o empty)
at_space p t None = sym (space_receives-empty p)
at_space p t (Some x) = refl

-- the places of a receive right, where one space changes
pub places-set_space : (p : ℕ) (s : Store) (t : ℕ) (x : Space)
    → places p (set_space s t x) + space_receives p (space s t) ≡ places p s + space_receives p x
unfolding places
places-set_space p s t x =
    let a = total-insert (each_receives p) s.spaces t x in
    let b = at_space p t (get s.spaces t) in
    omega arith

-- a port whose queue or backup changes
pub class_of-set_port : (s : Store) (p : ℕ) (x y : Port) → get s.ports p ≡ Some x
    → y.class ≡ x.class → (q : ℕ)
    → class_of (set_port s p y) q ≡ class_of s q
class_of-set_port s p x y is same q = elim (cases_eq q p) [
  | inl e ↦ rw e (ap (option_map (λ (x : Port). x.class)) (get-insert_same s.ports p y)
      ∙ ap (λ c. Some c) same
      ∙ sym (ap (option_map (λ (x : Port). x.class)) is))
  | inr n ↦ ap (option_map (λ (x : Port). x.class)) (get-insert_other s.ports p y q n)
]

-- the places of a receive right, where one queue changes
pub places-set_port : (p : ℕ) (s : Store) (q : ℕ) (x y : Port) → get s.ports q ≡ Some x
    → places p (set_port s q y) + receives p (queue_rights x.queue) ≡ places p s + receives p
    (queue_rights y.queue)
unfolding places
places-set_port p s q x y is =
    let a = total-insert (queue_receives p) s.ports q y in
    let b = ap (at_or_0 (queue_receives p) q) is in
    omega arith

-- a receive right is in one space at most as often as in all places
pub space_at_most_places : (p : ℕ) (s : Store) (t : ℕ) → space_receives p (space s t) ≤ places p s
unfolding places
space_at_most_places p s t =
    let go : (o : Option Space) → get s.spaces t ≡ o
    → space_receives p (unwrap_or o empty) ≤ places p s = elim [
      | None ↦ λ e. rw space_receives-empty (omega arith)
      | Some x ↦ λ e. let a = at_most-total (each_receives p) s.spaces t x e in omega arith
    ] in
    go (get s.spaces t) refl

-- no receive right has to be in two places
pub owed_at_most_one : (W : Wiring) (c : ℕ) → owed (numbers_of W) c ≤ 1
owed_at_most_one W c =
    elim (is_kernel_class W c) as
    (λ b. (if b then 0 else 1) ≤ 1) [ true ↦ omega arith | false ↦ omega arith ]

-- a number with no class is that of no port
pub unborn : (s : Store) (p : ℕ) → class_of s p ≡ None → get s.ports p ≡ None
unborn s p none =
    let go : (o : Option Port) → option_map (λ (x : Port). x.class) o ≡ None → o ≡ None =
    elim [ None ↦ λ e. refl | Some x ↦ λ e. absurd (not_None x.class e) ] in
    go (get s.ports p) none

-- a port that has a class is live
pub port_of_class : (s : Store) (p c : ℕ) → class_of s p ≡ Some c
    → (x : Port) × (get s.ports p ≡ Some x)
port_of_class s p c is =
    let go : (o : Option Port) → get s.ports p ≡ o → option_map (λ (x : Port). x.class) o ≡ Some c
    → (x : Port) × (get s.ports p ≡ Some x) = elim [
      | None ↦ λ e z. absurd (not_None c (sym z))
      | Some x ↦ λ e z. (x, e)
    ] in
    go (get s.ports p) refl is

-- the class of a live port
pub live_class : (s : Store) (p : ℕ) (x : Port) → get s.ports p ≡ Some x
    → class_of s p ≡ Some x.class
live_class s p x is = ap (option_map (λ (x : Port). x.class)) is
