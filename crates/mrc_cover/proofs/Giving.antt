-- A right from the hand that is given to a task.
use Rattle.std.proofs.Common.{List, arith, ℕ, ◌++◌, ◌+◌, ◌∷◌, ◌≡◌, ◌≤◌}
use Rattle.mrc_base.specs.declared.PortRight.{PortRight}
use Rattle.mrc_model.proofs.Spaces.{space-set_other, space-set_same}
use Rattle.mrc_model.specs.Covers.{Known, KnownAt}
use Rattle.mrc_model.specs.Map.{len}
use Rattle.mrc_model.specs.Rules.{FactSet}
use Rattle.mrc_model.specs.Space.{give_item, place}
use Rattle.mrc_model.specs.Wiring.{Wiring}
use Rattle.mrc_model.specs.World.{Held, Space, Store, class_of, item_rights, set_space, space}
use Rattle.mrc_model.specs.declared.Item.{Item}
use Rattle.mrc_model.specs.declared.Item.TheVariants.{Dead as DeadItem, Null as NullItem}
use Rattle.mrc_model.specs.declared.Item.TheVariants.{Right as RightItem}
use Rattle.mrc_cover.proofs.Gaining.{HasGained, place_gains}
use Rattle.mrc_cover.proofs.Rights.{MayHold, right_on}
use Rattle.mrc_cover.proofs.Sound.{Leaves, SoundWith, changes_nothing, receive_in_hand_is_alone}
use Rattle.mrc_cover.proofs.Sound.{set_space_changes, set_space_sound}

module _ (W : Wiring) (G : FactSet) (task : ℕ → ℕ) (A : ℕ → Type 0) where
  -- a space with one more right, which was in hand
  pub gained_leaves : (s : Store) (hand : List Held) (t p : ℕ) (r : PortRight) (y : Space) → A t
      → SoundWith W G task s (right_on p r ∷ hand)
      → KnownAt (class_of s) (MayHold G (task t)) (right_on p r)
      → HasGained (class_of s) (MayHold G (task t)) (space s t) y p r
      → Leaves W G task A s hand (set_space s t y)
  gained_leaves s hand t p r y mine sound known gained = record {
    sound = set_space_sound W G task s (right_on p r ∷ hand) hand t y sound
        (λ q c at. let a = gained.count q in omega arith)
        (gained.known (sound.covers.held t) known)
        (gained.one_name (sound.one_name t));
    changes = set_space_changes s t y mine;
  }

  -- a right goes from the hand to a task that may hold it
  pub give_right_leaves : (s : Store) (hand : List Held) (t p : ℕ) (r : PortRight) → A t
      → SoundWith W G task s (right_on p r ∷ hand)
      → KnownAt (class_of s) (MayHold G (task t)) (right_on p r)
      → Leaves W G task A s hand (give_item s t (RightItem p r)).0
      × (len (space (give_item s t (RightItem p r)).0 t) ≤ len (space s t) + 1)
      × ((u : ℕ) → (u ≡ t → ⊥) → space (give_item s t (RightItem p r)).0 u ≡ space s u)
  unfolding give_item
  give_right_leaves s hand t p r mine sound known =
      let ok = place_gains (class_of s) (MayHold G (task t)) (space s t) p r
      (receive_in_hand_is_alone W G task s hand t p r (MayHold G (task t)) sound known) in (
        gained_leaves s hand t p r (place (space s t) p r).space mine sound known ok,
        rw
            (space-set_same s t (place (space s t) p r).space) ok.size,
        λ u n. space-set_other s t u (place (space s t) p r).space n,
      )

  -- so does what a message carries in the place of a name
  pub give_item_leaves : (s : Store) (hand : List Held) (t : ℕ) (i : Item) → A t
      → SoundWith W G task s (item_rights i ++ hand)
      → Known (class_of s) (MayHold G (task t)) (item_rights i)
      → Leaves W G task A s hand (give_item s t i).0
  unfolding give_item
  give_item_leaves s hand t NullItem mine sound known =
      record { sound = sound; changes = changes_nothing A s }
  give_item_leaves s hand t DeadItem mine sound known =
      record { sound = sound; changes = changes_nothing A s }
  give_item_leaves s hand t (RightItem p r) mine sound known =
      (give_right_leaves s hand t p r mine sound known.all.0).0
