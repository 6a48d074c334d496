-- Step. Whether a world breaks a line of a policy, computed from the list of what is held: on
-- which ports tasks that count as one of the line's class hold a send right. This profile's own
-- choice.
use Rattle.std.specs.Prelude.{◌≡◌, ℕ, suc, true, false, Bool, ◌&&◌, ◌||◌, not, ◌==◌, List, [], ◌∷◌}
use Rattle.std.specs.Prelude.{Option, Some, None, if◌then◌else◌, refl}
use Rattle.std.specs.List.{AllByRecursion}
use Rattle.mrc_base.specs.declared.PortRight.TheVariants.{Send}
use Rattle.mrc_model.specs.declared.Verb.TheVariants.{Takes}
use Rattle.mrc_model.specs.Rights.{same_right}
use Rattle.mrc_model.specs.Map.{get}
use Rattle.mrc_model.specs.Death.{has}
use Rattle.mrc_model.specs.Wiring.{Wiring, is_limited}
use Rattle.mrc_model.specs.World.{Task, World, task_class, class_of}
use Rattle.mrc_model.specs.Breach.{Counts, Forbid, Holding, Holds}

-- a live task whose kernel port is one of these
abbrev pub is_reached : List ℕ → Option Task → Bool
is_reached ports None = false
is_reached ports (Some x) = x.alive && has ports x.kernel

-- a live task with this kernel port is reached, one with another is not, and none that has ended is
kernel_is_reached : is_reached (2 ∷ 3 ∷ []) (Some record { alive = true; kernel = 3; class = 0 })
    ≡ true
kernel_is_reached = refl

other_is_not_reached : is_reached (2 ∷ []) (Some record { alive = true; kernel = 3; class = 0 })
    ≡ false
other_is_not_reached = refl

ended_is_not_reached : is_reached (3 ∷ []) (Some record { alive = false; kernel = 3; class = 0 })
    ≡ false
ended_is_not_reached = refl

-- t is of the class, or its kernel port is one of these
abbrev pub is_counted : World → ℕ → List ℕ → ℕ → Bool
is_counted w class ports t = task_class w t == class || is_reached ports (get w.tasks t)

-- a counted task that no line limits holds this send right, and its port is not yet one of these
abbrev pub is_new : Wiring → World → ℕ → List ℕ → Holding → Bool
is_new W w class ports h =
    same_right h.right Send && not (has ports h.port)
    && is_counted w class ports h.task && not (is_limited W Takes (task_class w h.task))

-- a port is of the class
abbrev pub is_of_class : ℕ → Option ℕ → Bool
is_of_class class None = false
is_of_class class (Some c) = c == class

-- a counted task holds this, and the line forbids it
abbrev pub breaks : World → Forbid → List ℕ → Holding → Bool
breaks w line ports h =
    same_right h.right line.right && is_of_class line.class (class_of w.store h.port)
    && is_counted w line.task ports h.task

-- t is a task that one of the class counts as
abbrev pub IsCounted : Wiring → World → ℕ → ℕ → Type 0
IsCounted W w class t = (named : ℕ) × (task_class w named ≡ class) × Counts W w named t

-- such a task, which no line limits, holds a send right on each of these ports
abbrev pub AreReached : Wiring → World → ℕ → List ℕ → Type 0
AreReached W w class ports =
    (p : ℕ) → has ports p ≡ true
    → (t : ℕ) × IsCounted W w class t × Holds w t p Send
    × (is_limited W Takes (task_class w t) ≡ false)

-- these are held
abbrev pub AreHeld : World → List Holding → Type 0
AreHeld w hs = AllByRecursion (λ h. Holds w h.task h.port h.right) hs

-- on how many of these the ports are not yet among these
abbrev pub left : List ℕ → List Holding → ℕ
left ports [] = 0
left ports (h ∷ hs) = if has ports h.port then left ports hs else suc (left ports hs)

-- of two holdings one is left
one_is_left : left (2 ∷ []) (record { task = 0; port = 2; right = Send }
    ∷ record { task = 0; port = 3; right = Send } ∷ []) ≡ 1
one_is_left = refl

-- one more, if another pass is to follow
abbrev pub left_after : Bool → List ℕ → List Holding → ℕ
left_after more ports hs = if more then suc (left ports hs) else left ports hs
