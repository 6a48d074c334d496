-- Step. What the machine keeps of tasks and spaces. From Mach 3 Kernel Interfaces, "Tasks". Numbers
-- of 32 bits are this profile's own choice.
use Rattle.std.specs.Prelude.{◌≡◌, ℕ, suc, ◌+◌, ◌<◌, ◌≤◌, ◌^◌, List, [], ◌∷◌, Option, Some, IsSome}
use Rattle.std.specs.Prelude.{nat_lt, if◌then◌else◌}
use Rattle.std.specs.Option.{option_and_then}
use Rattle.mrc_model.specs.Map.{get, Each}
use Rattle.mrc_model.specs.World.{Task, World, space, class_of}
use Rattle.mrc_model.specs.Target.{task_of, kernel_right}

-- the kernel ports of these tasks have ascending numbers, from low on
abbrev pub AreByKernel : ℕ → List (ℕ × Task) → Type 0
AreByKernel low [] = Unit {0}
AreByKernel low (e ∷ es) = (low ≤ e.1.kernel) × AreByKernel (e.1.kernel + 1) es

-- how many of these tasks have a kernel port before p, up to the first that has not
abbrev pub kernel_place : ℕ → List (ℕ × Task) → ℕ
kernel_place p [] = 0
kernel_place p (e ∷ es) = if nat_lt e.1.kernel p then suc (kernel_place p es) else 0

-- each task has a space, and each space a task; tasks have numbers of 32 bits; and of two tasks the
-- later one's kernel port was born later, all of them by now
pub record IsHoused (w : World) : Type 0 where
  pub spaces : (t : ℕ) → IsSome (get w.tasks t) → IsSome (get w.store.spaces t)
  pub homes : (t : ℕ) → IsSome (get w.store.spaces t) → IsSome (get w.tasks t)
  pub tasks : Each (λ t x. t < 2 ^ 32) w.tasks
  pub owners : Each (λ t x. t < 2 ^ 32) w.store.spaces
  pub order : (t u : ℕ) (x y : Task) → get w.tasks t ≡ Some x → get w.tasks u ≡ Some y → t < u
      → x.kernel < y.kernel
  pub born : Each (λ t x. x.kernel < w.store.next) w.tasks

-- the live task for whose kernel port a task has a send right under the name
abbrev pub target_of : World → ℕ → ℕ → Option ℕ
target_of w t name = task_of w (kernel_right (get (space w.store t) name))

-- the class of the kernel port of a task
abbrev pub kernel_class_of : World → ℕ → Option ℕ
kernel_class_of w u = option_and_then (λ (x : Task). class_of w.store x.kernel) (get w.tasks u)
