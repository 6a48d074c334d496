-- Where a task stands by its kernel port.
use Rattle.std.proofs.Common.{◌≡◌, ℕ, suc, ◌+◌, ◌<◌, ◌≤◌, Bool, true, false, List, [], ◌∷◌, length}
use Rattle.std.proofs.Common.{Option, Some, None, inl, inr, refl, sym, ◌∙◌, ap, arith, nat_lt}
use Rattle.std.proofs.Common.{if◌then◌else◌}
use Rattle.std.specs.Prelude.{◌==◌}
use Prim.Native.Nat.{zero}
use Rattle.std.specs.List.{slice_get, slice_index_or}
use Rattle.std.specs.List.Sorted.{IsPartitionPoint, IsPartitionedBy}
use Rattle.std.proofs.lemmas.Bool.{and_right, cases_lt, ltb-true, lt-ltb, le-ltb, ne_eqb}
use Rattle.mrc_model.specs.World.{Task}
use Rattle.mrc_model.specs.Target.{first_task, has_kernel}
use Rattle.mrc_model.proofs.Maps.{if_true, if_false}
use Rattle.mrc_machine.specs.Housing.{AreByKernel, kernel_place}

-- the task's kernel port is before p
abbrev pub is_earlier : ℕ → ℕ × Task → Bool
is_earlier p e = nat_lt e.1.kernel p

-- a kernel port of tasks in order from low on is not below low
low_kernel : (low i : ℕ) (es : List (ℕ × Task)) (d : ℕ × Task)
    → AreByKernel low es
    → i < length es
    → low ≤ (slice_index_or es i d).1.kernel
low_kernel low i [] d r h = absurd (omega arith)
low_kernel low zero (e ∷ es) d r h = r.0
low_kernel low (suc i) (e ∷ es) d r h =
    let rest = low_kernel (e.1.kernel + 1) i es d r.1 (omega arith) in
    let here = r.0 in
    omega arith

-- of two tasks the later one's kernel port is not below the other's
kernels_rise : (low i j : ℕ) (es : List (ℕ × Task)) (d : ℕ × Task)
    → AreByKernel low es
    → i ≤ j
    → j < length es
    → (slice_index_or es i d).1.kernel ≤ (slice_index_or es j d).1.kernel
kernels_rise low i j [] d r le h = absurd (omega arith)
kernels_rise low zero zero (e ∷ es) d r le h = omega arith
kernels_rise low zero (suc j) (e ∷ es) d r le h =
    omega (arith, low_kernel (e.1.kernel + 1) j es d r.1 (omega arith))
kernels_rise low (suc i) zero (e ∷ es) d r le h = absurd (omega arith)
kernels_rise low (suc i) (suc j) (e ∷ es) d r le h =
    kernels_rise (e.1.kernel + 1) i j es d r.1 (omega arith) (omega arith)

-- the tasks with a kernel port before p stand in front
pub kernels_parted : (p : ℕ) (es : List (ℕ × Task))
    → AreByKernel 0 es
    → IsPartitionedBy (is_earlier p) es
kernels_parted p es r i j d le h below =
    lt-ltb _ p (omega (arith, kernels_rise 0 i j es d r le h, ltb-true _ p below))

-- where they end is the place of p
pub kernel_place_is : (p : ℕ) (es : List (ℕ × Task)) (i : ℕ)
    → i ≤ length es
    → IsPartitionPoint (λ e. is_earlier p e ≡ true) (λ e. is_earlier p e ≡ false) es i
    → i ≡ kernel_place p es
kernel_place_is p [] i h parted = omega arith
kernel_place_is p (e ∷ es) zero h parted =
    sym (if_false (nat_lt e.1.kernel p) (suc (kernel_place p es)) 0
    (parted.1 0 e (omega arith) (omega arith)))
kernel_place_is p (e ∷ es) (suc i) h parted =
    let rest : i ≡ kernel_place p es = kernel_place_is p es i (omega arith) (
      (λ n d a b. parted.0 (suc n) d (omega arith) (omega arith)),
      (λ n d a b. parted.1 (suc n) d (omega arith) (omega arith)),
    ) in
    let front = parted.0 0 e (omega arith) (omega arith) in
    ap suc rest ∙ sym (if_true (nat_lt e.1.kernel p) (suc (kernel_place p es)) 0 front)

-- a task with another kernel port
other_kernel : (p : ℕ) (x : Task) → (x.kernel ≡ p → ⊥) → has_kernel p x ≡ false
other_kernel p x other = and_right x.alive (x.kernel == p) (ne_eqb x.kernel p other)

-- the number of the task, if it is alive and p is its kernel port
abbrev pub kernel_at : ℕ → Option (ℕ × Task) → Option ℕ
kernel_at p None = None
kernel_at p (Some e) = if has_kernel p e.1 then Some e.0 else None

-- no task has a kernel port before all of theirs
none_earlier : (p low : ℕ) (es : List (ℕ × Task)) → AreByKernel low es → p < low
    → first_task p es ≡ None
none_earlier p low [] r below = refl
none_earlier p low (e ∷ es) r below =
    let here = r.0 in
    ap (λ b. if b then Some e.0 else first_task p es)
    (other_kernel p e.1 (λ same. absurd (omega arith)))
    ∙ none_earlier p (e.1.kernel + 1) es r.1 (omega arith)

-- the task stands at the place of its kernel port
found_at : (p low : ℕ) (es : List (ℕ × Task)) → AreByKernel low es
    → first_task p es ≡ kernel_at p (slice_get es (kernel_place p es))
found_at p low [] r = refl
found_at p low (e ∷ es) r = elim (cases_lt e.1.kernel p) [
  | inl before ↦
      ap (λ b. if b then Some e.0 else first_task p es)
      (other_kernel p e.1 (λ same. absurd (omega arith)))
      ∙ found_at p (e.1.kernel + 1) es r.1
      ∙ ap (λ n. kernel_at p (slice_get (e ∷ es) n))
      (sym (if_true (nat_lt e.1.kernel p) (suc (kernel_place p es)) 0
      (lt-ltb e.1.kernel p before)))
  | inr after ↦
      ap (λ o. if has_kernel p e.1 then Some e.0 else o)
      (none_earlier p (e.1.kernel + 1) es r.1 (omega arith))
      ∙ ap (λ n. kernel_at p (slice_get (e ∷ es) n))
      (sym (if_false (nat_lt e.1.kernel p) (suc (kernel_place p es)) 0
      (le-ltb e.1.kernel p after)))
]

-- an index within a list, and one past it

within : (es : List (ℕ × Task)) (i : ℕ) (d : ℕ × Task)
    → i < length es
    → slice_get es i ≡ Some (slice_index_or es i d)
within [] i d h = absurd (omega arith)
within (e ∷ es) zero d h = refl
within (e ∷ es) (suc i) d h = within es i d (omega arith)

beyond : (es : List (ℕ × Task)) (i : ℕ) → length es ≤ i → slice_get es i ≡ None
beyond [] zero h = refl
beyond [] (suc i) h = refl
beyond (e ∷ es) zero h = absurd (omega arith)
beyond (e ∷ es) (suc i) h = beyond es i (omega arith)

-- what is found at that place, from what code tells
module _ (p i : ℕ) (es : List (ℕ × Task)) (r : AreByKernel 0 es) (is : i ≡ kernel_place p es) where
  pub task_at : (e d : ℕ × Task) → i < length es → e ≡ slice_index_or es i d
      → first_task p es ≡ kernel_at p (Some e)
  task_at e d low at =
      found_at p 0 es r ∙ ap (λ n. kernel_at p (slice_get es n)) (sym is)
      ∙ ap (kernel_at p) (within es i d low ∙ ap Some (sym at))

  pub no_task_at : length es ≤ i → first_task p es ≡ None
  no_task_at high =
      found_at p 0 es r ∙ ap (λ n. kernel_at p (slice_get es n)) (sym is)
      ∙ ap (kernel_at p) (beyond es i high)
