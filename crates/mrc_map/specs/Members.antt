-- Believe. Only `IsFirst`: the first port of a set above one. This profile's own choice.
use Rattle.std.specs.Prelude.{◌≡◌, ℕ, suc, ◌<◌, ◌≤◌, ◌^◌, true, false, List, [], Option, Some}
use Rattle.std.specs.Prelude.{None}
use Rattle.std.specs.declared.ops.Bound.{Bound}
use Rattle.std.specs.declared.ops.Bound.TheVariants.{Excluded, Unbounded}
use Rattle.mrc_model.specs.Death.{has}

-- the number above the last one, or 0 where none was
abbrev pub above : Option ℕ → ℕ
above None = 0
above (Some p) = suc p

-- where the numbers above the last one begin
abbrev pub start : Option ℕ → Bound ℕ
start None = Unbounded
start (Some p) = Excluded p

-- it is the first member that is not below from
pub record IsMember (xs : List ℕ) (from p : ℕ) : Type 0 where
  pub there : has xs p ≡ true
  pub above : from ≤ p
  pub first : (q : ℕ) → from ≤ q → q < p → has xs q ≡ false
  pub short : p < 2 ^ 64

-- the same, if there is one
abbrev pub IsFirst : List ℕ → ℕ → Option ℕ → Type 0
IsFirst xs from None = (q : ℕ) → from ≤ q → has xs q ≡ false
IsFirst xs from (Some p) = IsMember xs from p

-- what a value gives, if there is one
abbrev pub of_some : {X A : Type 0} → (X → List A) → Option X → List A
of_some f None = []
of_some f (Some v) = f v
