-- Believe. When another task could rewrite a trusted task: it may hold the trusted task's kernel
-- port, and lines do not limit both what it takes and what it gives. On Mach it could then change
-- the code of the trusted task, which is expected to do what the trust lines say. This profile's
-- own reading.
use Rattle.std.specs.Prelude.{◌≡◌, ℕ, ◌<◌, ◌==◌, ◌&&◌, Bool, true, false, not, List, ◌∷◌, ◌++◌}
use Rattle.std.specs.Prelude.{nat_lt}
use Rattle.mrc_base.specs.declared.Fact.{Fact}
use Rattle.mrc_base.specs.declared.Fact.TheVariants.{Hold}
use Rattle.mrc_base.specs.declared.PortRight.TheVariants.{Send}
use Rattle.mrc_model.specs.declared.Verb.TheVariants.{Takes, Gives}
use Rattle.mrc_model.specs.IsIn.{IsIn}
use Rattle.mrc_model.specs.Wiring.{Wiring, is_limited, kernel_class}
use Rattle.mrc_wiring.specs.declared.table.TrustedLine.{TrustedLine}
use Rattle.mrc_wiring.specs.Table.{Table, wiring_of}

-- lines limit both what tasks of class u take and what they give
abbrev pub is_bound : Wiring → ℕ → Bool
is_bound W u = is_limited W Takes u && is_limited W Gives u

-- u is another task than t, is not bound, and may hold t's kernel port by the set
abbrev pub may_rewrite : Wiring → (Fact → Bool) → ℕ → ℕ → Bool
may_rewrite W S t u =
    nat_lt t W.tasks && (not (u == t)
    && (not (is_bound W u) && S (Hold u (kernel_class W t) Send)))

-- no task of the wiring may rewrite t
abbrev pub IsSecure : Wiring → (Fact → Bool) → ℕ → Type 0
IsSecure W S t = (u : ℕ) → u < W.tasks → may_rewrite W S t u ≡ false

-- this is so of each task that one of the lines names
abbrev pub AreSecure : Wiring → (Fact → Bool) → List TrustedLine → Type 0
AreSecure W S lines = (line : TrustedLine) → IsIn line lines → IsSecure W S line.task

-- u is the first task that may rewrite t
pub record IsFirstRewriter (W : Wiring) (S : Fact → Bool) (t u : ℕ) : Type 0 where
  pub there : u < W.tasks
  pub may : may_rewrite W S t u ≡ true
  pub first : (v : ℕ) → v < u → may_rewrite W S t v ≡ false

-- line n is the first trust line whose task another may rewrite, and f is the hold by which the
-- first of those tasks may
pub record IsExposed (table : Table) (S : Fact → Bool) (n : ℕ) (f : Fact) : Type 0 where
  pub before : List TrustedLine
  pub line : TrustedLine
  pub behind : List TrustedLine
  pub lines : table.trusts ≡ before ++ line ∷ behind
  pub secure : AreSecure (wiring_of table) S before
  pub number : line.line ≡ n
  pub task : ℕ
  pub first : IsFirstRewriter (wiring_of table) S line.task task
  pub fact : f ≡ Hold task (kernel_class (wiring_of table) line.task) Send
