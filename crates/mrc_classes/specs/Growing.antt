-- Believe. How a set of facts grows, and the parts by which it does; only `Added` has to be
-- believed. This profile's own choice.
use Rattle.std.specs.Prelude.{◌≡◌, ℕ, ◌<◌, ◌⊎◌, Bool, false, IsTrue}
use Rattle.mrc_base.specs.declared.Fact.{Fact}

-- `after` has what `before` has and the facts of P, and no other
pub record Added (before after : Fact → Bool) (P : Fact → Type 0) : Type 0 where
  pub kept : (g : Fact) → IsTrue (before g) → IsTrue (after g)
  pub all : (g : Fact) → P g → IsTrue (after g)
  pub new : (g : Fact) → IsTrue (after g) → IsTrue (before g) ⊎ P g

-- no fact
abbrev pub nothing : Fact → Bool
nothing g = false

-- this fact, where the test passes
pub record Only (test : Bool) (fact g : Fact) : Type 0 where
  pub there : IsTrue test
  pub is : g ≡ fact

-- one of those of the numbers below n
pub record Below (n : ℕ) (Q : ℕ → Fact → Type 0) (g : Fact) : Type 0 where
  pub place : ℕ
  pub below : place < n
  pub at : Q place g
