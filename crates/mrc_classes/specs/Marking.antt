-- Step. Marks of rights on classes, and how they grow. This profile's own choice.
use Rattle.std.specs.Prelude.{ℕ, ◌<◌, ◌⊎◌, Bool, List, IsTrue}
use Rattle.mrc_base.specs.declared.PortRight.{PortRight}
use Rattle.mrc_base.specs.declared.PortRight.TheVariants.{Send, Receive, SendOnce}
use Rattle.mrc_bits.specs.Bits.{is_set}
use Rattle.mrc_classes.specs.declared.marks.Marks.{Marks}

-- the row of bits of a right
abbrev pub words_of : Marks → PortRight → List ℕ
words_of marks Send = marks.send
words_of marks Receive = marks.receive
words_of marks SendOnce = marks.once

-- the right is marked at the class
abbrev pub is_marked : Marks → ℕ → PortRight → Bool
is_marked marks c r = is_set (words_of marks r) c

-- of the classes below n, `after` has the marks that `before` has and those of P, and no other
pub record Marked (n : ℕ) (before after : ℕ → PortRight → Bool) (P : ℕ → PortRight → Type 0)
    : Type 0 where
  pub kept : (c : ℕ) (r : PortRight) → c < n → IsTrue (before c r) → IsTrue (after c r)
  pub all : (c : ℕ) (r : PortRight) → c < n → P c r → IsTrue (after c r)
  pub new : (c : ℕ) (r : PortRight) → c < n → IsTrue (after c r)
      → IsTrue (before c r) ⊎ P c r
