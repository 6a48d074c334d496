-- Step. The fact that a text names. This profile's own choice.
use Rattle.std.specs.Prelude.{ℕ, Bool, List, Option, Some, None, codes, bytes_eq, nat_lt, length}
use Rattle.std.specs.Prelude.{◌==◌}
use Rattle.std.specs.Prelude.{if◌then◌else◌}
use Rattle.std.specs.List.{before_first, after_first, position_or_len}
use Rattle.mrc_base.specs.declared.PortRight.{PortRight}
use Rattle.mrc_base.specs.declared.PortRight.TheVariants.{Send, Receive, SendOnce}
use Rattle.mrc_base.specs.declared.Fact.{Fact}
use Rattle.mrc_base.specs.declared.Fact.TheVariants.{Hold, Carry, Backup}
use Rattle.mrc_wiring.specs.Names.{number_of, class_named}
use Rattle.mrc_wiring.specs.Table.{Table}

-- the one value and then the next, where there are both
infixl 10 ◌>>=◌
abbrev pub ◌>>=◌ : {A B : Type 0} → Option A → (A → Option B) → Option B
None >>= f = None
(Some x) >>= f = f x

-- the byte is a blank
abbrev pub is_blank : ℕ → Bool
is_blank b = b == 32

-- the word before the first blank, and what stands after the blank
abbrev pub cut : List ℕ → Option (List ℕ × List ℕ)
cut text =
    if nat_lt (position_or_len is_blank text) (length text)
    then Some (before_first is_blank text, after_first is_blank text) else None

-- the right of a word
abbrev pub right_named : List ℕ → Option PortRight
right_named word =
    if bytes_eq word (codes "send") then Some Send
    else if bytes_eq word (codes "receive") then Some Receive
    else if bytes_eq word (codes "once") then Some SendOnce
    else None

-- a holding: the words of its task, its class and its right
abbrev pub hold_named : Table → List ℕ → Option Fact
hold_named table text = do
  first ← cut text
  second ← cut first.1
  task ← number_of table.names first.0
  class ← class_named table second.0
  right ← right_named second.1
  Some (Hold task class right)

-- what messages carry: the words of the class that they go to, of the class of the right's ports,
-- and of the right
abbrev pub carry_named : Table → List ℕ → Option Fact
carry_named table text = do
  first ← cut text
  second ← cut first.1
  destination ← class_named table first.0
  class ← class_named table second.0
  right ← right_named second.1
  Some (Carry destination class right)

-- a port-destroyed request: the words of its two classes
abbrev pub backup_named : Table → List ℕ → Option Fact
backup_named table text = do
  first ← cut text
  class ← class_named table first.0
  notify ← class_named table first.1
  Some (Backup class notify)

-- the fact of a kind and of the words after it
abbrev pub fact_of_kind : Table → List ℕ → List ℕ → Option Fact
fact_of_kind table kind rest =
    if bytes_eq kind (codes "hold") then hold_named table rest
    else if bytes_eq kind (codes "carry") then carry_named table rest
    else if bytes_eq kind (codes "backup") then backup_named table rest
    else None

-- the fact that a text names
abbrev pub fact_named : Table → List ℕ → Option Fact
fact_named table text = cut text >>= λ parts. fact_of_kind table parts.0 parts.1
