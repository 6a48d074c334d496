-- Believe. The six bytes of a fact, and their order. The profile's own choice.
use Rattle.std.specs.Prelude.{ℕ, ◌^◌, ◌<◌, Bool, List, [], ◌∷◌, ◌++◌}
use Rattle.std.specs.Int.{w16, to_be_bytes}
use Rattle.std.specs.declared.cmp.Ordering.{Ordering}
use Rattle.std.specs.Ordering.{nat_cmp, ordering_then, is_lt, is_eq}
use Rattle.mrc_base.specs.declared.Fact.{Fact}
use Rattle.mrc_base.specs.declared.Fact.TheVariants.{Hold, Carry, Backup}
use Rattle.mrc_base.specs.declared.PortRight.{PortRight}
use Rattle.mrc_base.specs.declared.PortRight.TheVariants.{Send, Receive, SendOnce}

-- the number of a right
abbrev pub right_number : PortRight → ℕ
right_number Send = 0
right_number Receive = 1
right_number SendOnce = 2

-- the kind of a fact, its first byte
abbrev pub kind : Fact → ℕ
kind (Hold task class right) = 1
kind (Carry destination class right) = 2
kind (Backup class notify) = 3

-- its first number
abbrev pub first_number : Fact → ℕ
first_number (Hold task class right) = task
first_number (Carry destination class right) = destination
first_number (Backup class notify) = class

-- its second number
abbrev pub second_number : Fact → ℕ
second_number (Hold task class right) = class
second_number (Carry destination class right) = class
second_number (Backup class notify) = notify

-- its last byte, which is the right, and 0 in a backup
abbrev pub last_byte : Fact → ℕ
last_byte (Hold task class right) = right_number right
last_byte (Carry destination class right) = right_number right
last_byte (Backup class notify) = 0

-- its six bytes: the kind, two numbers of two bytes, the last byte
abbrev pub fact_bytes : Fact → List ℕ
fact_bytes f =
    kind f ∷ to_be_bytes w16 (first_number f) ++ to_be_bytes w16 (second_number f)
    ++ last_byte f ∷ []

-- its numbers have two bytes
pub record FitsBytes (f : Fact) : Type 0 where
  pub first : first_number f < 2 ^ 16
  pub second : second_number f < 2 ^ 16

-- the order of facts: by kind, first number, second number and last byte
abbrev pub fact_cmp : Fact → Fact → Ordering
fact_cmp f g =
    ordering_then (nat_cmp (kind f) (kind g))
    (ordering_then (nat_cmp (first_number f) (first_number g))
    (ordering_then (nat_cmp (second_number f) (second_number g))
    (nat_cmp (last_byte f) (last_byte g))))

-- whether f comes before g
abbrev pub is_before : Fact → Fact → Bool
is_before f g = is_lt (fact_cmp f g)

-- whether f and g are one fact
abbrev pub is_same : Fact → Fact → Bool
is_same f g = is_eq (fact_cmp f g)
