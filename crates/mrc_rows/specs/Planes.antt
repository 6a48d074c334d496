-- Step. The rows of a group side by side, and the order of the places in them.
-- This profile's own choice.
use Rattle.std.specs.Prelude.{◌≡◌, ℕ, ◌+◌, ◌*◌, ◌/◌, ◌%◌, ◌<◌, ◌≤◌, ◌==◌, ◌||◌, Bool, true, false}
use Rattle.std.specs.Prelude.{List, Option, Some, None, if◌then◌else◌}
use Rattle.mrc_base.specs.declared.Fact.{Fact}
use Rattle.mrc_base.specs.declared.PortRight.{PortRight}
use Rattle.mrc_facts.specs.Order.{right_number}
use Rattle.mrc_bits.specs.Bits.{is_set}
use Rattle.mrc_rows.specs.Rows.{IsWithin, group_of, key_of}
use Rattle.mrc_rows.specs.declared.planes.Planes.{Planes}

-- the row of a right, by the right's number
abbrev pub plane : Planes → ℕ → List ℕ
plane planes right =
    if right == 0 then planes.send.now
    else if right == 1 then planes.receive.now else planes.once.now

-- some row has the bit of the class
abbrev pub has_class : Planes → ℕ → Bool
has_class planes class = is_set planes.send.now class
    || (is_set planes.receive.now class || is_set planes.once.now class)

-- the bit of a key
abbrev pub is_in : Planes → ℕ → Bool
is_in planes key = is_set (plane planes (key % 3)) (key / 3)

-- the key of a right on a class
abbrev pub place_key : ℕ × PortRight → ℕ
place_key place = 3 * place.0 + right_number place.1

-- the first key behind a place; without a place the first of all
abbrev pub key_behind : Option (ℕ × PortRight) → ℕ
key_behind None = 0
key_behind (Some place) = place_key place + 1

-- the first number from this one on that passes a test
pub record IsFirstBy (test : ℕ → Bool) (from i : ℕ) : Type 0 where
  pub from_there : from ≤ i
  pub set : test i ≡ true
  pub first : (j : ℕ) → from ≤ j → j < i → test j ≡ false

-- no number from this one on passes it
abbrev pub NoneBy : (ℕ → Bool) → ℕ → Type 0
NoneBy test from = (j : ℕ) → from ≤ j → test j ≡ false

-- the right is the first one whose row has the bit of the class
pub record IsFirstRight (planes : Planes) (class : ℕ) (right : PortRight) : Type 0 where
  pub set : is_set (plane planes (right_number right)) class ≡ true
  pub first : (q : ℕ) → q < right_number right → is_set (plane planes q) class ≡ false

-- f is the first one behind g in its group, of the facts whose bits are set
pub record IsNextInGroup (planes : Planes) (g f : Fact) : Type 0 where
  pub within : IsWithin f
  pub group : group_of f ≡ group_of g
  pub later : key_of g < key_of f
  pub set : is_in planes (key_of f) ≡ true
  pub first : (h : Fact) → IsWithin h → group_of h ≡ group_of g → key_of g < key_of h
      → key_of h < key_of f → is_in planes (key_of h) ≡ false
