-- Step. The facts of a row, the rows that are kept, and how one is joined through a mask.
-- This profile's own choice.
use Rattle.std.specs.Prelude.{◌≡◌, ℕ, ◌*◌, ◌<◌, ◌≤◌, ◌==◌, ◌&&◌, ◌||◌, nat_lt}
use Rattle.std.specs.Prelude.{Bool, true, false, List, length, IsTrue, Vec}
use Rattle.std.specs.declared.alloc.Global.{Global}
use Rattle.mrc_base.specs.declared.Fact.{Fact}
use Rattle.mrc_base.specs.declared.Fact.TheVariants.{Hold, Carry, Backup}
use Rattle.mrc_facts.specs.Order.{right_number}
use Rattle.mrc_facts.specs.Sets.{has}
use Rattle.mrc_bits.specs.Bits.{is_set}
use Rattle.mrc_rows.specs.Rows.{is_within, row_of, place_of, words_of, AreSized, Shows}
use Rattle.mrc_base.specs.Limits.{limit_of_tasks}
use Rattle.mrc_rows.specs.Limits.{limit_of_classes, limit_of_rows}
use Rattle.mrc_rows.specs.declared.joining.Row.{Row}
use Rattle.mrc_rows.specs.declared.joining.Row.TheVariants.{Holds, Carries, Backups}

-- the fact stands in the row
abbrev pub is_of : Row → Fact → Bool
is_of (Holds t q) (Hold u c r) = u == t && right_number r == right_number q
is_of (Holds t q) (Carry d c r) = false
is_of (Holds t q) (Backup c d) = false
is_of (Carries d q) (Hold t c r) = false
is_of (Carries d q) (Carry e c r) = e == d && right_number r == right_number q
is_of (Carries d q) (Backup c e) = false
is_of (Backups c) (Hold t e r) = false
is_of (Backups c) (Carry d e r) = false
is_of (Backups c) (Backup e d) = e == c

-- both have the bit
abbrev pub is_in_both : List ℕ → List ℕ → ℕ → Bool
is_in_both more mask place = is_set more place && is_set mask place

-- the words are so many that the row has a place for each bit that both have and that it may have
abbrev pub HasRoom : List ℕ → List ℕ → ℕ → Type 0
HasRoom more mask count =
    (i : ℕ) → is_in_both more mask i ≡ true → i < limit_of_classes → i < 64 * count

-- the fact has a place in the row of this number
abbrev pub is_in_row : ℕ → Fact → Bool
is_in_row number g = is_within g && row_of g == number

-- the rows have the bits that they had, and those of one row that both have, as far as it goes
pub record JoinedBits (before after : List (Vec ℕ Global)) (row : ℕ) (more mask : List ℕ)
    : Type 0 where
  pub same : (k i : ℕ) → is_set (words_of after k) i ≡ (is_set (words_of before k) i
      || (k == row
      && (nat_lt i (64 * length (words_of before row)) && is_in_both more mask i)))
  pub sized : AreSized before → AreSized after
  pub few_rows : length before ≤ limit_of_rows → length after ≤ limit_of_rows

-- these rows show the facts, and those of one row whose bits both have
pub record ShowJoined
    (row : ℕ)
    (more mask : List ℕ)
    (facts : List Fact)
    (rows : List (Vec ℕ Global))
    (count : ℕ)
    : Type 0 where
  pub joined : List Fact
  pub shows : Shows rows count joined
  pub members : (g : Fact) → has joined g
      ≡ (has facts g || (is_in_row row g && is_in_both more mask (place_of g)))

-- the row is one of those that are kept
abbrev pub is_kept : Row → Bool
is_kept (Holds t q) = nat_lt t limit_of_tasks
is_kept (Carries d q) = nat_lt d limit_of_classes
is_kept (Backups c) = nat_lt c limit_of_classes

-- the row is kept as the one of this number
pub record IsNumber (row : Row) (number : ℕ) : Type 0 where
  pub there : number < limit_of_rows
  pub at : (g : Fact) → IsTrue (is_within g) → is_of row g ≡ (row_of g == number)
  pub within : (g : Fact) → is_of row g ≡ true
      → is_within g ≡ nat_lt (place_of g) limit_of_classes
