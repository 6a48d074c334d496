-- Step. Which bit is a fact's, and the order of groups and keys. This profile's own choice.
use Rattle.std.specs.Prelude.{◌≡◌, ℕ, ◌+◌, ◌-◌, ◌*◌, ◌/◌, ◌%◌, ◌<◌, Bool, true, false, not, ◌&&◌}
use Rattle.std.specs.Prelude.{List, [], length}
use Rattle.std.specs.Prelude.{nat_lt, Vec, if◌then◌else◌, ◌≤◌, ◌⊎◌, ◌==◌, ◌||◌, slice_get}
use Rattle.std.specs.Prelude.{unwrap_or, option_map, IsTrue}
use Rattle.std.specs.declared.alloc.Global.{Global}
use Rattle.mrc_base.specs.declared.Fact.{Fact}
use Rattle.mrc_base.specs.declared.Fact.TheVariants.{Hold, Carry, Backup}
use Rattle.mrc_facts.specs.Order.{right_number, is_before}
use Rattle.mrc_facts.specs.Sets.{has, IsAscending}
use Rattle.mrc_bits.specs.Bits.{is_set}
use Rattle.mrc_base.specs.Limits.{limit_of_tasks}
use Rattle.mrc_rows.specs.Limits.{limit_of_classes, limit_of_words, limit_of_rows, limit_of_groups}
use Rattle.mrc_rows.specs.Limits.{first_row_of_carries, first_row_of_backups}
use Rattle.mrc_rows.specs.Limits.{first_group_of_backups}

-- the fact has a place in a row
abbrev pub is_within : Fact → Bool
is_within (Hold t c r) = nat_lt t limit_of_tasks && nat_lt c limit_of_classes
is_within (Carry d c r) = nat_lt d limit_of_classes && nat_lt c limit_of_classes
is_within (Backup c d) = nat_lt c limit_of_classes && nat_lt d limit_of_classes

abbrev pub IsWithin : Fact → Type 0
IsWithin f = IsTrue (is_within f)

-- the row of a fact: three for each task and for each class of which one is of each right, and one
-- for the backups of each class
abbrev pub row_of : Fact → ℕ
row_of (Hold t c r) = 3 * t + right_number r
row_of (Carry d c r) = first_row_of_carries + 3 * d + right_number r
row_of (Backup c d) = first_row_of_backups + c

abbrev pub place_of : Fact → ℕ
place_of (Hold t c r) = c
place_of (Carry d c r) = c
place_of (Backup c d) = d

-- the words of a row
abbrev pub words_of : List (Vec ℕ Global) → ℕ → List ℕ
words_of rows k = unwrap_or (option_map (λ (row : Vec ℕ Global). row.items) (slice_get rows k)) []

-- the fact's bit is set
abbrev pub is_shown : List (Vec ℕ Global) → Fact → Bool
is_shown rows f = is_within f && is_set (words_of rows (row_of f)) (place_of f)

-- no row has more words than it may have
abbrev pub AreSized : List (Vec ℕ Global) → Type 0
AreSized rows = (k : ℕ) → length (words_of rows k) ≤ limit_of_words

-- the rows have the same bits
pub record SameBits (before after : List (Vec ℕ Global)) : Type 0 where
  pub same : (k i : ℕ) → is_set (words_of after k) i ≡ is_set (words_of before k) i
  pub sized : AreSized before → AreSized after
  pub few_rows : length before ≤ limit_of_rows → length after ≤ limit_of_rows

-- and one more
pub record OneMoreBit (before after : List (Vec ℕ Global)) (row place : ℕ) : Type 0 where
  pub same : (k i : ℕ) → is_set (words_of after k) i
      ≡ ((k == row && i == place) || is_set (words_of before k) i)
  pub sized : AreSized before → AreSized after
  pub few_rows : length before ≤ limit_of_rows → length after ≤ limit_of_rows

-- and one less
pub record OneLessBit (before after : List (Vec ℕ Global)) (row place : ℕ) : Type 0 where
  pub same : (k i : ℕ) → is_set (words_of after k) i
      ≡ (not (k == row && i == place) && is_set (words_of before k) i)
  pub sized : AreSized before → AreSized after
  pub few_rows : length before ≤ limit_of_rows → length after ≤ limit_of_rows

-- the order of facts: by group, and then by key

-- the facts of a task, of what is carried to a class, of a class's backups
abbrev pub group_of : Fact → ℕ
group_of (Hold t c r) = t
group_of (Carry d c r) = limit_of_tasks + d
group_of (Backup c d) = first_group_of_backups + c

abbrev pub key_of : Fact → ℕ
key_of (Hold t c r) = 3 * c + right_number r
key_of (Carry d c r) = 3 * c + right_number r
key_of (Backup c d) = 3 * d

-- the words of a right in a group, by the right's number; those of backups are of the first right
abbrev pub plane_of : List (Vec ℕ Global) → ℕ → ℕ → List ℕ
plane_of rows k right =
    if nat_lt k first_group_of_backups then words_of rows (3 * k + right)
    else if right == 0 then words_of rows (first_row_of_backups + (k - first_group_of_backups))
    else []

-- the bit of a key in a group
abbrev pub is_key : List (Vec ℕ Global) → ℕ → ℕ → Bool
is_key rows k i = is_set (plane_of rows k (i % 3)) (i / 3)

-- the first group that may have a fact behind this one
abbrev pub start_group : Fact → ℕ
start_group (Hold t c r) = if nat_lt t limit_of_tasks then t else limit_of_tasks
start_group (Carry d c r) =
    if nat_lt d limit_of_classes then limit_of_tasks + d else first_group_of_backups
start_group (Backup c d) = first_group_of_backups + c

-- and the key where such begin in it
abbrev pub start_key : Fact → ℕ
start_key (Hold t c r) = if nat_lt t limit_of_tasks then 3 * c + right_number r + 1 else 0
start_key (Carry d c r) = if nat_lt d limit_of_classes then 3 * c + right_number r + 1 else 0
start_key (Backup c d) = 3 * d + 1

-- this group and key, or later ones
abbrev pub IsFrom : ℕ → ℕ → ℕ → ℕ → Type 0
IsFrom group key k i = (group < k) ⊎ ((group ≡ k) × (key ≤ i))

-- the first key of a fact, from this one on
pub record IsNextKey (rows : List (Vec ℕ Global)) (group key k i : ℕ) : Type 0 where
  pub from_there : IsFrom group key k i
  pub within : k < limit_of_groups
  pub set : is_key rows k i ≡ true
  pub first : (j m : ℕ) → IsFrom group key j m → (j < k) ⊎ ((j ≡ k) × (m < i))
      → is_key rows j m ≡ false

-- no fact from this key on
abbrev pub NoKey : List (Vec ℕ Global) → ℕ → ℕ → Type 0
NoKey rows group key =
    (j m : ℕ) → j < limit_of_groups → IsFrom group key j m → is_key rows j m ≡ false

-- the least of the facts from this key on
pub record IsFirstFrom (facts : List Fact) (group key : ℕ) (f : Fact) : Type 0 where
  pub member : IsTrue (has facts f)
  pub within : IsWithin f
  pub from_there : IsFrom group key (group_of f) (key_of f)
  pub least : (h : Fact) → IsTrue (has facts h) → IsFrom group key (group_of h) (key_of h)
      → is_before h f ≡ false

-- none of the facts is there
abbrev pub NoneFrom : List Fact → ℕ → ℕ → Type 0
NoneFrom facts group key = (h : Fact) → IsTrue (has facts h)
    → IsFrom group key (group_of h) (key_of h) → ⊥

-- the rows show these facts
pub record Shows (rows : List (Vec ℕ Global)) (count : ℕ) (facts : List Fact) : Type 0 where
  pub same : (f : Fact) → has facts f ≡ is_shown rows f
  pub ascending : IsAscending facts
  pub len : length facts ≡ count
  pub few_rows : length rows ≤ limit_of_rows
  pub sized : AreSized rows

-- the facts that rows show
abbrev pub Shown : List (Vec ℕ Global) → ℕ → Type 0
Shown rows count = (facts : List Fact) × Shows rows count facts
