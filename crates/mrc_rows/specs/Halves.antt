-- Step. Facts in rows, and those next to them. A set of facts in two halves: rows of bits, and a
-- list of those that have no place in them.
use Rattle.std.specs.Prelude.{◌≡◌, ◌+◌, false, ◌||◌, List, length, IsTrue, Option, Some, None}
use Rattle.std.specs.Prelude.{if◌then◌else◌}
use Rattle.mrc_base.specs.declared.Fact.{Fact}
use Rattle.mrc_facts.specs.Order.{is_before}
use Rattle.mrc_facts.specs.Sets.{has, IsAscending}
use Rattle.mrc_rows.specs.Rows.{is_within, IsWithin}

-- these are the facts of both halves
pub record IsWhole (rows others facts : List Fact) : Type 0 where
  pub same : (f : Fact) → has facts f ≡ (has rows f || has others f)
  pub within : (f : Fact) → IsTrue (has rows f) → IsWithin f
  pub outside : (f : Fact) → IsTrue (has others f) → is_within f ≡ false
  pub len : length facts ≡ length rows + length others
  pub ascending : IsAscending facts
  pub rows_ascending : IsAscending rows
  pub others_ascending : IsAscending others

-- the facts of both halves
abbrev pub Whole : List Fact → List Fact → Type 0
Whole rows others = (facts : List Fact) × IsWhole rows others facts

-- the one that comes first, where there are two
abbrev pub earlier : Option Fact → Option Fact → Option Fact
earlier None two = two
earlier (Some f) None = Some f
earlier (Some f) (Some g) = if is_before g f then Some g else Some f
