-- Step. The classes that types admit, as rows of bits: a row for each type that has an admit line,
-- and one row of every class for the others. This profile's own choice.
use Rattle.std.specs.Prelude.{◌≡◌, ℕ, ◌+◌, List, length, nat_lt, Vec}
use Rattle.std.specs.declared.alloc.Global.{Global}
use Rattle.mrc_bits.specs.Bits.{is_set}
use Rattle.mrc_wiring.specs.declared.births.BirthRow.{BirthRow}
use Rattle.mrc_wiring.specs.declared.table.AdmitLine.{AdmitLine}
use Rattle.mrc_wiring.specs.Marks.{AreMarked}
use Rattle.mrc_wiring.specs.Table.{admitted_of}

-- how many words a row of classes has: enough for as many classes as a wiring can have
abbrev pub class_words : ℕ
class_words = 21

-- the rows are those of a wiring with so many ports and tasks, these births and these admit lines
pub record IsAdmitting
    (ports tasks : ℕ)
    (births : List BirthRow)
    (admits : List AdmitLine)
    (rows : List (Vec ℕ Global))
    (every : List ℕ)
    : Type 0 where
  pub marked : AreMarked class_words (ports + tasks + length births)
      (admitted_of ports tasks births admits) rows
  pub each : (c : ℕ) → is_set every c ≡ nat_lt c (ports + tasks + length births)
  pub wide : length every ≡ class_words
