-- Tables of equal parts.
use Rattle.std.proofs.Common.{◌≡◌, ℕ, ◌≤◌, List, length}
use Rattle.mrc_base.specs.Limits.{limit_of_ids}
use Rattle.mrc_forms.specs.Tables.{AreForms, Row}

-- tables of equal parts
pub same_forms : (name other : List ℕ) (base : ℕ) (rows others : List Row)
    → other ≡ name → others ≡ rows
    → (length rows ≤ limit_of_ids) × AreForms record { name = name; base = base; rows = rows }
    → (length others ≤ limit_of_ids)
    × AreForms record { name = other; base = base; rows = others }
same_forms name other base rows others names are is = rw (names, are) is
