-- What stands before others that may be missing.
use Rattle.std.proofs.Common.{List, ◌++◌, Option}
use Rattle.std.specs.Prelude.{option_map}

-- these stand before the others
abbrev pub with_front : {A : Type 0} → List A → Option (List A) → Option (List A)
with_front front o = option_map (λ items. front ++ items) o
