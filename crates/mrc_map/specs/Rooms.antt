-- Believe. A map with room for so many keys, and its entries in any order. This profile's own
-- choice.
use Rattle.std.specs.Prelude.{◌≡◌, ℕ, List, nat_eq}
use Rattle.std.specs.Map.{keys_of}
use Rattle.std.specs.List.{IsDistinct}
use Rattle.mrc_model.specs.Map.{Map}
use Rattle.mrc_map.specs.Lookups.{gathered}

-- the map, and how many keys have room in it
pub record Roomy (X : Type 0) : Type 0 where
  pub map : Map X
  pub room : ℕ

-- these are the entries of the map, each once
pub record AreEntries {X : Type 0} (es : List (ℕ × X)) (m : Map X) : Type 0 where
  pub shown : gathered es ≡ m
  pub once : IsDistinct nat_eq (keys_of es)
