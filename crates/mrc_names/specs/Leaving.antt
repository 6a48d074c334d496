-- Step. A space after changes that are kept next to it. This profile's own choice.
use Rattle.std.specs.Prelude.{◌≡◌, ℕ, List, [], ◌∷◌, Option, Some}
use Rattle.mrc_model.specs.declared.Entry.{Entry}
use Rattle.mrc_model.specs.Map.{Map, get, Each}
use Rattle.mrc_model.specs.World.{Space}
use Rattle.mrc_model.specs.Space.{put_entry}
use Rattle.mrc_index.specs.Names.{IsRestOf}

-- what is left of names, and of how many names that can be kept
pub record Rests : Type 0 where
  pub changes : Map (Option Entry)
  pub names : ℕ

-- the space after these changes, one after the other
abbrev pub patched_by : List (ℕ × Option Entry) → Space → Space
patched_by [] x = x
patched_by (c ∷ cs) x = patched_by cs (put_entry x c.0 c.1)

-- the same for changes by name
unfoldable pub patched : Space → Map (Option Entry) → Space
patched x changes = patched_by changes.list x

-- the name has an entry, of which this may be left: nothing, or one of the same port and kind
abbrev pub HasRest : Space → ℕ → Option Entry → Type 0
HasRest x n rest = (e : Entry) × (get x n ≡ Some e) × IsRestOf e rest

-- so it is for each change
abbrev pub AreRests : Space → Map (Option Entry) → Type 0
AreRests x changes = Each (HasRest x) changes
