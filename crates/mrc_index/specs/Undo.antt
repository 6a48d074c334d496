-- Step. Changes that can be undone without memory. This profile's own choice.
use Rattle.std.specs.Prelude.{◌≡◌, ℕ, List, [], ◌∷◌, Option, Some, None, ⊤}
use Rattle.mrc_model.specs.declared.Entry.{Entry}
use Rattle.mrc_model.specs.Map.{get}
use Rattle.mrc_model.specs.World.{Space}
use Rattle.mrc_model.specs.Space.{put_entry}
use Rattle.mrc_index.specs.Names.{HoldsAlike}

-- this can come under the name without memory: nothing, or an entry of the same port and kind
abbrev pub CanPut : Space → ℕ → Option Entry → Type 0
CanPut x n None = ⊤
CanPut x n (Some e) = (d : Entry) × (get x n ≡ Some d) × HoldsAlike d e

-- the space before these changes, the last of which is undone first
abbrev pub undone : List (ℕ × Option Entry) → Space → Space
undone [] x = x
undone (s ∷ ss) x = put_entry (undone ss x) s.0 s.1

-- they can be undone without memory
abbrev pub CanUndo : List (ℕ × Option Entry) → Space → Type 0
CanUndo [] x = ⊤
CanUndo (s ∷ ss) x = CanPut (undone ss x) s.0 s.1 × CanUndo ss x
