-- Step. The store after what a task has given so far. This profile's own choice.
use Rattle.std.specs.Prelude.{◌≡◌, ◌≤◌, ◌+◌, ◌-◌, ◌/◌, List, [], ◌∷◌, ◌++◌, length, ℕ, Option}
use Rattle.mrc_base.specs.Limits.{limit_of_message}
use Rattle.mrc_base.specs.declared.PortRight.{PortRight}
use Rattle.mrc_base.specs.declared.PortRight.TheVariants.{Send, Receive, SendOnce}
use Rattle.mrc_model.specs.declared.Entry.{Entry}
use Rattle.mrc_model.specs.declared.Item.{Item}
use Rattle.mrc_model.specs.Map.{Map, empty, len}
use Rattle.mrc_model.specs.World.{Space, Store, set_space}
use Rattle.mrc_model.specs.Space.{restart}
use Rattle.mrc_names.specs.Leaving.{patched}

-- the sender's space after what was taken, and the ports whose receive rights were taken, in order
pub record Taking : Type 0 where
  pub space : Space
  pub moved : List ℕ

-- the receipts of these ports are 0 again
abbrev pub restart_each : Store → List ℕ → Store
restart_each s [] = s
restart_each s (p ∷ ps) = restart_each (restart s p) ps

-- the store s after what t has given
unfoldable pub staged : Store → ℕ → Taking → Store
staged s t g = restart_each (set_space s t g.space) g.moved

-- the ports whose receive rights were taken, after one right more
abbrev pub moved_by : PortRight → List ℕ → ℕ → List ℕ
moved_by Send ps p = ps
moved_by Receive ps p = ps ++ p ∷ []
moved_by SendOnce ps p = ps

-- what takings leave of names, the ports whose receive rights were taken, and what the names of
-- arguments carry, in order
pub record Scratch : Type 0 where
  pub rests : Map (Option Entry)
  pub moved : List ℕ
  pub items : List Item

-- nothing was taken yet
abbrev pub no_scratch : Scratch
no_scratch = record { rests = empty; moved = []; items = [] }

-- what was taken of a space
abbrev pub taken_of : Space → Scratch → Taking
taken_of x scratch = record { space = patched x scratch.rests; moved = scratch.moved }

-- as many names are in a message at most: two in its header, and each other one takes four bytes
abbrev pub limit_of_taken : ℕ
limit_of_taken = (limit_of_message - 24) / 4 + 2

-- of these numbers of names, ports and items each is room for as many
pub record IsRoomy (names ports items : ℕ) : Type 0 where
  pub names_fit : limit_of_taken ≤ names
  pub ports_fit : limit_of_taken ≤ ports
  pub items_fit : limit_of_taken ≤ items

-- there is room for n names more
pub record HasRoom (n : ℕ) (scratch : Scratch) : Type 0 where
  pub rests : len scratch.rests + n ≤ limit_of_taken
  pub moved : length scratch.moved + n ≤ limit_of_taken
  pub items : length scratch.items + n ≤ limit_of_taken

-- so many names take no more room than is there
abbrev pub Spends : ℕ → Scratch → Scratch → Type 0
Spends names old new = (n : ℕ) → HasRoom (n + names) old → HasRoom n new
