-- Step. What the index shows of a space: the names of a port, and free names. This profile's own
-- choice.
use Rattle.std.specs.Prelude.{◌≡◌, ℕ, ◌<◌, ◌^◌, Bool, false, not, List, length, Option, Some, None}
use Rattle.std.specs.Prelude.{true, ⊤, is_some, ◌==◌, ◌||◌, if◌then◌else◌}
use Rattle.mrc_model.specs.declared.Entry.{Entry}
use Rattle.mrc_model.specs.declared.Entry.TheVariants.{Receive as ReceiveEntry, Send as SendEntry}
use Rattle.mrc_model.specs.declared.Entry.TheVariants.{SendOnce as OnceEntry, PortSet as SetEntry}
use Rattle.mrc_model.specs.declared.Entry.TheVariants.{DeadName as DeadEntry}
use Rattle.mrc_model.specs.Map.{get, Each}
use Rattle.mrc_model.specs.World.{Space}
use Rattle.mrc_model.specs.Space.{is_entry_of, dead_entry}
use Rattle.mrc_model.specs.Death.{has}
use Rattle.mrc_bits.specs.Bits.{is_set}
use Rattle.mrc_index.specs.Pairs.{has_pair}

-- the entry is a send-once right on p
abbrev pub is_once_of : ℕ → Entry → Bool
is_once_of p (ReceiveEntry q k i) = false
is_once_of p (SendEntry q k) = false
is_once_of p (OnceEntry q) = q == p
is_once_of p SetEntry = false
is_once_of p (DeadEntry k) = false

-- the same where a name may have no entry
abbrev pub is_held_by : ℕ → Option Entry → Bool
is_held_by p None = false
is_held_by p (Some e) = is_entry_of p e

abbrev pub is_once_by : ℕ → Option Entry → Bool
is_once_by p None = false
is_once_by p (Some e) = is_once_of p e

-- the entry is a right on p
abbrev pub is_on : ℕ → Entry → Bool
is_on p e = is_entry_of p e || is_once_of p e

-- one for each right on p
abbrev pub count_on : ℕ → ℕ → Entry → ℕ
count_on p n e = if is_on p e then 1 else 0

-- what is left of an entry whose port dies
abbrev pub left_of : Entry → Option Entry
left_of (ReceiveEntry q k i) = dead_entry k
left_of (SendEntry q k) = dead_entry k
left_of (OnceEntry q) = Some (DeadEntry 1)
left_of SetEntry = Some SetEntry
left_of (DeadEntry k) = Some (DeadEntry k)

-- the entry's port is one of these
abbrev pub is_dead : List ℕ → Entry → Bool
is_dead ports (ReceiveEntry q k i) = has ports q
is_dead ports (SendEntry q k) = has ports q
is_dead ports (OnceEntry q) = has ports q
is_dead ports SetEntry = false
is_dead ports (DeadEntry k) = false

-- both are entries of the same port, of one kind; or neither is one of a port
pub record HoldsAlike (old new : Entry) : Type 0 where
  pub held : (p : ℕ) → is_entry_of p new ≡ is_entry_of p old
  pub once : (p : ℕ) → is_once_of p new ≡ is_once_of p old

-- what is left of an entry is of its port and kind, if anything is
abbrev pub IsRestOf : Entry → Option Entry → Type 0
IsRestOf e None = ⊤
IsRestOf e (Some f) = HoldsAlike e f

-- the index tells exactly what the space has
pub record IsIndexed (x : Space) (ports onces : List (ℕ × ℕ)) (bits : List ℕ) : Type 0 where
  pub held : (p n : ℕ) → has_pair ports p n ≡ is_held_by p (get x n)
  pub once : (p n : ℕ) → has_pair onces p n ≡ is_once_by p (get x n)
  pub free : (n : ℕ) → n < 4160 → is_set bits n ≡ not (is_some (get x n))
  pub words : length bits ≡ 65
  pub short : Each (λ n e. n < 2 ^ 32) x

-- n is the least name of p's receive and send entries but for k
pub record IsLeastBut (x : Space) (p k n : ℕ) : Type 0 where
  pub has : is_held_by p (get x n) ≡ true
  pub other : n ≡ k → ⊥
  pub least : (m : ℕ) → m < n → is_held_by p (get x m) ≡ true → m ≡ k
