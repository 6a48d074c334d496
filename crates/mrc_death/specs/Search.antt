-- Step. What the search for the ports that die keeps. What the search for the ports that die keeps.
use Rattle.std.specs.Prelude.{◌≡◌, ◌⊎◌, ℕ, ◌+◌, ◌≤◌, true, false, not, List, [], ◌∷◌, ◌++◌, length}
use Rattle.std.specs.Prelude.{take, Some}
use Rattle.std.specs.List.{slice_get, filter}
use Rattle.mrc_base.specs.declared.PortRight.TheVariants.{Receive}
use Rattle.mrc_model.specs.declared.Backup.TheVariants.{Port as BackupPort}
use Rattle.mrc_model.specs.Map.{get, keys}
use Rattle.mrc_model.specs.World.{Store, Held}
use Rattle.mrc_model.specs.Death.{has, has_receive, queued_rights, is_lost, backup_of, Doomed}
use Rattle.mrc_model.specs.Death.{is_kernel_of, dying}
use Rattle.mrc_death.specs.Heads.{head_at}
use Rattle.mrc_death.specs.declared.search.Link.{Link}
use Rattle.mrc_death.specs.declared.search.Search.{Search}

-- The list of links that begins at number h and goes from each to the one before it has the port p,
-- and each link up
-- to it is b's. Link k has number k + 1, and 0 is the empty list.
pub data Linked (links : List Link) (b : ℕ) : ℕ → ℕ → Type 0 where
  here : {h p : ℕ} (k : ℕ) (e : Link) → h ≡ k + 1 → slice_get links k ≡ Some e → e.backup ≡ b
      → e.port ≡ p → Linked links b h p
  there : {h p : ℕ} (k : ℕ) (e : Link) → h ≡ k + 1 → slice_get links k ≡ Some e → e.backup ≡ b
      → Linked links b e.before p → Linked links b h p

-- all that these have is lost in the end: their receive rights are among those that go
pub record Goes (s : Store) (d : Doomed) (rights : List Held) : Type 0 where
  pub at : (p : ℕ) → has_receive p rights ≡ true → has_receive p (d.rights ++ queued_rights s
      (dying s d)) ≡ true

-- p is live, and its receive right goes
pub record Loses (s : Store) (d : Doomed) (p : ℕ) : Type 0 where
  pub live : has (keys s.ports) p ≡ true
  pub goes : has_receive p (d.rights ++ queued_rights s (dying s d)) ≡ true

-- the live ports that are not in the list
abbrev pub unseen : Store → List ℕ → List ℕ
unseen s dead = filter (λ q. not (has dead q)) (keys s.ports)

-- What the search keeps. Of the dead ports the first `done` are those whose queues and links have
-- been followed.
pub record Kept (s : Store) (d : Doomed) (z : Search) : Type 0 where
  -- the set is that of the list
  pub same : (p : ℕ) → has z.seen p ≡ has z.dead.items p
  -- what is found dies
  pub sound : (p : ℕ) → has z.dead.items p ≡ true → has (dying s d) p ≡ true
  -- what is marked is live and loses its receive right
  pub loses : (p : ℕ) → has z.gone p ≡ true → Loses s d p
  -- a marked port whose backup does not save it, by the ports that are followed, is found
  pub lost : (p : ℕ) → has z.gone p ≡ true → is_lost (take z.done z.dead.items) (backup_of (get
      s.ports p)) ≡ true → has z.dead.items p ≡ true
  -- a marked port with a backup is found, or waits for it
  pub waits : (p b : ℕ) → has z.gone p ≡ true → backup_of (get s.ports p) ≡ BackupPort b
      → (has z.dead.items p ≡ true) ⊎ Linked z.links.items b (head_at z.heads b) p
  -- each link is of a port that loses its receive right, and that has this backup
  pub links : (k : ℕ) (e : Link) → slice_get z.links.items k ≡ Some e → (e.before ≤ k)
      × Loses s d e.port × (backup_of (get s.ports e.port) ≡ BackupPort e.backup)
  pub heads : (b : ℕ) → head_at z.heads b ≤ length z.links.items
  -- no port is found twice
  pub few : length (unseen s z.dead.items) + length z.dead.items ≤ length (keys s.ports)
  pub done : z.done ≤ length z.dead.items

-- the search went on from a to b, and marked what these rights are the receive rights of
pub record Step (s : Store) (d : Doomed) (rights : List Held) (a b : Search) : Type 0 where
  pub kept : Kept s d b
  pub gone : (p : ℕ) → has a.gone p ≡ true → has b.gone p ≡ true
  pub dead : (p : ℕ) → has a.dead.items p ≡ true → has b.dead.items p ≡ true
  pub all : (p : ℕ) → has (keys s.ports) p ≡ true → has_receive p rights ≡ true → has b.gone p
      ≡ true
  pub done : b.done ≡ a.done
  -- what is found later stands behind what was found before
  pub longer : length a.dead.items ≤ length b.dead.items
  pub prefix : (n : ℕ) → n ≤ length a.dead.items → take n b.dead.items ≡ take n a.dead.items

-- the port may be marked: it is found, or waits for its backup, which is not found yet
pub data Settled (s : Store) (z : Search) (p : ℕ) : Type 0 where
  is_dead : has z.dead.items p ≡ true → Settled s z p
  is_waiting : (b : ℕ) → backup_of (get s.ports p) ≡ BackupPort b → has z.dead.items b ≡ false
      → Linked z.links.items b (head_at z.heads b) p → Settled s z p

-- each live port whose receive right the call destroys, or that is queued on a followed port, is
-- marked
pub record Received (s : Store) (d : Doomed) (z : Search) : Type 0 where
  pub at : (p : ℕ) → has (keys s.ports) p ≡ true → has_receive p (d.rights ++ queued_rights s (take
      z.done z.dead.items)) ≡ true → has z.gone p ≡ true

-- the receive right of p alone
abbrev pub receive_of : ℕ → List Held
receive_of p = record { port = p; right = Receive } ∷ []

-- one right alone
abbrev pub one_held : Held → List Held
one_held h = h ∷ []

-- where the search is between two ports that it follows
pub record Going (s : Store) (d : Doomed) (z : Search) : Type 0 where
  pub kept : Kept s d z
  pub received : Received s d z
  pub kernel : (p : ℕ) → has (keys s.ports) p ≡ true → is_kernel_of d.kernel p ≡ true
      → has z.dead.items p ≡ true
