-- A right that is taken from a name.
use Rattle.std.proofs.Common.{Bool, List, None, Option, Some, ap, arith, false, inl, inr, refl}
use Rattle.std.proofs.Common.{true, ℕ, ◌+◌, ◌∙◌, ◌∷◌, ◌≡◌, ◌≤◌, ◌⊎◌}
use Rattle.std.proofs.lemmas.Bool.{cases_eq}
use Rattle.mrc_base.specs.Disposition.{given, needed}
use Rattle.mrc_base.specs.declared.Disp.{Disp}
use Rattle.mrc_base.specs.declared.Disp.TheVariants.{CopySend, MakeSend, MakeSendOnce, MoveReceive}
use Rattle.mrc_base.specs.declared.Disp.TheVariants.{MoveSend, MoveSendOnce}
use Rattle.mrc_base.specs.declared.Fact.TheVariants.{Hold}
use Rattle.mrc_base.specs.declared.PortRight.{PortRight}
use Rattle.mrc_model.proofs.KeptCalls.{restart_spaces}
use Rattle.mrc_model.proofs.Maps.{at_or_0, len-alter_all, len-insert, origin-insert, origin-remove}
use Rattle.mrc_model.proofs.Maps.{total-insert, total-remove}
use Rattle.mrc_model.proofs.Spaces.{space-set_other, space-set_same}
use Rattle.mrc_model.proofs.Tries.{Gives, bind, found, gives_ok}
use Rattle.mrc_model.specs.Covers.{HasOneName, KnownAt}
use Rattle.mrc_model.specs.Map.{get, len}
use Rattle.mrc_model.specs.Reply.{Reply}
use Rattle.mrc_model.specs.Rights.{is_receive}
use Rattle.mrc_model.specs.Rules.{FactSet}
use Rattle.mrc_model.specs.Space.{is_entry_of, put_entry, restart, restart_if, restart_port, take}
use Rattle.mrc_model.specs.Space.{take_from}
use Rattle.mrc_model.specs.Wiring.{Wiring}
use Rattle.mrc_model.specs.World.{Held, Port, Space, Store, class_of, entry_rights, receives}
use Rattle.mrc_model.specs.World.{set_space, space, space_receives}
use Rattle.mrc_model.specs.declared.Entry.{Entry}
use Rattle.mrc_cover.proofs.Entries.{IsLeft, rights_left, take_from_takes}
use Rattle.mrc_cover.proofs.Obeyed.{Obeys, obeys}
use Rattle.mrc_cover.proofs.Rights.{MayHold, entry_receives, right_on}
use Rattle.mrc_cover.proofs.Sound.{Leaves, SoundWith, changes_nothing, changes_then, leaves_then}
use Rattle.mrc_cover.proofs.Sound.{set_port_changes, set_port_sound, set_space_changes}
use Rattle.mrc_cover.proofs.Sound.{set_space_sound}

-- each port entry was one of the same port, at the same name
pub one_name_if_traced : (x y : Space) → HasOneName x
    → ((m : ℕ) (f : Entry) (p : ℕ) → get y m ≡ Some f → is_entry_of p f ≡ true
    → (e : Entry) × (get x m ≡ Some e)
    × (is_entry_of p e ≡ true))
    → HasOneName y
one_name_if_traced x y one traced n m p e f a b c d =
    let s = traced n e p a c in
    let t = traced m f p b d in
    one n m p s.0 t.0 s.1 t.1 s.2 t.2

-- the receive rights of a space, where one entry changes
pub space_receives-put_entry : (q : ℕ) (x : Space) (n : ℕ) (e : Entry) (rest : Option Entry)
    → get x n ≡ Some e
    → space_receives q (put_entry x n rest) + receives q (entry_rights e)
    ≡ space_receives q x + receives q (rights_left rest)
unfolding space_receives
space_receives-put_entry q x n e None is =
    let a = total-remove (entry_receives q) x n in
    let b = ap (at_or_0 (entry_receives q) n) is in omega arith
space_receives-put_entry q x n e (Some f) is =
    let a = total-insert (entry_receives q) x n f in
    let b = ap (at_or_0 (entry_receives q) n) is in omega arith

-- where an entry of the changed space comes from
pub origin-put_entry : (x : Space) (n : ℕ) (rest : Option Entry) (m : ℕ) (f : Entry)
    → get (put_entry x n rest) m ≡ Some f → ((m ≡ n) × (rest ≡ Some f)) ⊎ (get x m ≡ Some f)
origin-put_entry x n None m f is = inr (origin-remove x n m f is).1
origin-put_entry x n (Some e) m f is = elim (origin-insert x n e m f is) [
  | inl h ↦ inl (h.0, ap (λ z. Some z) h.1)
  | inr h ↦ inr h.1
]

-- a port still has one name
pub one_name-put_entry : (k : ℕ → Option ℕ) (F : ℕ → PortRight
    → Type 0) (x : Space) (n : ℕ) (e : Entry) (rest : Option Entry)
    → HasOneName x → get x n ≡ Some e → IsLeft k F e rest → HasOneName (put_entry x n rest)
one_name-put_entry k F x n e rest one is part = one_name_if_traced x (put_entry x n rest) one
    (λ m f p at g. elim (origin-put_entry x n rest m f at) [
      | inl h ↦ (e, ap (get x) h.0 ∙ is, part.names f h.1 p g)
      | inr h ↦ (f, h, g)
    ])

-- there are no more names than before
pub len-put_entry : (x : Space) (n : ℕ) (e : Entry) (rest : Option Entry) → get x n ≡ Some e
    → len (put_entry x n rest) ≤ len x
len-put_entry x n e None is = len-alter_all _ x
len-put_entry x n e (Some f) is =
    let a = len-insert x n f in let b = ap (at_or_0 (λ q y. 1) n) is in omega arith

-- nor in any space of the store
pub put_entry_adds_no_name : (s : Store) (t n : ℕ) (e : Entry) (rest : Option Entry)
    → get (space s t) n ≡ Some e
    → (u : ℕ) → len (space (set_space s t (put_entry (space s t) n rest)) u) ≤ len (space s u)
put_entry_adds_no_name s t n e rest is u = elim (cases_eq u t) [
  | inl same ↦ rw same (rw (space-set_same s t (put_entry (space s t) n rest))
      (len-put_entry (space s t) n e rest is))
  | inr apart ↦ rw (space-set_other s t u (put_entry (space s t) n rest) apart) (omega arith)
]

module _ (W : Wiring) (G : FactSet) (task : ℕ → ℕ) (A : ℕ → Type 0) where
  -- a name's entry becomes a part of itself
  pub put_entry_leaves : (s : Store) (hand hand' : List Held) (t n : ℕ) (e : Entry)
      (rest : Option Entry) → A t
      → SoundWith W G task s hand → get (space s t) n ≡ Some e
      → IsLeft (class_of s) (MayHold G (task t)) e rest
      → ((q : ℕ) → receives q (rights_left rest) + receives q hand' ≡ receives q
      (entry_rights e) + receives q hand)
      → Leaves W G task A s hand' (set_space s t (put_entry (space s t) n rest))
  put_entry_leaves s hand hand' t n e rest mine sound is part count = record {
    sound = set_space_sound W G task s hand hand' t (put_entry (space s t) n rest) sound
        (λ p c at. let a = space_receives-put_entry p
        (space s t) n e rest is in let b = count p in omega arith)
        (λ m f at. elim (origin-put_entry (space s t) n rest m f at) [
          | inl h ↦ rw h.1 at (part.known (sound.covers.held t n e is))
          | inr h ↦ sound.covers.held t m f h
        ])
        (one_name-put_entry (class_of s) (MayHold G (task t)) (space s t) n e rest
        (sound.one_name t) is part);
    changes = set_space_changes s t (put_entry (space s t) n rest) mine;
  }

  -- starting the count of receipts again changes no right
  pub restart_leaves : (s : Store) (hand : List Held) (p : ℕ) → SoundWith W G task s hand
      → Leaves W G task A s hand (restart s p)
  unfolding restart
  restart_leaves s hand p sound =
      let go : (o : Option Port) → get s.ports p ≡ o
      → Leaves W G task A s hand (restart_port s p o) = elim [
        | None ↦ λ e. record { sound = sound; changes = changes_nothing A s }
        | Some x ↦ λ e. record {
          sound =
              set_port_sound W G task s hand hand p x (record x { receipts = 0 }) sound e refl
              (λ q. refl)
              (sound.covers.carried p x e) (sound.covers.backups p x e);
          changes = set_port_changes s p x (record x { receipts = 0 }) e refl;
        }
      ] in
      go (get s.ports p) refl

  -- the same, where it is only done for a receive right
  restart_if_leaves : (b : Bool) (s : Store) (hand : List Held) (p : ℕ) → SoundWith W G task s hand
      → Leaves W G task A s hand (restart_if b s p)
  restart_if_leaves true s hand p sound = restart_leaves s hand p sound
  restart_if_leaves false s hand p sound = record { sound = sound; changes = changes_nothing A s }

  -- and it changes no space
  spaces-restart_if : (b : Bool) (s : Store) (p : ℕ) → (restart_if b s p).spaces ≡ s.spaces
  unfolding restart
  spaces-restart_if true s p = restart_spaces s p (get s.ports p)
  spaces-restart_if false s p = refl

  -- what was taken, and what the taker may then do with it
  pub record IsInHand (s : Store) (hand : List Held) (t : ℕ) (x : Disp)
      (got : Store × ℕ) : Type 0 where
    pub leaves : Leaves W G task A s (right_on got.1 (given x) ∷ hand) got.0
    pub known : KnownAt (class_of got.0) (MayHold G (task t)) (right_on got.1 (given x))
    pub had : KnownAt (class_of got.0) (MayHold G (task t)) (right_on got.1 (needed x))
    pub small : (u : ℕ) → len (space got.0 u) ≤ len (space s u)

  -- who may hold what a disposition needs may hold what it gives
  given_if_needed : Obeys W G → (t c : ℕ) (x : Disp) → G (Hold t c (needed x))
      → G (Hold t c (given x))
  given_if_needed o t c MoveReceive h = h
  given_if_needed o t c MoveSend h = h
  given_if_needed o t c MoveSendOnce h = h
  given_if_needed o t c CopySend h = h
  given_if_needed o t c MakeSend h = o.sends h
  given_if_needed o t c MakeSendOnce h = o.onces h

  -- the right is in hand, and the taker may hold it
  pub take_leaves : Obeys W G → (s : Store) (hand : List Held) (t n : ℕ) (x : Disp) (e1 e2 : Reply)
      → A t
      → SoundWith W G task s hand → Gives (IsInHand s hand t x) (take s t n x e1 e2)
  unfolding take
  take_leaves obeys s hand t n x e1 e2 mine sound =
      bind _ _ (found (get (space s t) n) e1)
      (λ e is. bind _ _ (found (take_from e x) e2) (λ got takes.
      let ok = take_from_takes (class_of s) (MayHold G (task t)) e x got takes in
      let moved = put_entry_leaves s hand
      (right_on got.port (given x) ∷ hand) t n e got.rest mine sound is ok.part
      (λ q. let a = ok.count q in omega arith) in
      let again = restart_if_leaves (is_receive (given x))
      (set_space s t (put_entry (space s t) n got.rest))
      (right_on got.port (given x) ∷ hand) got.port moved.sound in
      let need_at = ok.had (sound.covers.held t n e is) in
      let same = (changes_then moved.changes again.changes).classes got.port in
      gives_ok record {
        leaves = leaves_then moved.changes again;
        known = (need_at.0, same ∙ need_at.1, given_if_needed obeys (task t) need_at.0 x need_at.2);
        had = (need_at.0, same ∙ need_at.1, need_at.2);
        small = λ u. rw (spaces-restart_if (is_receive (given x))
            (set_space s t (put_entry (space s t) n got.rest)) got.port)
            (put_entry_adds_no_name s t n e got.rest is u);
      }))
