-- What an index tells of a port's names, and what it is after one of them turned dead.
use Rattle.std.proofs.Common.{◌≡◌, ℕ, ◌<◌, ◌≤◌, ◌^◌, Bool, true, false, not, List, Option}
use Rattle.std.proofs.Common.{Some, None, refl, sym, ◌∙◌, ap, subst, arith, ◌==◌, ◌||◌, ◌&&◌}
use Rattle.std.proofs.Common.{inl, inr, nat_lt}
use Rattle.std.proofs.Common.{if◌then◌else◌}
use Rattle.std.proofs.lemmas.Bool.{cases_eq, eq-eqb, ne_eqb, or_left, or_right, or_from}
use Rattle.mrc_model.specs.declared.Entry.{Entry}
use Rattle.mrc_model.specs.declared.Entry.TheVariants.{Receive as ReceiveEntry, Send as SendEntry}
use Rattle.mrc_model.specs.declared.Entry.TheVariants.{SendOnce as OnceEntry, PortSet as SetEntry}
use Rattle.mrc_model.specs.declared.Entry.TheVariants.{DeadName as DeadEntry}
use Rattle.mrc_model.specs.Map.{get, insert}
use Rattle.mrc_model.specs.World.{Space}
use Rattle.mrc_model.specs.Space.{is_entry_of, dead_entry}
use Rattle.mrc_model.proofs.Maps.{get-insert_same, get-insert_other}
use Rattle.mrc_model.proofs.Maps.{Each-insert}
use Rattle.mrc_index.specs.Pairs.{has_pair, IsLeast}
use Rattle.mrc_index.specs.Names.{is_once_of, is_held_by, is_once_by, is_on, left_of, IsIndexed}
use Rattle.mrc_index.proofs.IndexLaws.{gone_true, gone_false, free_kept}

-- a name that the index tells is the port's
named : (by : ℕ → Option Entry → Bool) (of : ℕ → Entry → Bool) (x : Space) (ps : List (ℕ × ℕ))
    (p n : ℕ) (o : Option Entry)
    → by p None ≡ false
    → ((f : Entry) → by p (Some f) ≡ of p f)
    → ((f : Entry) → of p f ≡ true → is_on p f ≡ true)
    → has_pair ps p n ≡ by p (get x n)
    → has_pair ps p n ≡ true
    → get x n ≡ o
    → (e : Entry) × (get x n ≡ Some e) × (is_on p e ≡ true)
named by of x ps p n None none some on was has at =
    absurd (true_is_false (sym (sym has ∙ was ∙ ap (by p) at ∙ none)))
  where
    true_is_false : false ≡ true → ⊥
    true_is_false h = cc
named by of x ps p n (Some e) none some on was has at =
    (e, at, on e (sym (some e) ∙ ap (by p) (sym at) ∙ sym was ∙ has))

pub held_named : (x : Space) (ports onces : List (ℕ × ℕ)) (bits : List ℕ) (p n : ℕ)
    → IsIndexed x ports onces bits
    → IsLeast ports p 0 n
    → (e : Entry) × (get x n ≡ Some e) × (is_on p e ≡ true)
held_named x ports onces bits p n i f =
    named is_held_by is_entry_of x ports p n (get x n) refl (λ e. refl)
    (λ e h. or_left (is_entry_of p e) (is_once_of p e) h) (i.held p n) f.has refl

pub once_named : (x : Space) (ports onces : List (ℕ × ℕ)) (bits : List ℕ) (p n : ℕ)
    → IsIndexed x ports onces bits
    → IsLeast onces p 0 n
    → (e : Entry) × (get x n ≡ Some e) × (is_on p e ≡ true)
once_named x ports onces bits p n i f =
    named is_once_by is_once_of x onces p n (get x n) refl (λ e. refl)
    (λ e h. or_right (is_entry_of p e) (is_once_of p e) h) (i.once p n) f.has refl

pub none_named : (x : Space) (ports onces : List (ℕ × ℕ)) (bits : List ℕ) (p : ℕ)
    → IsIndexed x ports onces bits
    → ((n : ℕ) → 0 ≤ n → has_pair ports p n ≡ false)
    → ((n : ℕ) → 0 ≤ n → has_pair onces p n ≡ false)
    → (n : ℕ) (e : Entry) → get x n ≡ Some e → is_on p e ≡ false
none_named x ports onces bits p i held once n e at =
    or_from (is_entry_of p e) (is_once_of p e)
    (sym (ap (is_held_by p) at) ∙ sym (i.held p n) ∙ held n (omega arith))
    (sym (ap (is_once_by p) at) ∙ sym (i.once p n) ∙ once n (omega arith))

-- the same for a space and a port as clauses see them
abbrev pub IsNamed : Space → ℕ → ℕ → Type 0
IsNamed x p n = (e : Entry) × (get x n ≡ Some e) × (is_on p e ≡ true)

pub named_as : (x y : Space) (q p n : ℕ) → x ≡ y → q ≡ p → IsNamed x q n → IsNamed y p n
named_as x y q p n v w h = subst (λ z. IsNamed z p n) v (subst (λ z. IsNamed x z n) w h)

abbrev pub NoneNamed : Space → ℕ → Type 0
NoneNamed x p = (n : ℕ) (e : Entry) → get x n ≡ Some e → is_on p e ≡ false

pub none_as : (x y : Space) (q p : ℕ) → x ≡ y → q ≡ p → NoneNamed x q → NoneNamed y p
none_as x y q p v w h = subst (λ z. NoneNamed z p) v (subst (λ z. NoneNamed x z) w h)

-- what is left of a right is no port's
dead_held : (p k : ℕ) → is_held_by p (dead_entry k) ≡ false
dead_held p k = elim (nat_lt 0 k) as (λ b. is_held_by p
    (if b then Some (DeadEntry k) else None) ≡ false) [ true ↦ refl | false ↦ refl ]

dead_once : (p k : ℕ) → is_once_by p (dead_entry k) ≡ false
dead_once p k = elim (nat_lt 0 k) as (λ b. is_once_by p
    (if b then Some (DeadEntry k) else None) ≡ false) [ true ↦ refl | false ↦ refl ]

pub left_held : (p : ℕ) (e : Entry) → is_held_by p (left_of e) ≡ false
left_held p (ReceiveEntry q k i) = dead_held p k
left_held p (SendEntry q k) = dead_held p k
left_held p (OnceEntry q) = refl
left_held p SetEntry = refl
left_held p (DeadEntry k) = refl

pub left_once : (p : ℕ) (e : Entry) → is_once_by p (left_of e) ≡ false
left_once p (ReceiveEntry q k i) = dead_once p k
left_once p (SendEntry q k) = dead_once p k
left_once p (OnceEntry q) = refl
left_once p SetEntry = refl
left_once p (DeadEntry k) = refl

-- a right that turned dead is in no index
fewer : (by : ℕ → Option Entry → Bool) (of : ℕ → Entry → Bool) (x : Space) (ps qs : List (ℕ × ℕ))
    (n : ℕ) (d f : Entry)
    → ((p : ℕ) (e : Entry) → by p (Some e) ≡ of p e)
    → ((p : ℕ) → by p (Some f) ≡ false)
    → ((p m : ℕ) → has_pair ps p m ≡ by p (get x m))
    → get x n ≡ Some d
    → ((p m : ℕ) → has_pair qs p m ≡ (not (of p d && n == m) && has_pair ps p m))
    → (p m : ℕ)
    → has_pair qs p m ≡ by p (get (insert x n f) m)
fewer by of x ps qs n d f some none was at now p m = elim (cases_eq m n) [
  | inl same ↦
      now p m ∙ ap (λ b. not (of p d && b) && has_pair ps p m) (eq-eqb n m (sym same))
      ∙ gone_true (of p d) (has_pair ps p m)
      (was p m ∙ ap (λ z. by p (get x z)) same ∙ ap (by p) at ∙ some p d)
      ∙ sym (none p) ∙ ap (by p) (sym (get-insert_same x n f))
      ∙ ap (λ z. by p (get (insert x n f) z)) (sym same)
  | inr apart ↦
      now p m ∙ ap (λ b. not (of p d && b) && has_pair ps p m) (ne_eqb n m (λ z. apart (sym z)))
      ∙ gone_false (of p d) (has_pair ps p m) ∙ was p m
      ∙ ap (by p) (sym (get-insert_other x n f m apart))
]

pub faded : (x x' : Space) (ports onces ports' onces' : List (ℕ × ℕ)) (bits : List ℕ) (k n : ℕ)
    (d f : Entry)
    → IsIndexed x ports onces bits
    → k ≡ n
    → get x k ≡ Some d
    → x' ≡ insert x k f
    → ((p : ℕ) → is_held_by p (Some f) ≡ false)
    → ((p : ℕ) → is_once_by p (Some f) ≡ false)
    → ((p m : ℕ) → has_pair ports' p m ≡ (not (is_entry_of p d && n == m) && has_pair ports p m))
    → ((p m : ℕ) → has_pair onces' p m ≡ (not (is_once_of p d && n == m) && has_pair onces p m))
    → IsIndexed x' ports' onces' bits
faded x x' ports onces ports' onces' bits k n d f i key at is held once gone gone' =
    subst (λ z. IsIndexed z ports' onces' bits) (sym (is ∙ ap (λ j. insert x j f) key)) record {
      words = i.words;
      short = Each-insert (λ j v. j < 2 ^ 32) x n f i.short (i.short n d there);
      held = fewer is_held_by is_entry_of x ports ports' n d f (λ p e. refl) held i.held there gone;
      once = fewer is_once_by is_once_of x onces onces' n d f (λ p e. refl) once i.once there gone';
      free = λ m small. free_kept x bits n m d f there (i.free m small);
    }
  where
    there : get x n ≡ Some d
    there = ap (get x) (sym key) ∙ at
