-- What an index tells after an entry came in the place of another, and the least unused name once a
-- name has less.
use Rattle.std.proofs.Common.{◌≡◌, ℕ, ◌+◌, ◌<◌, ◌≤◌, ◌^◌, Bool, true, false, not, List, [], ◌∷◌}
use Rattle.std.proofs.Common.{Option, Some, None, refl, sym, ◌∙◌, ap, subst, arith, T}
use Rattle.std.proofs.Common.{◌==◌, ◌||◌, ◌&&◌, inl, inr, nat_lt, if◌then◌else◌}
use Rattle.std.specs.Option.{is_some}
use Rattle.std.specs.Prelude.{IsSome}
use Rattle.std.proofs.lemmas.Bool.{cases_eq, cases_order, eq-eqb, ne_eqb, eqb-true, lt-ltb, le-ltb}
use Rattle.std.proofs.lemmas.Bool.{false≢true}
use Rattle.mrc_model.specs.declared.Entry.{Entry}
use Rattle.mrc_model.specs.declared.Entry.TheVariants.{Receive as ReceiveEntry, Send as SendEntry}
use Rattle.mrc_model.specs.declared.Entry.TheVariants.{SendOnce as OnceEntry, PortSet as SetEntry}
use Rattle.mrc_model.specs.declared.Entry.TheVariants.{DeadName as DeadEntry}
use Rattle.mrc_model.specs.Rising.{is_rising, find_key}
use Rattle.mrc_model.specs.Map.{get, insert, remove}
use Rattle.mrc_model.specs.World.{Space}
use Rattle.mrc_model.specs.Space.{unused, least_from, is_entry_of}
use Rattle.mrc_model.proofs.Maps.{get-insert_same, get-insert_other, get-remove_same}
use Rattle.mrc_model.proofs.Maps.{get-remove_other, Each-insert, find_here, rest_rises, if_false}
use Rattle.mrc_model.proofs.Maps.{if_true}
use Rattle.mrc_model.proofs.Spaces.{get-unused}
use Rattle.mrc_index.specs.Pairs.{has_pair}
use Rattle.mrc_index.specs.Names.{is_once_of, is_held_by, is_once_by, HoldsAlike, IsIndexed}
use Rattle.mrc_index.specs.Replacing.{is_like}
use Rattle.mrc_index.proofs.IndexLaws.{least_at, from_one, next_above, free_kept}

-- entries of one port and one kind

alike_held : (d e : Entry) (q p : ℕ)
    → ((r : ℕ) → is_entry_of r d ≡ (q == r))
    → ((r : ℕ) → is_entry_of r e ≡ (p == r))
    → ((r : ℕ) → is_once_of r d ≡ false)
    → ((r : ℕ) → is_once_of r e ≡ false)
    → q ≡ p
    → HoldsAlike d e
alike_held d e q p old new a b same = record {
  held = λ r. new r ∙ ap (λ z. z == r) (sym same) ∙ sym (old r);
  once = λ r. b r ∙ sym (a r);
}

pub like_alike : (d e : Entry) → is_like d e ≡ true → HoldsAlike d e
like_alike (ReceiveEntry q k i) (ReceiveEntry p l j) is =
    alike_held (ReceiveEntry q k i) (ReceiveEntry p l j) q p (λ r. refl) (λ r. refl) (λ r. refl)
    (λ r. refl) (eqb-true q p is)
like_alike (ReceiveEntry q k i) (SendEntry p l) is =
    alike_held (ReceiveEntry q k i) (SendEntry p l) q p (λ r. refl) (λ r. refl) (λ r. refl)
    (λ r. refl) (eqb-true q p is)
like_alike (SendEntry q k) (ReceiveEntry p l j) is =
    alike_held (SendEntry q k) (ReceiveEntry p l j) q p (λ r. refl) (λ r. refl) (λ r. refl)
    (λ r. refl) (eqb-true q p is)
like_alike (SendEntry q k) (SendEntry p l) is =
    alike_held (SendEntry q k) (SendEntry p l) q p (λ r. refl) (λ r. refl) (λ r. refl)
    (λ r. refl) (eqb-true q p is)
like_alike (OnceEntry q) (OnceEntry p) is = record {
  held = λ r. refl;
  once = λ r. ap (λ z. z == r) (sym (eqb-true q p is));
}
like_alike (ReceiveEntry q k i) (OnceEntry p) is = absurd (false≢true is)
like_alike (ReceiveEntry q k i) SetEntry is = absurd (false≢true is)
like_alike (ReceiveEntry q k i) (DeadEntry l) is = absurd (false≢true is)
like_alike (SendEntry q k) (OnceEntry p) is = absurd (false≢true is)
like_alike (SendEntry q k) SetEntry is = absurd (false≢true is)
like_alike (SendEntry q k) (DeadEntry l) is = absurd (false≢true is)
like_alike (OnceEntry q) (ReceiveEntry p l j) is = absurd (false≢true is)
like_alike (OnceEntry q) (SendEntry p l) is = absurd (false≢true is)
like_alike (OnceEntry q) SetEntry is = absurd (false≢true is)
like_alike (OnceEntry q) (DeadEntry l) is = absurd (false≢true is)
like_alike SetEntry (ReceiveEntry p l j) is = absurd (false≢true is)
like_alike SetEntry (SendEntry p l) is = absurd (false≢true is)
like_alike SetEntry (OnceEntry p) is = absurd (false≢true is)
like_alike SetEntry SetEntry is = absurd (false≢true is)
like_alike SetEntry (DeadEntry l) is = absurd (false≢true is)
like_alike (DeadEntry k) (ReceiveEntry p l j) is = absurd (false≢true is)
like_alike (DeadEntry k) (SendEntry p l) is = absurd (false≢true is)
like_alike (DeadEntry k) (OnceEntry p) is = absurd (false≢true is)
like_alike (DeadEntry k) SetEntry is = absurd (false≢true is)
like_alike (DeadEntry k) (DeadEntry l) is = absurd (false≢true is)

-- entries that are not share no port and kind

-- where a test of one port fails, the other port is not this one
other_port : (q p : ℕ) (b : Bool) → ((p == q) ≡ true → b ≡ false) → ((p == q) && b) ≡ false
other_port q p b h = go (p == q) refl
  where
    go : (a : Bool) → (p == q) ≡ a → (a && b) ≡ false
    go true t = h t
    go false t = refl

pub unlike_held : (d e : Entry) → is_like d e ≡ false → (r : ℕ)
    → (is_entry_of r e && is_entry_of r d) ≡ false
unlike_held d (ReceiveEntry p l j) is r =
    other_port r p (is_entry_of r d)
    (λ t. ap (λ z. is_entry_of z d) (sym (eqb-true p r t)) ∙ is)
unlike_held d (SendEntry p l) is r =
    other_port r p (is_entry_of r d)
    (λ t. ap (λ z. is_entry_of z d) (sym (eqb-true p r t)) ∙ is)
unlike_held d (OnceEntry p) is r = refl
unlike_held d SetEntry is r = refl
unlike_held d (DeadEntry l) is r = refl

pub unlike_once : (d e : Entry) → is_like d e ≡ false → (r : ℕ)
    → (is_once_of r e && is_once_of r d) ≡ false
unlike_once d (ReceiveEntry p l j) is r = refl
unlike_once d (SendEntry p l) is r = refl
unlike_once d (OnceEntry p) is r =
    other_port r p (is_once_of r d)
    (λ t. ap (λ z. is_once_of z d) (sym (eqb-true p r t)) ∙ is)
unlike_once d SetEntry is r = refl
unlike_once d (DeadEntry l) is r = refl

-- a pair comes and one goes, seen under each name

here : (a b c : Bool) → (a && b) ≡ false → c ≡ b → (not (b && true) && ((a && true) || c)) ≡ a
here true true c apart is = absurd (cc)
here false true c apart is = refl
here true false c apart is = refl
here false false c apart is = is

beside : (a b c : Bool) → (not (b && false) && ((a && false) || c)) ≡ c
beside true true c = refl
beside false true c = refl
beside true false c = refl
beside false false c = refl

exchanged : (by : ℕ → Option Entry → Bool) (of : ℕ → Entry → Bool) (x : Space)
    (ps qs rs : List (ℕ × ℕ)) (n : ℕ) (d e : Entry)
    → ((p : ℕ) (f : Entry) → by p (Some f) ≡ of p f)
    → ((p : ℕ) → (of p e && of p d) ≡ false)
    → ((p m : ℕ) → has_pair ps p m ≡ by p (get x m))
    → get x n ≡ Some d
    → ((p m : ℕ) → has_pair qs p m ≡ ((of p e && n == m) || has_pair ps p m))
    → ((p m : ℕ) → has_pair rs p m ≡ (not (of p d && n == m) && has_pair qs p m))
    → (p m : ℕ)
    → has_pair rs p m ≡ by p (get (insert x n e) m)
exchanged by of x ps qs rs n d e some apart was there more less p m = elim (cases_eq m n) [
  | inl same ↦
      now ∙ ap both (eq-eqb n m (sym same))
      ∙ here (of p e) (of p d) (has_pair ps p m) (apart p)
      (was p m ∙ ap (λ z. by p (get x z)) same ∙ ap (by p) there ∙ some p d)
      ∙ sym (some p e) ∙ ap (by p) (sym (get-insert_same x n e))
      ∙ ap (λ z. by p (get (insert x n e) z)) (sym same)
  | inr other ↦
      now ∙ ap both (ne_eqb n m (λ z. other (sym z)))
      ∙ beside (of p e) (of p d) (has_pair ps p m) ∙ was p m
      ∙ ap (by p) (sym (get-insert_other x n e m other))
]
  where
    both : Bool → Bool
    both b = not (of p d && b) && ((of p e && b) || has_pair ps p m)

    now : has_pair rs p m ≡ both (n == m)
    now = less p m ∙ ap (λ b. not (of p d && n == m) && b) (more p m)

pub replaced : (x x' : Space) (ps qs rs os us vs : List (ℕ × ℕ)) (bits : List ℕ) (k n : ℕ)
    (d e : Entry)
    → IsIndexed x ps os bits
    → k ≡ n
    → get x k ≡ Some d
    → x' ≡ insert x k e
    → is_like d e ≡ false
    → ((p m : ℕ) → has_pair qs p m ≡ ((is_entry_of p e && n == m) || has_pair ps p m))
    → ((p m : ℕ) → has_pair us p m ≡ ((is_once_of p e && n == m) || has_pair os p m))
    → ((p m : ℕ) → has_pair rs p m ≡ (not (is_entry_of p d && n == m) && has_pair qs p m))
    → ((p m : ℕ) → has_pair vs p m ≡ (not (is_once_of p d && n == m) && has_pair us p m))
    → IsIndexed x' rs vs bits
replaced x x' ps qs rs os us vs bits k n d e i key at is unlike held once gone gone' =
    subst (λ z. IsIndexed z rs vs bits) (sym (is ∙ ap (λ j. insert x j e) key)) record {
      words = i.words;
      short = Each-insert (λ j v. j < 2 ^ 32) x n e i.short (i.short n d there);
      held = exchanged is_held_by is_entry_of x ps qs rs n d e (λ p f. refl)
          (unlike_held d e unlike) i.held there held gone;
      once = exchanged is_once_by is_once_of x os us vs n d e (λ p f. refl)
          (unlike_once d e unlike) i.once there once gone';
      free = λ m small. free_kept x bits n m d e there (i.free m small);
    }
  where
    there : get x n ≡ Some d
    there = ap (get x) (sym key) ∙ at

-- the least unused name

-- what is below it is used
used_from : {X : Type 0} (low k m : ℕ) (es : List (ℕ × X))
    → T (is_rising low es)
    → k ≤ m
    → m < least_from k es
    → is_some (find_key m es) ≡ true
used_from low k m [] r le below = absurd (omega arith)
used_from low k m (e ∷ es) r le below = elim (cases_eq m e.0) [
  | inl here ↦ ap is_some (ap (λ z. find_key z (e ∷ es)) here ∙ find_here e es)
  | inr off ↦
      ap is_some (if_false (m == e.0) (Some e.1) (find_key m es) (ne_eqb m e.0 off))
      ∙ elim (cases_order e.0 k) [
        | inl same ↦
            let rest = if_true (e.0 == k) (least_from (k + 1) es)
            (if nat_lt e.0 k then least_from k es else k) (eq-eqb e.0 k same) in
            used_from (e.0 + 1) (k + 1) m es (rest_rises low e es r)
            (next_above k m e.0 le same off) (subst (λ z. m < z) rest below)
        | inr (inl less) ↦
            let rest = if_false (e.0 == k) (least_from (k + 1) es)
            (if nat_lt e.0 k then least_from k es else k) (ne_eqb e.0 k (λ z. absurd (omega arith)))
            ∙ if_true (nat_lt e.0 k) (least_from k es) k (lt-ltb e.0 k less) in
            used_from (e.0 + 1) k m es (rest_rises low e es r) le (subst (λ z. m < z) rest below)
        | inr (inr more) ↦
            let rest = if_false (e.0 == k) (least_from (k + 1) es)
            (if nat_lt e.0 k then least_from k es else k) (ne_eqb e.0 k (λ z. absurd (omega arith)))
            ∙ if_false (nat_lt e.0 k) (least_from k es) k (le-ltb e.0 k (omega arith)) in
            let low : m < k = subst (λ z. m < z) rest below in
            absurd (omega arith)
      ]
]

pub below_unused : (x : Space) (m : ℕ) → 1 ≤ m → m < unused x → is_some (get x m) ≡ true
unfolding unused get
below_unused x m up below = used_from 0 1 m x.list x.rising up below

-- what makes a name the least unused one
least_is : (y : Space) (n : ℕ)
    → 1 ≤ n
    → get y n ≡ None
    → ((m : ℕ) → 1 ≤ m → m < n → is_some (get y m) ≡ true)
    → unused y ≡ n
unfolding unused get
least_is y n up none used = least_at 0 1 n y.list y.rising up none used

-- a used name is not the least unused one
apart_from : (x : Space) (n : ℕ) → IsSome (get x n) → unused x ≡ n → ⊥
apart_from x n used same =
    let none : false ≡ true = subst (λ o. IsSome o)
    (ap (get x) (sym same) ∙ get-unused x) used in
    absurd (false≢true none)

-- an entry in the place of another leaves it
pub unused_set : (x : Space) (n : ℕ) (e : Entry)
    → IsSome (get x n)
    → unused (insert x n e) ≡ unused x
unused_set x n e used =
    least_is (insert x n e) (unused x) (from_one x)
    (get-insert_other x n e (unused x) (apart_from x n used) ∙ get-unused x)
    (λ m up below. elim (cases_eq m n) [
      | inl same ↦ ap is_some (ap (get (insert x n e)) same ∙ get-insert_same x n e)
      | inr other ↦ ap is_some (get-insert_other x n e m other) ∙ below_unused x m up below
    ])

-- so does a name that goes, if it is above
pub unused_above : (x : Space) (n : ℕ)
    → IsSome (get x n)
    → ((m : ℕ) → 1 ≤ m → m < unused x → m ≡ n → ⊥)
    → unused (remove x n) ≡ unused x
unused_above x n used above =
    least_is (remove x n) (unused x) (from_one x)
    (get-remove_other x n (unused x) (apart_from x n used) ∙ get-unused x)
    (λ m up below. ap is_some (get-remove_other x n m (above m up below))
    ∙ below_unused x m up below)

-- and one below it takes its place
pub unused_gone : (x : Space) (n : ℕ) → 1 ≤ n → n < unused x → unused (remove x n) ≡ n
unused_gone x n up below =
    least_is (remove x n) n up (get-remove_same x n)
    (λ m a b. ap is_some (get-remove_other x n m (λ z. absurd (omega arith)))
    ∙ below_unused x m a (omega arith))
