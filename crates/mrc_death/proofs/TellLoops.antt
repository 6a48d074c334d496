-- Notices of a list that are told one after the other, while their queues have room.
use Rattle.std.proofs.Common.{◌≡◌, ℕ, ◌+◌, List, [], ◌∷◌, length, sym, ◌∙◌, ap, subst, arith}
use Rattle.mrc_model.specs.World.{Store}
use Rattle.mrc_death.specs.Plans.{HasRoom}
use Rattle.mrc_death.proofs.Rooms.{room_less}

-- these are left to tell: each queue has room for them, and telling them leaves what telling all
-- left of the first store
pub record SoFar (tell : Store → List ℕ → Store) (first : Store) (all : List ℕ) (s : Store)
    (left : List ℕ) (n : ℕ) : Type 0 where
  pub room : HasRoom (length left) s
  pub same : tell s left ≡ tell first all
  pub count : n ≡ length left

-- at the beginning all are left
pub told_begun : (tell : Store → List ℕ → Store) (s : Store) (all left : List ℕ) (m n : ℕ)
    → left ≡ all
    → n ≡ m
    → m ≡ length all
    → HasRoom (length all) s
    → SoFar tell s all s left n
told_begun tell s all left m n is len size room = record {
  room = subst (λ xs. HasRoom (length xs) s) (sym is) room;
  same = ap (tell s) is;
  count = len ∙ size ∙ ap length (sym is);
}

-- there is room for the next one
pub told_next : (s : Store) (left rest : List ℕ) (p : ℕ)
    → left ≡ p ∷ rest
    → HasRoom (length left) s
    → HasRoom (length rest + 1) s
told_next s left rest p is room =
    room_less (length rest + 1) (length (p ∷ rest)) s (omega arith)
    (subst (λ xs. HasRoom (length xs) s) is room)

-- and so for one
pub told_one : (s : Store) (left rest : List ℕ) (p : ℕ)
    → left ≡ p ∷ rest
    → HasRoom (length left) s
    → HasRoom 1 s
told_one s left rest p is room =
    room_less 1 (length rest + 1) s (omega arith) (told_next s left rest p is room)

-- one was told
pub told_on : (tell : Store → List ℕ → Store) (one : Store → ℕ → Store) (first s t : Store)
    (all left rest : List ℕ) (p m n : ℕ)
    → ((z : Store) (q : ℕ) (qs : List ℕ) → tell z (q ∷ qs) ≡ tell (one z q) qs)
    → ((k : ℕ) (z : Store) (q : ℕ) → HasRoom (k + 1) z → HasRoom k (one z q))
    → SoFar tell first all s left m
    → left ≡ p ∷ rest
    → n + 1 ≡ m
    → t ≡ one s p
    → SoFar tell first all t rest n
told_on tell one first s t all left rest p m n step keeps so_far is less told = record {
  room = subst (HasRoom (length rest)) (sym told)
      (keeps (length rest) s p (told_next s left rest p is so_far.room));
  same = ap (λ z. tell z rest) told ∙ sym (step s p rest) ∙ ap (tell s) (sym is) ∙ so_far.same;
  count =
      let one_less : length left ≡ length (p ∷ rest) = ap length is in
      let count = so_far.count in
      omega arith;
}

-- all were told
pub told_all : (tell : Store → List ℕ → Store) (first s : Store) (all left : List ℕ) (n : ℕ)
    → ((z : Store) → tell z [] ≡ z)
    → SoFar tell first all s left n
    → n ≡ 0
    → s ≡ tell first all
told_all tell first s all [] n empty so_far none = sym (empty s) ∙ so_far.same
told_all tell first s all (p ∷ rest) n empty so_far none =
    let count = so_far.count in absurd (omega arith)
