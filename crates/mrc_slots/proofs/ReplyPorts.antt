-- Which reply rights can come with requests to a class, as a row of bits.
use Rattle.std.proofs.Common.{◌≡◌, ℕ, ◌≤◌, Bool, true, false, List, [], length}
use Rattle.std.proofs.Common.{refl, ap, sym, ◌∙◌, arith}
use Rattle.std.specs.Prelude.{◌&&◌, nat_lt, if◌then◌else◌}
use Rattle.std.proofs.Math.Bool.{and-false}
use Rattle.mrc_bits.specs.Bits.{is_set}
use Rattle.mrc_rows.proofs.Rows.{no_bit}
use Rattle.mrc_model.specs.Wiring.{Wiring, classes, accepts_replier, accepts_routine}
use Rattle.mrc_slots.specs.Passing.{is_replier}
use Rattle.mrc_slots.specs.Masks.{IsMask, is_any, replier_words, AreRepliers}
use Rattle.mrc_slots.specs.declared.repliers.Repliers.{Repliers}
use Rattle.mrc_slots.specs.declared.repliers.Repliers.TheVariants.{Any, Fitting}

-- where reply ports need not fit
unfitting : (W : Wiring) (d c : ℕ) → W.replies_fit ≡ false
    → accepts_replier W d c ≡ accepts_routine W d
unfolding accepts_replier
unfitting W d c e = rw e refl

all_come : (a b s : Bool) → (a && s) ≡ true → (b && true) ≡ (a && (b && s))
all_come true b true e = refl
all_come true b false e = cc
all_come false b s e = cc

none_comes : (a b s : Bool) → (a && s) ≡ false → false ≡ (a && (b && s))
none_comes true b true e = cc
none_comes true b false e = sym (and-false b)
none_comes false b s e = refl

module _ (W : Wiring) (all : List ℕ) (any : IsMask is_any (classes W) all) (d : ℕ) where
  pub replier_bit : (repliers : Repliers) → AreRepliers W repliers → (c : ℕ)
      → is_set (replier_words repliers all d) c ≡ is_replier W d c
  replier_bit (Any routines) are c =
      elim (is_set routines.items d) as (λ b. is_set routines.items d ≡ b
      → is_set (if b then all else []) c ≡ is_replier W d c) [
        | true ↦ λ at.
            any.bits c ∙ (all_come (nat_lt d (classes W)) (nat_lt c (classes W))
            (accepts_routine W d) (sym (are.1.bits d) ∙ at) ∙ routine)
        | false ↦ λ at.
            no_bit 0 c ∙ (none_comes (nat_lt d (classes W)) (nat_lt c (classes W))
            (accepts_routine W d) (sym (are.1.bits d) ∙ at) ∙ routine)
      ] refl
    where
      routine : (nat_lt d (classes W) && (nat_lt c (classes W) && accepts_routine W d))
          ≡ is_replier W d c
      routine =
          ap (λ b. nat_lt d (classes W) && (nat_lt c (classes W) && b))
          (sym (unfitting W d c are.0))
  replier_bit (Fitting rows) are c = are.bits d c

  pub replier_few : (repliers : Repliers) → AreRepliers W repliers
      → length (replier_words repliers all d) ≤ 21
  replier_few (Any routines) are =
      elim (is_set routines.items d) as (λ b. length (if b then all else []) ≤ 21) [
        | true ↦ any.few
        | false ↦ omega arith
      ]
  replier_few (Fitting rows) are = are.few d
