-- Of what objects to arguments one counts.
use Rattle.std.proofs.Common.{◌≡◌, ℕ, zero, suc, inl, inr, List, Option, Some, None}
use Rattle.std.proofs.Common.{refl, sym, ap, ◌∙◌, arith}
use Rattle.mrc_mig_types.specs.declared.shapes.By.{By}
use Rattle.mrc_mig_bodies.specs.declared.kinds.RoutineKind.{RoutineKind}
use Rattle.mrc_mig_bodies.specs.declared.objections.LeftOutWord.{LeftOutWord}
use Rattle.mrc_mig_bodies.specs.declared.objections.LeftOutWord.TheVariants as words
use Rattle.mrc_mig_bodies.specs.declared.objections.Objection.{Objection}
use Rattle.mrc_mig_bodies.specs.Listed.{objections, first_of}
use Rattle.mrc_mig_bodies.specs.Objections.{rank, IsNotBehind, IsFirst, Objects}
use Rattle.mrc_mig_bodies.specs.Parameters.{Parameter}
use Rattle.mrc_mig_bodies.proofs.FirstLemmas.{is_first}
use Rattle.mrc_mig_bodies.proofs.ListedLemmas.{first_told}

-- the word of a rank
word_at : ℕ → LeftOutWord
word_at zero = words.Unexpected
word_at (suc zero) = words.UnknownType
word_at (suc (suc zero)) = words.NoRequestPort
word_at (suc (suc (suc zero))) = words.ReplyPort
word_at (suc (suc (suc (suc zero)))) = words.TwiceNamed
word_at (suc (suc (suc (suc (suc n))))) = words.TooMany

word_of_rank : (word : LeftOutWord) → word_at (rank word) ≡ word
unfolding word_at
word_of_rank words.Unexpected = refl
word_of_rank words.UnknownType = refl
word_of_rank words.NoRequestPort = refl
word_of_rank words.ReplyPort = refl
word_of_rank words.TwiceNamed = refl
word_of_rank words.TooMany = refl

same_rank : (a b : LeftOutWord) → rank a ≡ rank b → a ≡ b
same_rank a b e = sym (word_of_rank a) ∙ (ap word_at e ∙ word_of_rank b)

same_parts : (x y : ℕ) (v w : LeftOutWord) → x ≡ y → v ≡ w
    → let one : Objection = record { at = x; word = v } in
    let other : Objection = record { at = y; word = w } in one ≡ other
same_parts x y v w e f = cc

-- two that are not behind each other are one
same : (a b : Objection) → IsNotBehind a b → IsNotBehind b a → a ≡ b
same a b (inl less) (inl more) = absurd (omega arith)
same a b (inl less) (inr (e, le)) = absurd (omega arith)
same a b (inr (e, le)) (inl less) = absurd (omega arith)
same a b (inr (e, le)) (inr (f, more)) =
    same_parts a.at b.at a.word b.word e (same_rank a.word b.word (omega arith))

-- one counts
only : (Refuses : ℕ → LeftOutWord → Type 0) (a b : Option Objection) → IsFirst Refuses a
    → IsFirst Refuses b → a ≡ b
only Refuses None None f g = refl
only Refuses None (Some b) f g = absurd (f b.at b.word g.0)
only Refuses (Some a) None f g = absurd (g a.at a.word f.0)
only Refuses (Some a) (Some b) f g =
    ap Some (same a b (f.1 b.at b.word g.0) (g.1 a.at a.word f.0))

-- the one that counts is the first of the list
pub first_is : (kind : RoutineKind) (judged : By) (end_at : ℕ) (arguments : List Parameter)
    (found : Option Objection) → IsFirst (Objects kind judged end_at arguments) found
    → found ≡ first_of (objections kind judged end_at arguments)
first_is kind judged end_at arguments found h =
    only (Objects kind judged end_at arguments) found
    (first_of (objections kind judged end_at arguments)) h
    (first_told kind judged end_at arguments
    (first_of (objections kind judged end_at arguments))
    (is_first (objections kind judged end_at arguments)))
