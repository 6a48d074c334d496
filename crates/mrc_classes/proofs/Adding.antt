-- How sets grow by parts.
use Rattle.std.proofs.Common.{ℕ, ◌+◌, Bool, subst}
use Rattle.std.proofs.Common.{◌⊎◌, inl, inr, arith}
use Rattle.std.proofs.lemmas.Bool.{cases_eq}
use Rattle.mrc_base.specs.declared.Fact.{Fact}
use Rattle.mrc_classes.specs.Growing.{Added, Below}

-- one part after the other
pub added_both : (F G H : Fact → Bool) (P Q : Fact → Type 0)
    → Added F G P
    → Added G H Q
    → Added F H (λ g. P g ⊎ Q g)
added_both F G H P Q p q = record {
  kept = λ g h. q.kept g (p.kept g h);
  all = λ g x. elim x [ inl a ↦ q.kept g (p.all g a) | inr b ↦ q.all g b ];
  new = λ g h. elim (q.new g h) [
    | inl before ↦ elim (p.new g before) [ inl first ↦ inl first | inr a ↦ inr (inl a) ]
    | inr b ↦ inr (inr b)
  ];
}

-- the same facts, said otherwise
pub added_as : (F G : Fact → Bool) (P Q : Fact → Type 0)
    → Added F G P
    → ((g : Fact) → P g → Q g)
    → ((g : Fact) → Q g → P g)
    → Added F G Q
added_as F G P Q p there back = record {
  kept = p.kept;
  all = λ g q. p.all g (back g q);
  new = λ g h. elim (p.new g h) [ inl before ↦ inl before | inr a ↦ inr (there g a) ];
}

-- parts

pub added_then : {F G H : Fact → Bool} {P Q : Fact → Type 0}
    → Added F G P
    → Added G H Q
    → Added F H (λ g. P g ⊎ Q g)
added_then p q = added_both _ _ _ _ _ p q

pub below_more : {F G H : Fact → Bool} (i : ℕ) (Q : ℕ → Fact → Type 0)
    → Added F G (Below i Q)
    → Added G H (Q i)
    → Added F H (Below (i + 1) Q)
below_more i Q p q =
    added_as _ _ (λ g. Below i Q g ⊎ Q i g) (Below (i + 1) Q)
    (added_both _ _ _ (Below i Q) (Q i) p q) there back
  where
    there : (g : Fact) → Below i Q g ⊎ Q i g → Below (i + 1) Q g
    there g (inl x) = record { place = x.place; below = omega (arith, x.below); at = x.at }
    there g (inr x) = record { place = i; below = omega arith; at = x }

    back : (g : Fact) → Below (i + 1) Q g → Below i Q g ⊎ Q i g
    back g x = elim (cases_eq x.place i) [
      | inl same ↦ inr (subst (λ k. Q k g) same x.at)
      | inr other ↦ inl
          (record { place = x.place; below = omega (arith, x.below, other); at = x.at })
    ]
