-- What std's words for a map of numbers are in this crate's.
use Rattle.std.proofs.Common.{◌≡◌, ℕ, List, [], ◌∷◌, refl, sym, ◌∙◌, ap, arith, ◌==◌}
use Rattle.std.proofs.Common.{if◌then◌else◌, unwrap_or, Some, Option, true, false, cond}
use Rattle.std.proofs.lemmas.Bool.Decides.{nat_tests}
use Rattle.std.specs.Ordering.{nat_cmp}
use Rattle.std.specs.Map.{lookup}
use Rattle.std.specs.BTreeMap.{is_at}
use Rattle.mrc_map.proofs.MemberLaws.{at_is}
use Rattle.mrc_death.specs.Heads.{head_at}

pub head_is : (es : List (ℕ × ℕ)) (p : ℕ) → unwrap_or (lookup (is_at (nat_cmp p)) es) 0
    ≡ head_at es p
head_is [] p = refl
head_is (e ∷ es) p = rw (at_is p e.0) (elim (e.0 == p) as (λ b. unwrap_or (if b then Some e.1 else
    lookup (is_at (nat_cmp p)) es) 0 ≡ (if b then e.1 else head_at es p)) [
      | true ↦ refl
      | false ↦
          head_is es p
    ])

head_cases : (p q v w : ℕ) (o : Option ℕ) → unwrap_or o 0 ≡ w
    → unwrap_or (cond (q == p) (Some v) o) 0 ≡ (if p == q then v else w)
head_cases p q v w o h = grind (arith, nat_tests, h)

pub head_after : (new old : List (ℕ × ℕ)) (p q v : ℕ) → lookup (is_at (nat_cmp q)) new
    ≡ cond (is_at (nat_cmp p) q) (Some v) (lookup (is_at (nat_cmp q)) old) → head_at new q
    ≡ (if p == q then v else head_at old q)
head_after new old p q v h = sym (head_is new q) ∙ ap (λ o. unwrap_or o 0) (h
    ∙ ap (λ b. cond b (Some v) (lookup (is_at (nat_cmp q)) old)) (at_is p q))
    ∙ head_cases p q v (head_at old q) (lookup (is_at (nat_cmp q)) old) (head_is old q)
