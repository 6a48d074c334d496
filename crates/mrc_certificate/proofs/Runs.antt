-- A loop over the facts of a set, one after the other.
use Rattle.std.proofs.Common.{◌≡◌, ℕ, Bool, true, false, List, ◌∷◌, ◌++◌, sym, ap, ◌∙◌}
use Rattle.std.specs.Prelude.{◌&&◌}
use Rattle.std.specs.List.{list_all}
use Rattle.std.proofs.lemmas.List.{append_assoc}
use Rattle.std.proofs.lemmas.List.Concat.{flat_map-cons}
use Rattle.mrc_base.specs.declared.Fact.{Fact}
use Rattle.mrc_facts.specs.Order.{fact_bytes}
use Rattle.mrc_certificate.specs.Spelling.{facts_bytes}

-- whether all pass

pub passes : (P : Fact → Bool) (all left rest : List Fact) (f : Fact) → left ≡ f ∷ rest
    → P f ≡ true → list_all P all ≡ list_all P left → list_all P all ≡ list_all P rest
passes P all left rest f is pass so_far =
    so_far ∙ (ap (list_all P) is ∙ ap (λ b. b && list_all P rest) pass)

pub fails : (P : Fact → Bool) (all left rest : List Fact) (f : Fact) → left ≡ f ∷ rest
    → P f ≡ false → list_all P all ≡ list_all P left → false ≡ list_all P all
fails P all left rest f is fail so_far =
    sym (so_far ∙ (ap (list_all P) is ∙ ap (λ b. b && list_all P rest) fail))

-- their bytes, those that are written and those that are left

pub bytes_more : (out longer bytes : List ℕ) (left rest : List Fact) (f : Fact) → left ≡ f ∷ rest
    → longer ≡ out ++ fact_bytes f → out ++ facts_bytes left ≡ bytes
    → longer ++ facts_bytes rest ≡ bytes
bytes_more out longer bytes left rest f is put so_far =
    ap (λ bs. bs ++ facts_bytes rest) put
    ∙ (append_assoc out (fact_bytes f) (facts_bytes rest)
    ∙ (ap (λ bs. out ++ bs) (sym (flat_map-cons fact_bytes f rest))
    ∙ (ap (λ fs. out ++ facts_bytes fs) (sym is) ∙ so_far)))
