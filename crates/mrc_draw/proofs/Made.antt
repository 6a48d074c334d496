-- Sets from lists.
use Rattle.std.proofs.Common.{◌≡◌, ℕ, ◌+◌, ◌<◌, Bool, List, length, take, sym, ap, ◌∙◌, get_or}
use Rattle.std.specs.Prelude.{◌||◌}
use Rattle.std.proofs.lemmas.List.Folds.{list_any_more}
use Rattle.std.proofs.Math.Bool.{or_comm}
use Rattle.mrc_base.specs.declared.Fact.{Fact}
use Rattle.mrc_facts.specs.Order.{is_same}
use Rattle.mrc_facts.specs.Sets.{has}

-- the set has one more fact of the list
pub set_more : (facts : List Fact) (i : ℕ) (f : Fact) → i < length facts → f ≡ get_or facts i f
    → (before after : Fact → Bool)
    → ((g : Fact) → before g ≡ has (take i facts) g)
    → ((g : Fact) → after g ≡ (is_same g f || before g))
    → (g : Fact) → after g ≡ has (take (i + 1) facts) g
set_more facts i f low at before after so_far told g =
    told g ∙ (ap (λ b. is_same g f || b) (so_far g)
    ∙ (or_comm (is_same g f) (has (take i facts) g)
    ∙ (ap (λ h. has (take i facts) g || is_same g h) at
    ∙ sym (list_any_more (is_same g) facts i f low))))
