-- Drafts as sets of facts.
use Rattle.std.proofs.Common.{ℕ, List, [], ◌∷◌, sym, ap, subst, ◌∙◌, inl, inr}
use Rattle.std.specs.Prelude.{IsTrue}
use Rattle.std.specs.List.{list_all}
use Rattle.std.proofs.lemmas.Bool.{and_parts, or_cases}
use Rattle.mrc_base.specs.declared.Fact.{Fact}
use Rattle.mrc_facts.specs.Order.{is_same}
use Rattle.mrc_facts.specs.Sets.{has}
use Rattle.mrc_facts.proofs.Total.{equal_from_same}
use Rattle.mrc_facts.proofs.Members.{one_list}
use Rattle.mrc_base.proofs.Steps.{ok_is}
use Rattle.mrc_certificate.specs.Drafts.{is_within}
use Rattle.mrc_certificate.specs.Spelling.{spelling}
use Rattle.mrc_certificate.specs.Reading.{draft_from}
use Rattle.mrc_certificate.specs.Laws.{OneDraft, OneSpelling, EachIsWithin}
use Rattle.mrc_certificate.proofs.Whole.{draft_again}

pub one_draft : OneDraft
one_draft bytes d e spells_d spells_e =
    ok_is d e (sym (ap draft_from spells_d.bytes_are ∙ draft_again d spells_d.draft)
    ∙ ap draft_from spells_e.bytes_are ∙ draft_again e spells_e.draft)

pub one_spelling : OneSpelling
one_spelling d e is_d is_e tasks classes births same =
    let facts = one_list d.facts e.facts is_d.ascending is_e.ascending same in
    ap (λ (n : ℕ). spelling (record d { tasks = n })) tasks
    ∙ ap (λ (n : ℕ). spelling (record d { tasks = e.tasks; classes = n })) classes
    ∙ ap (λ (n : ℕ). spelling (record d { tasks = e.tasks; classes = e.classes; births = n }))
    births
    ∙ ap (λ (fs : List Fact). spelling (record e { facts = fs })) facts

pub each_is_within : EachIsWithin
each_is_within tasks classes [] within f member = absurd cc
each_is_within tasks classes (g ∷ facts) within f member =
    let parts = and_parts (is_within tasks classes g) (list_all (is_within tasks classes) facts)
    within in
    elim (or_cases (is_same f g) (has facts f) member) [
      | inl same ↦ subst (λ (x : Fact). IsTrue (is_within tasks classes x))
          (sym (equal_from_same f g same)) parts.0
      | inr rest ↦ each_is_within tasks classes facts parts.1 f rest
    ]
