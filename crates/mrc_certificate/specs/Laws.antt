-- Law. One draft for bytes, one encoding for a set. What holds of certificates and of what they
-- claim.
use Rattle.std.specs.Prelude.{◌≡◌, ℕ, List, Ok, IsTrue}
use Rattle.mrc_base.specs.declared.Fact.{Fact}
use Rattle.mrc_facts.specs.Sets.{has}
use Rattle.mrc_certificate.specs.Drafts.{Content, IsDraft, is_within, AreWithin}
use Rattle.mrc_certificate.specs.Spelling.{spelling, Spells}
use Rattle.mrc_certificate.specs.Reading.{draft_from}

-- what is written of a draft is read again as that draft
abbrev pub IsReadAgain : Type 0
IsReadAgain = (d : Content) → IsDraft d → draft_from (spelling d) ≡ Ok d

-- no bytes spell two drafts
abbrev pub OneDraft : Type 0
OneDraft = (bytes : List ℕ) (d e : Content) → Spells bytes d → Spells bytes e → d ≡ e

-- drafts with the same counts and the same set of facts have one spelling
abbrev pub OneSpelling : Type 0
OneSpelling =
    (d e : Content) → IsDraft d → IsDraft e → d.tasks ≡ e.tasks → d.classes ≡ e.classes
    → d.births ≡ e.births → ((f : Fact) → has d.facts f ≡ has e.facts f) → spelling d ≡ spelling e

-- each fact of a draft is within its counts
abbrev pub EachIsWithin : Type 0
EachIsWithin =
    (tasks classes : ℕ) (facts : List Fact) → AreWithin tasks classes facts → (f : Fact)
    → IsTrue (has facts f) → IsTrue (is_within tasks classes f)
