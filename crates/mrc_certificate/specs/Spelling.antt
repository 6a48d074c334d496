-- Believe. The bytes of a draft. The profile's own choice.
use Rattle.std.specs.Prelude.{◌≡◌, ℕ, ◌==◌, List, [], ◌++◌, length, codes, if◌then◌else◌}
use Rattle.std.specs.List.{flat_map}
use Rattle.std.specs.Int.{w16, w32, to_be_bytes}
use Rattle.mrc_base.specs.declared.Fact.{Fact}
use Rattle.mrc_facts.specs.Order.{fact_bytes}
use Rattle.mrc_certificate.specs.Drafts.{Content, IsDraft}
use Rattle.mrc_certificate.specs.declared.draft.Draft.{Draft}

-- what a Draft says
abbrev pub content : Draft → Content
content d = record {
  tasks = d.tasks;
  classes = d.classes;
  births = d.births;
  facts = d.facts;
}

-- the first four bytes
abbrev pub magic : List ℕ
magic = codes "MRCC"

-- the six bytes of each fact
abbrev pub facts_bytes : List Fact → List ℕ
facts_bytes facts = flat_map fact_bytes facts

-- the version of so many tasks and classes of births: 1 where there is one class for each task
abbrev pub version_number : ℕ → ℕ → ℕ
version_number tasks births = if births == tasks then 1 else 2

-- the number of classes of births, which stands in version 2 alone
abbrev pub births_bytes : ℕ → ℕ → List ℕ
births_bytes tasks births = if births == tasks then [] else to_be_bytes w16 births

-- the magic, the version, the numbers, all high byte first, and the facts
abbrev pub spelling : Content → List ℕ
spelling d =
    magic ++ to_be_bytes w16 (version_number d.tasks d.births) ++ to_be_bytes w16 d.tasks ++
    to_be_bytes w16 d.classes ++ births_bytes d.tasks d.births ++
    to_be_bytes w32 (length d.facts) ++ facts_bytes d.facts

-- the bytes are those of the draft
pub record Spells (bytes : List ℕ) (d : Content) : Type 0 where
  pub draft : IsDraft d
  pub bytes_are : bytes ≡ spelling d
