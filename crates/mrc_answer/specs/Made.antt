-- Believe. What is right of a certificate that is made, and what its file then has; and of mends.
-- This profile's own choice.
use Rattle.std.specs.Prelude.{◌≡◌, ◌⊎◌, ◌<◌, ℕ, List, Option, Ok, Err, length, string_bytes}
use Rattle.mrc_base.specs.Limits.{limit_of_workers}
use Rattle.mrc_facts.specs.Sets.{has}
use Rattle.mrc_model.specs.Wiring.{classes}
use Rattle.mrc_model.specs.Rules.{IsLeast}
use Rattle.mrc_wiring.specs.Table.{Table, wiring_of}
use Rattle.mrc_certificate.specs.Drafts.{Content}
use Rattle.mrc_certificate.specs.Spelling.{Spells}
use Rattle.mrc_check.specs.Texts.{Meant, meaningless}
use Rattle.mrc_files.specs.Files.{Held, HasBytes, IsLeftBy, KeepsOthers}
use Rattle.mrc_mend.specs.declared.answers.Answer.{Answer as Mending}
use Rattle.mrc_mend.specs.Judging.{IsNeededOf, IsMend, AreAnswered, AreAtMost}
use Rattle.mrc_answer.specs.declared.answers.Answer.{Answer}
use Rattle.mrc_answer.specs.declared.answers.Answer.TheVariants.{Made, Mends, Fault}
use Rattle.mrc_answer.specs.declared.faults.Fault.{Fault as Failure}
use Rattle.mrc_answer.specs.declared.faults.Fault.TheVariants.{Meaning, Word, Unwritten}
use Rattle.mrc_answer.specs.declared.faults.WordFault.TheVariants.{Workers}
use Rattle.mrc_answer.specs.declared.faults.Unwritten.{Unwritten as UnwrittenFile}
use Rattle.mrc_answer.specs.Files.{Files, Texts, asked_policy}
use Rattle.mrc_answer.specs.Texts.{system, stated}
use Rattle.mrc_answer.specs.Verified.{IsUnverified}

-- the draft is the least one of the wiring: it has the wiring's numbers, and its facts are the
-- least set that is closed under the ten rules
pub record IsLeastDraft (table : Table) (draft : Content) : Type 0 where
  pub tasks : draft.tasks ≡ (wiring_of table).tasks
  pub class_count : draft.classes ≡ classes (wiring_of table)
  pub births : draft.births ≡ length (wiring_of table).births
  pub least : IsLeast (wiring_of table) (has draft.facts)

-- the texts mean a wiring, of which this is the least draft
pub record IsDraftOf (texts : Texts) (draft : Content) : Type 0 where
  pub meant : Meant
  pub says : system texts ≡ Ok meant
  pub least : IsLeastDraft meant.table draft

-- the file has the bytes of a draft of so many facts, and no other file changed
pub record IsWritten (file : List ℕ) (before after : Held) (draft : Content) (count : ℕ)
    : Type 0 where
  pub bytes : List ℕ
  pub spells : Spells bytes draft
  pub written : HasBytes after file bytes
  pub others : KeepsOthers before after file
  pub count_is : count ≡ length draft.facts

-- the file did not take the bytes of a draft: it has those that it took, or nothing changed; and no
-- other file did
pub record IsPartWritten (file : List ℕ) (before after : Held) (draft : Content)
    (u : UnwrittenFile) : Type 0 where
  pub file_is : string_bytes u.file ≡ file
  pub bytes : List ℕ
  pub spells : Spells bytes draft
  pub left : IsLeftBy before after file bytes u.refusal
  pub others : KeepsOthers before after file

-- a certificate of so many facts was made of the files, and the file has its bytes
pub record IsMade (file : List ℕ) (before after : Held) (files : Files) (count : ℕ) : Type 0 where
  pub draft : Content
  pub is : IsDraftOf files.texts draft
  pub written : IsWritten file before after draft count

-- a certificate was made of the files, and the file did not take its bytes
pub record IsPartMade (file : List ℕ) (before after : Held) (files : Files) (u : UnwrittenFile)
    : Type 0 where
  pub draft : Content
  pub is : IsDraftOf files.texts draft
  pub left : IsPartWritten file before after draft u

-- there can't be so many workers
abbrev pub IsBadCount : ℕ → Type 0
IsBadCount workers = (workers ≡ 0) ⊎ (limit_of_workers < workers)

-- why no certificate was made
abbrev pub IsUnmade : List ℕ → ℕ → (before after : Held) → Files → Failure → Type 0
IsUnmade file workers before after files (Meaning fault) =
    system files.texts ≡ Err (meaningless fault)
IsUnmade file workers before after files (Word Workers) = IsBadCount workers
IsUnmade file workers before after files (Unwritten u) = IsPartMade file before after files u
IsUnmade file workers before after files fault = ⊥

-- what `make` answers
abbrev pub IsMaking : List ℕ → ℕ → (before after : Held) → Files → Answer → Type 0
IsMaking file workers before after files (Made count) = IsMade file before after files count
IsMaking file workers before after files (Fault fault) =
    IsUnmade file workers before after files fault
IsMaking file workers before after files answer = ⊥

-- Mends: so many at most, and they are right: with each of them, as it is printed, the least set of
-- the wiring is a yes to the policy, or to the line of it that is asked for; there is nothing to
-- mend if and only if it is a yes without them; and what the broken lines are said to have in
-- common is in the chain of each.
pub record AreMends (line : Option ℕ) (most : ℕ) (files : Files) (answer : Mending)
    : Type 0 where
  pub needed : IsNeededOf (stated files.texts) line answer
  pub within : AreAtMost most answer
  pub right : AreAnswered
      (IsMend files.texts.defs files.texts.wiring (asked_policy files.texts) line) answer

-- what `mend` answers: there are no mends for the same reasons for which `verify` has no answer
abbrev pub IsMending : Option ℕ → ℕ → Files → Answer → Type 0
IsMending line most files (Mends answer) = AreMends line most files answer
IsMending line most files (Fault fault) = IsUnverified line files fault
IsMending line most files answer = ⊥
