-- Believe. What is right of the facts of a certificate, or of those of the least set: those that
-- are asked for, as a list or as a drawing. This profile's own choice.
use Rattle.std.specs.Prelude.{◌≡◌, Bool, false, ℕ, List, [], Option, Some, None, Result, Ok, Err}
use Rattle.std.specs.Prelude.{filter, map}
use Rattle.mrc_base.specs.declared.Fact.{Fact}
use Rattle.mrc_base.specs.Reading.{◌>>=◌}
use Rattle.mrc_model.specs.Rules.{IsLeast, Least}
use Rattle.mrc_facts.specs.Sets.{has, IsAscending}
use Rattle.mrc_interface.specs.Reading.{step}
use Rattle.mrc_wiring.specs.Table.{Table, wiring_of}
use Rattle.mrc_certificate.specs.Drafts.{Content}
use Rattle.mrc_certificate.specs.Spelling.{Spells}
use Rattle.mrc_certificate.specs.Reading.{draft_from}
use Rattle.mrc_closure.specs.declared.chains.Step.{Step}
use Rattle.mrc_closure.specs.Chains.{IsChain}
use Rattle.mrc_check.specs.Verdict.{HasCounts}
use Rattle.mrc_check.specs.Texts.{Meant, Stated, Meaningless, InCertificate, meaningless, stated_by}
use Rattle.mrc_draw.specs.declared.filter.Filter.{Filter}
use Rattle.mrc_draw.specs.declared.filter.FilterFault.{FilterFault}
use Rattle.mrc_draw.specs.declared.filter.FilterFault.TheVariants as faults
use Rattle.mrc_draw.specs.Filters.{filter_of, is_drawn}
use Rattle.mrc_answer.specs.declared.answers.Answer.{Answer}
use Rattle.mrc_answer.specs.declared.answers.Answer.TheVariants.{Facts, OtherCounts, Drawing}
use Rattle.mrc_answer.specs.declared.answers.Answer.TheVariants.{NoDrawing, Fault}
use Rattle.mrc_answer.specs.declared.answers.Drawing.{Drawing as DrawnFacts}
use Rattle.mrc_answer.specs.declared.answers.Listed.{Listed}
use Rattle.mrc_answer.specs.declared.answers.Undrawn.{Undrawn}
use Rattle.mrc_answer.specs.declared.faults.Fault.{Fault as Failure}
use Rattle.mrc_answer.specs.declared.faults.Fault.TheVariants.{Meaning, Word}
use Rattle.mrc_answer.specs.declared.faults.WordFault.{WordFault}
use Rattle.mrc_answer.specs.declared.faults.WordFault.TheVariants.{BadFact, BadTask, BadClass}
use Rattle.mrc_answer.specs.declared.faults.WordFault.TheVariants.{BadRight}
use Rattle.mrc_answer.specs.Explained.{IsNamed, NamesNone, OfMeaning}
use Rattle.mrc_answer.specs.Files.{Files, Texts, asked_policy}
use Rattle.mrc_answer.specs.Texts.{system}

-- What the texts mean.

-- what a certificate answers, if it is given
abbrev pub draft_given : Option (List ℕ) → Result (Option Content) Meaningless
draft_given None = Ok None
draft_given (Some bytes) = do
  draft ← step InCertificate (draft_from bytes)
  Ok (Some draft)

-- the same after MIG files and a wiring, or the first text that has no meaning
abbrev pub drafted : Texts → Result (Option Content) Meaningless
drafted texts = do
  meant ← system texts
  draft_given texts.certificate

-- a system of which nothing is demanded
abbrev pub without_policy : Meant → Stated
without_policy meant = record {
  lines = meant.lines;
  claim = record { table = meant.table; lines = [] };
  stands = record { is_wide = false; lines = []; waived = [] };
  demands = [];
}

-- a system with what a policy forbids in it: nothing, if none is given
abbrev pub claim_given : Option (List ℕ) → Texts → Meant → Result Stated Meaningless
claim_given None texts meant = Ok (without_policy meant)
claim_given (Some policy) texts meant = stated_by meant (asked_policy texts)

-- the same of MIG files, a wiring and a policy
abbrev pub claimed : Texts → Result Stated Meaningless
claimed texts = do
  meant ← system texts
  claim_given texts.policy texts meant

-- what a certificate answers, if it is looked at: not for the chain of a fact
abbrev pub draft_drawn : Option (List ℕ) → Option (List ℕ) → Result (Option Content) Meaningless
draft_drawn None certificate = draft_given certificate
draft_drawn (Some fact) certificate = Ok None

-- the same after MIG files, a wiring and a policy
abbrev pub drawn : Option (List ℕ) → Texts → Result (Option Content) Meaningless
drawn fact texts = do
  stated ← claimed texts
  draft_drawn fact texts.certificate

-- Sets of facts.

-- the draft has the wiring's numbers
abbrev pub IsOfWiring : Table → Content → Type 0
IsOfWiring table draft = HasCounts (record { table = table; lines = [] }) draft

-- they are the facts of the certificate that the bytes encode, which has the wiring's numbers
pub record AreOfDraft (table : Table) (bytes : List ℕ) (facts : List Fact) : Type 0 where
  pub draft : Content
  pub spells : Spells bytes draft
  pub counts : IsOfWiring table draft
  pub are : facts ≡ draft.facts

-- the facts of a certificate, if its bytes are given, and else those of the least set
abbrev pub AreFactsOf : Table → Option (List ℕ) → List Fact → Type 0
AreFactsOf table None facts = IsLeast (wiring_of table) (has facts)
AreFactsOf table (Some bytes) facts = AreOfDraft table bytes facts

-- the bytes encode a certificate that has other numbers than the wiring
pub record IsOfAnother (table : Table) (bytes : List ℕ) : Type 0 where
  pub draft : Content
  pub spells : Spells bytes draft
  pub other : IsOfWiring table draft → ⊥

-- the same of bytes that may be given
abbrev pub IsOtherIfGiven : Table → Option (List ℕ) → Type 0
IsOtherIfGiven table None = ⊥
IsOtherIfGiven table (Some bytes) = IsOfAnother table bytes

-- Lists of facts.

-- the option whose word names nothing
abbrev pub word_fault : FilterFault → WordFault
word_fault faults.Task = BadTask
word_fault faults.Class = BadClass
word_fault faults.Right = BadRight

-- the texts mean the wiring; the words ask for these facts of it; and the facts, ascending, are
-- those of the certificate, or of the least set
pub record AreListed (task class right : Option (List ℕ)) (files : Files) (l : Listed) : Type 0
  where
    pub meant : Meant
    pub says : system files.texts ≡ Ok meant
    pub table : l.wired ≡ meant.table
    pub asked : filter_of l.wired task class right ≡ Ok l.filter
    pub are : AreFactsOf l.wired files.texts.certificate l.facts
    pub ascending : IsAscending l.facts

-- one of these words names nothing: the first such
pub record IsBadFilter (task class right : Option (List ℕ)) (word : WordFault) (table : Table)
    : Type 0 where
  pub fault : FilterFault
  pub says : filter_of table task class right ≡ Err fault
  pub word_is : word ≡ word_fault fault

-- why none are listed
abbrev pub AreUnlisted : (task class right : Option (List ℕ)) → Files → Failure → Type 0
AreUnlisted task class right files (Meaning fault) = drafted files.texts ≡ Err (meaningless fault)
AreUnlisted task class right files (Word word) =
    OfMeaning (system files.texts) (λ meant. IsBadFilter task class right word meant.table)
AreUnlisted task class right files fault = ⊥

-- what `facts` answers
abbrev pub IsListing : (task class right : Option (List ℕ)) → Files → Answer → Type 0
IsListing task class right files (Facts l) = AreListed task class right files l
IsListing task class right files OtherCounts =
    OfMeaning (system files.texts) (λ meant. IsOtherIfGiven meant.table files.texts.certificate)
IsListing task class right files (Fault fault) = AreUnlisted task class right files fault
IsListing task class right files answer = ⊥

-- Drawings.

-- they are the facts of the steps of a chain that derives the fact
pub record IsOfChain (table : Table) (fact : Fact) (facts : List Fact) : Type 0 where
  pub chain : List Step
  pub derives : IsChain (wiring_of table) fact chain
  pub are : (f : Fact) → has facts f ≡ has (map (λ (s : Step). s.fact) chain) f

-- the same of the fact that the text names
pub record AreOfChain (table : Table) (text : List ℕ) (facts : List Fact) : Type 0 where
  pub fact : Fact
  pub named : IsNamed table text fact
  pub of_chain : IsOfChain table fact facts

-- the facts of a chain, if the text of a fact is given, and else those of a certificate, or of the
-- least set
abbrev pub AreDrawnOf : Table → (certificate fact : Option (List ℕ)) → List Fact → Type 0
AreDrawnOf table certificate None facts = AreFactsOf table certificate facts
AreDrawnOf table certificate (Some text) facts = AreOfChain table text facts

-- of these facts, those that are asked for are drawn: of the task, if its name is given, and holds
-- alone, if these are asked for
pub record AreChosen (Are : List Fact → Type 0) (task : Option (List ℕ)) (holds : Bool)
    (table : Table) (drawn : List Fact) : Type 0 where
  pub asked : Filter
  pub by_name : filter_of table task None None ≡ Ok asked
  pub facts : List Fact
  pub are : Are facts
  pub chosen : drawn ≡ filter (is_drawn asked holds) facts

-- the texts mean the system, and these of its facts are drawn
pub record AreDrawn (fact task : Option (List ℕ)) (holds : Bool) (files : Files) (d : DrawnFacts)
    : Type 0 where
  pub says : claimed files.texts ≡ Ok d.stated
  pub are : AreChosen (AreDrawnOf d.stated.claim.table files.texts.certificate fact) task holds
      d.stated.claim.table d.facts

-- the text that may be given names the fact, and no chain derives it
abbrev pub IsUndrawnIfGiven : Option (List ℕ) → Table → Fact → Type 0
IsUndrawnIfGiven None table fact = ⊥
IsUndrawnIfGiven (Some text) table fact =
    IsNamed table text fact × (Least (wiring_of table) fact → ⊥)

-- the texts mean the system, and no chain derives its fact
pub record IsUndrawn (fact : Option (List ℕ)) (files : Files) (u : Undrawn) : Type 0 where
  pub says : claimed files.texts ≡ Ok u.stated
  pub none : IsUndrawnIfGiven fact u.stated.claim.table u.fact

-- the certificate is looked at, and has other numbers
abbrev pub IsOtherIfDrawn : (certificate fact : Option (List ℕ)) → Table → Type 0
IsOtherIfDrawn certificate None table = IsOtherIfGiven table certificate
IsOtherIfDrawn certificate (Some text) table = ⊥

-- the text that may be given names no fact
abbrev pub NamesNoneIfGiven : Option (List ℕ) → Table → Type 0
NamesNoneIfGiven None table = ⊥
NamesNoneIfGiven (Some text) table = NamesNone text table

-- the word of an option names nothing: that of the fact, or that of the task
abbrev pub IsBadDrawing : (fact task : Option (List ℕ)) → WordFault → Table → Type 0
IsBadDrawing fact task BadFact table = NamesNoneIfGiven fact table
IsBadDrawing fact task word table = IsBadFilter task None None word table

-- why nothing is drawn
abbrev pub AreUndrawn : (fact task : Option (List ℕ)) → Files → Failure → Type 0
AreUndrawn fact task files (Meaning fault) = drawn fact files.texts ≡ Err (meaningless fault)
AreUndrawn fact task files (Word word) =
    OfMeaning (claimed files.texts) (λ stated. IsBadDrawing fact task word stated.claim.table)
AreUndrawn fact task files fault = ⊥

-- what `graph` answers
abbrev pub IsGraph : (fact task : Option (List ℕ)) → Bool → Files → Answer → Type 0
IsGraph fact task holds files (Drawing d) = AreDrawn fact task holds files d
IsGraph fact task holds files (NoDrawing u) = IsUndrawn fact files u
IsGraph fact task holds files OtherCounts = OfMeaning (claimed files.texts)
    (λ stated. IsOtherIfDrawn files.texts.certificate fact stated.claim.table)
IsGraph fact task holds files (Fault fault) = AreUndrawn fact task files fault
IsGraph fact task holds files answer = ⊥
