-- Believe. What is right of a fact: the chain that derives it, or that there is none. This
-- profile's own choice.
use Rattle.std.specs.Prelude.{◌≡◌, ℕ, List, Result, Ok, Err}
use Rattle.mrc_base.specs.declared.Fact.{Fact}
use Rattle.mrc_model.specs.Rules.{InRange, Least}
use Rattle.mrc_wiring.specs.Table.{Table, wiring_of}
use Rattle.mrc_closure.specs.Chains.{IsChain}
use Rattle.mrc_check.specs.Texts.{Meaningless, meaningless}
use Rattle.mrc_words.specs.Words.{fact_text}
use Rattle.mrc_answer.specs.declared.answers.Answer.{Answer}
use Rattle.mrc_answer.specs.declared.answers.Answer.TheVariants.{Chain, NoChain, Fault}
use Rattle.mrc_answer.specs.declared.answers.Explained.{Explained}
use Rattle.mrc_answer.specs.declared.answers.Underived.{Underived}
use Rattle.mrc_answer.specs.declared.faults.Fault.{Fault as Failure}
use Rattle.mrc_answer.specs.declared.faults.Fault.TheVariants.{Meaning, Word}
use Rattle.mrc_answer.specs.declared.faults.WordFault.TheVariants.{BadFact}
use Rattle.mrc_answer.specs.Files.{Files}
use Rattle.mrc_answer.specs.Texts.{system}

-- the text names the fact, which is over the wiring's tasks and classes
pub record IsNamed (table : Table) (text : List ℕ) (fact : Fact) : Type 0 where
  pub in_range : InRange (wiring_of table) fact
  pub is : fact_text table fact ≡ text

-- the text names no fact of the wiring
abbrev pub NamesNone : List ℕ → Table → Type 0
NamesNone text table = (fact : Fact) → IsNamed table text fact → ⊥

-- this holds of what a stage makes of the texts
pub record OfMeaning {X : Type 0} (made : Result X Meaningless) (Holds : X → Type 0) : Type 0 where
  pub meant : X
  pub says : made ≡ Ok meant
  pub holds : Holds meant

-- the texts mean the system, the text names the fact, and the chain derives it
pub record IsExplained (text : List ℕ) (files : Files) (e : Explained) : Type 0 where
  pub says : system files.texts ≡ Ok e.system
  pub named : IsNamed e.system.table text e.fact
  pub derives : IsChain (wiring_of e.system.table) e.fact e.chain

-- the same, and the fact is not in every closed set
pub record IsUnderived (text : List ℕ) (files : Files) (u : Underived) : Type 0 where
  pub says : system files.texts ≡ Ok u.system
  pub named : IsNamed u.system.table text u.fact
  pub outside : Least (wiring_of u.system.table) u.fact → ⊥

-- why there is no answer
abbrev pub IsUnexplained : List ℕ → Files → Failure → Type 0
IsUnexplained text files (Meaning fault) = system files.texts ≡ Err (meaningless fault)
IsUnexplained text files (Word BadFact) =
    OfMeaning (system files.texts) (λ meant. NamesNone text meant.table)
IsUnexplained text files fault = ⊥

-- what `explain` answers
abbrev pub IsExplanation : List ℕ → Files → Answer → Type 0
IsExplanation text files (Chain e) = IsExplained text files e
IsExplanation text files (NoChain u) = IsUnderived text files u
IsExplanation text files (Fault fault) = IsUnexplained text files fault
IsExplanation text files answer = ⊥
