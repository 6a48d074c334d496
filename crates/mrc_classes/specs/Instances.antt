-- Believe. The instances of a rule that conclude a fact.
-- W is the wiring; S and T say which facts are in two sets. Only `IsInstance` is to be believed:
-- the rest is a step. This profile's own choice.
use Rattle.std.specs.Prelude.{◌≡◌, ℕ, ◌<◌, ◌&&◌, ◌||◌, Bool, List, [], ◌∷◌, Option, Some, None}
use Rattle.std.specs.Prelude.{IsTrue, if◌then◌else◌, nat_lt}
use Rattle.std.specs.List.{AllByRecursion}
use Rattle.mrc_base.specs.declared.PortRight.{PortRight}
use Rattle.mrc_base.specs.declared.PortRight.TheVariants.{Send}
use Rattle.mrc_base.specs.declared.Fact.{Fact}
use Rattle.mrc_base.specs.declared.Fact.TheVariants.{Hold, Carry, Backup}
use Rattle.mrc_model.specs.Wiring.{Wiring, classes}
use Rattle.mrc_model.specs.Rules.{Has, InRange, Rule}
use Rattle.mrc_classes.specs.Missing.{rule_number}
use Rattle.mrc_classes.specs.Concluding.{conclusion, rows, has_two, sources, leads, Comes}
use Rattle.mrc_classes.specs.declared.rule_names.RuleName.{RuleName}
use Rattle.mrc_classes.specs.declared.instances.FewFacts.{FewFacts}
use Rattle.mrc_classes.specs.declared.instances.FewFacts.TheVariants.{Empty, One, Two}
use Rattle.mrc_classes.specs.declared.instances.Instance.{Instance}
use Rattle.mrc_classes.specs.declared.instances.Premise.{Premise}
use Rattle.mrc_classes.specs.declared.instances.Premise.TheVariants.{Only, Either}
use Rattle.mrc_classes.specs.declared.instances.Candidates.{Candidates}
use Rattle.mrc_classes.specs.declared.instances.Candidates.TheVariants.{Never, ByNone, ByOne, ByTwo}

-- the premises, in the order of the rule
abbrev pub premise_list : FewFacts → List Fact
premise_list Empty = []
premise_list (One f) = f ∷ []
premise_list (Two f g) = f ∷ g ∷ []

-- the rule concludes the fact from these premises, by an instance in range; the premises are in the
-- set
pub record IsInstance (W : Wiring) (S : Fact → Bool) (f : Fact) (i : Instance) : Type 0 where
  pub rule : Rule W (rule_number i.rule) (premise_list i.premises) f
  pub known : AllByRecursion (λ p. InRange W p × Has S p) (premise_list i.premises)
  pub in_range : InRange W f

-- the row, the class and the right of a fact; a backup has no right: Send stands for it
abbrev pub AreParts : Fact → ℕ → ℕ → PortRight → Type 0
AreParts (Hold t d q) row c r = (row ≡ t) × (c ≡ d) × (r ≡ q)
AreParts (Carry e d q) row c r = (row ≡ e) × (c ≡ d) × (r ≡ q)
AreParts (Backup e d) row c r = (row ≡ e) × (c ≡ d) × (r ≡ Send)

-- a fact as what a rule of a wiring is to conclude
pub record Concluded : Type 0 where
  pub wiring : Wiring
  pub rule : RuleName
  pub row : ℕ
  pub class : ℕ
  pub right : PortRight

-- the fact itself
abbrev pub fact_of : Concluded → Fact
fact_of g = conclusion g.rule g.row g.class g.right

-- it is over the wiring's tasks and classes
pub record IsWithin (g : Concluded) : Type 0 where
  pub row_there : g.row < rows g.wiring g.rule
  pub class_there : g.class < classes g.wiring

-- g is the fact f as what the rule of W is to conclude
pub record IsGoal (W : Wiring) (rule : RuleName) (f : Fact) (g : Concluded) : Type 0 where
  pub wiring : g.wiring ≡ W
  pub rule_is : g.rule ≡ rule
  pub fact : fact_of g ≡ f
  pub parts : AreParts f g.row g.class g.right
  pub in_range : InRange W f

-- the rule concludes it by the source n, with its first premise in the one set and its last in the
-- other
pub record IsSource (S T : Fact → Bool) (g : Concluded) (n : ℕ) : Type 0 where
  pub there : n < sources g.wiring g.rule
  pub first : IsTrue (leads g.wiring S g.rule g.row n)
  pub last : Comes g.wiring T g.rule g.row n g.class g.right

-- the same of a rule, a row, a source, a class and a right
abbrev pub ComesBy : Wiring → (Fact → Bool) → (Fact → Bool) → RuleName → ℕ → ℕ → ℕ → PortRight
    → Type 0
ComesBy W S T rule row n c r = IsTrue (leads W S rule row n) × Comes W T rule row n c r

-- one of the facts that the premise can be is in the set
abbrev pub has_premise : (Fact → Bool) → Premise → Bool
has_premise S (Only f) = S f
has_premise S (Either f g) = S f || S g

-- the same of each premise, the first in the one set and the last in the other
abbrev pub HavePremises : (Fact → Bool) → (Fact → Bool) → Candidates → Type 0
HavePremises S T Never = ⊥
HavePremises S T ByNone = Unit {0}
HavePremises S T (ByOne f) = IsTrue (T f)
HavePremises S T (ByTwo p q) = IsTrue (has_premise S p) × IsTrue (has_premise T q)

-- how many premises a rule has
abbrev pub premises_count : RuleName → ℕ
premises_count rule = if has_two rule then 2 else if nat_lt (rule_number rule) 3 then 0 else 1

-- so many premises, unless there are none to be had
abbrev pub HasCount : ℕ → Candidates → Type 0
HasCount n Never = Unit {0}
HasCount n ByNone = n ≡ 0
HasCount n (ByOne f) = n ≡ 1
HasCount n (ByTwo p q) = n ≡ 2

-- the first fact that the premise can be and that the set has, else the last
abbrev pub fact_in : (Fact → Bool) → Premise → Fact
fact_in S (Only f) = f
fact_in S (Either f g) = if S f then f else g

-- the first premises that the set has
abbrev pub premises_in : (Fact → Bool) → Candidates → Option FewFacts
premises_in S Never = None
premises_in S ByNone = Some Empty
premises_in S (ByOne f) = if S f then Some (One f) else None
premises_in S (ByTwo p q) =
    if has_premise S p && has_premise S q then Some (Two (fact_in S p) (fact_in S q)) else None
