use Rattle.std.proofs.Common.{◌<◌, ℕ, Bool, Option, Some, None, IfSome, IfNone, arith}
use Rattle.mrc_facts.specs.Sets.{has}
use Rattle.mrc_base.specs.declared.Fact.{Fact}
use Rattle.mrc_model.specs.Wiring.{Wiring}
use Rattle.mrc_classes.specs.Concluding.{rows}
use Rattle.mrc_classes.specs.Lacks.{LacksNoneIn, IsLackingRow, LacksNothing, IsRowLack}
use Rattle.mrc_classes.specs.Lacks.{IsFirstLack}
use Rattle.mrc_classes.specs.declared.rule_names.RuleName.{RuleName}
use Rattle.mrc_classes.proofs.searching.first_lack.Goals as goal

module _ (W : Wiring) (S : Fact → Bool) (rule : RuleName) where
  -- a row in which no fact is lacking
  none_in : (row : ℕ) → row < rows W rule → (IsLackingRow W S rule row → ⊥) → LacksNoneIn W S rule row
  none_in row there none class right below lacks = none (record {
    row_there = there;
    class = class;
    right = right;
    class_there = below;
    lacks = lacks;
  })

  -- what is lacking in the first row that lacks a fact
  first_in : (row : ℕ) (o : Option Fact)
      → IsLackingRow W S rule row
      → ((t : ℕ) → t < row → IsLackingRow W S rule t → ⊥)
      → IfSome o (λ f. (row < rows W rule) × IsRowLack W S rule row f)
      → IfNone o (row < rows W rule → LacksNoneIn W S rule row)
      → IfSome o (IsFirstLack W S rule)
  first_in row None at before found none = tt
  first_in row (Some f) at before found none = record {
    row = row;
    row_there = found.0;
    lack = found.1;
    least_row = λ t low. none_in t (omega (arith, low, found.0)) (before t low);
  }

  -- and there is one
  there_in : (row : ℕ) (o : Option Fact)
      → IsLackingRow W S rule row
      → IfNone o (row < rows W rule → LacksNoneIn W S rule row)
      → IfNone o (LacksNothing W S rule)
  there_in row None at none = absurd (none at.row_there at.class at.right at.class_there at.lacks)
  there_in row (Some f) at none = tt

pub returns-in-Some-clause-found : goal.returns-in-Some-clause-found
returns-in-Some-clause-found g c =
    first_in c.args.search.now.wiring (has c.args.search.now.facts) c.args.rule c.in-Some.row
    c.violation_row.result c.in-Some.ensures.found c.in-Some.ensures.least
    c.violation_row.ensures.found c.violation_row.ensures.none

pub returns-in-Some-clause-none : goal.returns-in-Some-clause-none
returns-in-Some-clause-none g c =
    there_in c.args.search.now.wiring (has c.args.search.now.facts) c.args.rule c.in-Some.row
    c.violation_row.result c.in-Some.ensures.found c.violation_row.ensures.none

pub returns-in-None-clause-none : goal.returns-in-None-clause-none
returns-in-None-clause-none g c = λ row there.
    none_in c.args.search.now.wiring (has c.args.search.now.facts) c.args.rule row there
    (c.in-None.ensures.none row there)
