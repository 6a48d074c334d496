-- Step. Both halves are one list of facts. Two halves are one list of facts.
use Rattle.std.proofs.Common.{List, sym, ◌∙◌}
use mathlib.Core.HLevel.{Σ_prop_path}
use mathlib.Core.Bool.{Bool-set}
use Rattle.std.proofs.Props.{props}
use Rattle.mrc_base.specs.declared.Fact.{Fact}
use Rattle.mrc_facts.proofs.Members.{one_list}
use Rattle.mrc_rows.specs.Halves.{Whole, IsWhole}

pub whole_prop : (rows others : List Fact) → IsProp (Whole rows others)
whole_prop rows others =
    λ x y. Σ_prop_path (λ facts. is_prop facts) (one_list x.0 y.0 x.1.ascending y.1.ascending
    (λ f. x.1.same f ∙ sym (y.1.same f)))
  where
    is_prop : (facts : List Fact) → IsProp (IsWhole rows others facts)
    is_prop facts = hlevel (Bool-set, props)
