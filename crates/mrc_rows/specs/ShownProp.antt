-- Step. Rows are one list of facts. Rows show one list of facts.
use Rattle.std.proofs.Common.{ℕ, List, Vec, sym, ◌∙◌}
use Rattle.std.specs.declared.alloc.Global.{Global}
use mathlib.Core.HLevel.{Σ_prop_path}
use mathlib.Core.Bool.{Bool-set}
use Rattle.std.proofs.Props.{props}
use Rattle.mrc_facts.proofs.Members.{one_list}
use Rattle.mrc_rows.specs.Rows.{Shown, Shows}

pub shown_prop : (rows : List (Vec ℕ Global)) (count : ℕ) → IsProp (Shown rows count)
shown_prop rows count = λ x y. Σ_prop_path (λ facts. shows_prop facts)
    (one_list x.0 y.0 x.1.ascending y.1.ascending (λ f. x.1.same f ∙ sym (y.1.same f)))
  where
    shows_prop : (facts : List _) → IsProp (Shows rows count facts)
    shows_prop facts = hlevel (Bool-set, props)
