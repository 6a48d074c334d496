-- Law. A forbidden hold of the least set is final; there is one least set. This profile's own
-- choice.
use Rattle.std.specs.Prelude.{◌≡◌, Bool, List}
use Rattle.mrc_base.specs.declared.Fact.{Fact}
use Rattle.mrc_base.specs.declared.Fact.TheVariants.{Hold}
use Rattle.mrc_model.specs.IsIn.{IsIn}
use Rattle.mrc_model.specs.Wiring.{Wiring}
use Rattle.mrc_model.specs.Breach.{Forbid}
use Rattle.mrc_model.specs.Rules.{Has, IsLeast, SaysYes}
use Rattle.mrc_facts.specs.Sets.{has, IsAscending}

-- where a line forbids a hold of the least set, the checker says yes to no set
abbrev pub ForbiddenIsFinal : Type 0
ForbiddenIsFinal = (W : Wiring) (policy : List Forbid) (least set : Fact → Bool) (line : Forbid)
    → IsLeast W least
    → IsIn line policy
    → Has least (Hold line.task line.class line.right)
    → SaysYes W policy set
    → ⊥

-- there is one least set
abbrev pub OneLeast : Type 0
OneLeast = (W : Wiring) (fs gs : List Fact)
    → IsAscending fs
    → IsAscending gs
    → IsLeast W (has fs)
    → IsLeast W (has gs)
    → fs ≡ gs
