-- What broken lines have in common, as it is said of a claim.
use Rattle.std.proofs.Common.{List, Option, Some, None}
use Rattle.std.specs.Prelude.{IfSome}
use Rattle.std.specs.List.{All}
use Rattle.mrc_wiring.specs.Claims.{Claimed}
use Rattle.mrc_why.specs.Broken.{BrokenLine, AreBroken, IsDerived}
use Rattle.mrc_mend.specs.declared.causes.Cause.{Cause}
use Rattle.mrc_mend.specs.Causes.{IsCauseOf, IsCause}

-- what the claim's broken lines have in common, by chains that derive what they forbid, is a cause
pub cause_of_claim : (claim : Claimed) (broken : List BrokenLine) → AreBroken claim broken
    → All (IsDerived claim) broken → (cause : Option Cause)
    → IfSome cause (IsCauseOf claim.table broken) → IfSome cause (IsCause claim)
cause_of_claim claim broken are chains None shares = tt
cause_of_claim claim broken are chains (Some cause) shares =
    record { broken = broken; are = are; chains = chains; shares = shares }
