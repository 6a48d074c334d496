-- Law. What the filter's answers mean to the machine. This profile's own choice.
use Rattle.std.specs.Prelude.{◌≡◌, ℕ, List, Some}
use Rattle.std.specs.Result.{result_map_both}
use Rattle.mrc_base.specs.declared.PortRight.{PortRight}
use Rattle.mrc_model.specs.declared.Item.TheVariants.{Right}
use Rattle.mrc_model.specs.Map.{get}
use Rattle.mrc_model.specs.declared.Denied.TheVariants.{NotSent}
use Rattle.mrc_model.specs.declared.Verb.TheVariants.{Sends}
use Rattle.mrc_model.specs.Reply.{DeniedBy, ◌>>◌, check}
use Rattle.mrc_model.specs.CallSend.{admit_item}
use Rattle.mrc_model.specs.World.{Port, Store}
use Rattle.mrc_model.specs.Wiring.{Wiring, Shape, may}
use Rattle.mrc_wiring.specs.Finding.{sort_at}
use Rattle.mrc_filter.specs.Places.{admitted}

-- A message carries a right on a live port in argument i. Sending it goes on if and only if the
-- port's class is admitted there and a sender of class `own` may send the right. Otherwise it
-- answers the refusal; the filter's comes first.
abbrev pub AdmittingIsSending : Type 0
AdmittingIsSending =
    (W : Wiring) (own : ℕ) (s : Store) (shapes : List Shape) (i p : ℕ) (r : PortRight) (x : Port)
    → get s.ports p ≡ Some x
    → admit_item W own s (sort_at shapes i) i (Right p r)
    ≡ (result_map_both (λ done. done) DeniedBy (admitted W shapes i x.class)
    >> check (may W Sends own r x.class) (DeniedBy (NotSent i)))
