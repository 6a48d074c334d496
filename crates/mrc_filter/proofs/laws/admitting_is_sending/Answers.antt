use Rattle.std.proofs.Common.{◌≡◌, Bool, true, false, Ok, Err, refl, ap, ◌∙◌}
use Rattle.std.specs.Prelude.{if◌then◌else◌}
use Rattle.std.specs.Result.{result_map_both}
use Rattle.mrc_model.specs.declared.Code.TheVariants.{MachSendInvalidRight}
use Rattle.mrc_model.specs.declared.Denied.{Denied}
use Rattle.mrc_model.specs.declared.Denied.TheVariants.{NotAdmitted, NotSent}
use Rattle.mrc_model.specs.declared.Verb.TheVariants.{Sends}
use Rattle.mrc_model.specs.Reply.{Refused, DeniedBy, ◌>>=◌, ◌>>◌, check, or_refuse}
use Rattle.mrc_model.specs.Wiring.{admits, may}
use Rattle.mrc_model.specs.World.{Port}
use Rattle.mrc_wiring.specs.Finding.{sort_at}
use Rattle.mrc_filter.proofs.laws.admitting_is_sending.Goals as goal

by_test : (b : Bool) (d : Denied)
    → check b (DeniedBy d) ≡ result_map_both (λ done. done) DeniedBy (if b then Ok tt else Err d)
unfolding check
by_test true d = refl
by_test false d = refl

pub returns : goal.returns
unfolding ◌>>=◌ or_refuse
returns c = record {
  sending = λ W own s shapes i p r x e.
      ap (λ o. or_refuse o (Refused MachSendInvalidRight)
      >>= λ (x : Port). (check (admits W (sort_at shapes i) x.class) (DeniedBy (NotAdmitted i))
      >> check (may W Sends own r x.class) (DeniedBy (NotSent i)))) e
      ∙ ap (λ t. t >> check (may W Sends own r x.class) (DeniedBy (NotSent i)))
      (by_test (admits W (sort_at shapes i) x.class) (NotAdmitted i));
}
