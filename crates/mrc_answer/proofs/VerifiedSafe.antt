-- What is read of texts is what they mean, so that the laws of a yes and of a no apply to it.
use Rattle.std.proofs.Common.{◌≡◌, Bool, true, false, Ok, List, refl, subst}
use Rattle.std.specs.Prelude.{filter}
use Rattle.std.proofs.lemmas.Bool.{false≢true}
use Rattle.mrc_base.specs.declared.Fact.{Fact}
use Rattle.mrc_facts.specs.Sets.{has}
use Rattle.mrc_model.specs.IsIn.{IsIn}
use Rattle.mrc_model.proofs.Members.{in_filter}
use Rattle.mrc_wiring.specs.Claims.{holding_of}
use Rattle.mrc_check.specs.declared.demands.Demand.{Demand}
use Rattle.mrc_check.specs.Texts.{Stated}
use Rattle.mrc_check.proofs.TextLaws.{claim_meant}
use Rattle.mrc_wide_policy.specs.declared.asked.Stance.{Stance}
use Rattle.mrc_wide_policy.specs.declared.asked.Stance.TheVariants.{Forbidden, Waived as Waives}
use Rattle.mrc_wide_policy.specs.declared.asked.Stance.TheVariants.{Expected}
use Rattle.mrc_confine.proofs.Meaning.{no_has_no_yes}
use Rattle.mrc_confine.proofs.Safe.{lacked_never, verified_safe}
use Rattle.mrc_why.specs.Answered.{expects, is_expected, is_told, is_told_by}
use Rattle.mrc_why.specs.Broken.{HasYes, HasNoYes, forbidden_fact}
use Rattle.mrc_answer.specs.Files.{Texts, asked_policy}
use Rattle.mrc_answer.specs.Texts.{stated}
use Rattle.mrc_answer.specs.VerifiedLaws.{AllowedIsSafe, WaivedIsSafe, BrokenHasNoYes, AreSafe}
use Rattle.mrc_answer.specs.VerifiedLaws.{HaveNoYes, UnmetIsNeverHeld}
use Rattle.mrc_answer.specs.VerifiedLaws.{UnattackedIsSafe, AttackedHasNoYes}

-- texts whose claim has a yes are safe
safe_texts : (texts : Texts) (meant : Stated)
    → stated texts ≡ Ok meant
    → HasYes meant.claim
    → AreSafe texts
safe_texts texts meant says found =
    let mean = claim_meant texts.defs texts.wiring (asked_policy texts) meant says in
    record {
      claim = meant.claim;
      mean = mean;
      set = has found.0;
      safe = verified_safe texts.defs texts.wiring (asked_policy texts) meant.claim (has found.0)
          mean (record { least = found.1.least; says = found.1.says });
    }

-- and no certificate is accepted for those whose claim has none
no_texts : (texts : Texts) (meant : Stated)
    → stated texts ≡ Ok meant
    → HasNoYes meant.claim
    → HaveNoYes texts
no_texts texts meant says none =
    no_has_no_yes texts.defs texts.wiring (asked_policy texts) meant.claim
    (claim_meant texts.defs texts.wiring (asked_policy texts) meant says) none

pub allowed_safe : AllowedIsSafe
allowed_safe line files notices allowed =
    safe_texts files.texts allowed.meant allowed.says allowed.yes

pub waived_safe : WaivedIsSafe
waived_safe line files notices b waived =
    safe_texts files.texts b.stated waived.says waived.yes

pub broken_no : BrokenHasNoYes
broken_no line files notices b broken not_yes =
    no_texts files.texts b.stated broken.says (broken.no not_yes)

-- what is expected and told is not there
lacks : (stance : Stance) (there : Bool)
    → expects stance ≡ true
    → is_told_by stance there ≡ true
    → there ≡ false
lacks Forbidden there expected told = absurd (false≢true expected)
lacks (Waives n) there expected told = absurd (false≢true expected)
lacks Expected true expected told = absurd (false≢true told)
lacks Expected false expected told = refl

pub unmet_never : UnmetIsNeverHeld
unmet_never line files notices b demand events w broken among expected run breach =
    let set = has b.verdict.facts in
    let own : IsIn demand (filter (is_told set) b.stated.demands) =
    subst (λ (ds : List Demand). IsIn demand ds) (broken.are_told set broken.least) among in
    let told = (in_filter (is_told set) demand b.stated.demands own).1 in
    lacked_never files.texts.defs files.texts.wiring (asked_policy files.texts) b.stated.claim set
    (holding_of demand.holding) events w
    (claim_meant files.texts.defs files.texts.wiring (asked_policy files.texts) b.stated broken.says)
    broken.least.closed
    (lacks demand.stance (set (forbidden_fact demand.holding)) expected told) run breach

pub unattacked_safe : UnattackedIsSafe
unattacked_safe line files notices none =
    safe_texts files.texts none.1.meant none.1.says none.1.yes

pub attacked_no : AttackedHasNoYes
attacked_no line files notices a attacks = no_texts files.texts a.stated attacks.says attacks.no
