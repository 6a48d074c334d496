-- Law. What version 3 of wirings adds to the machine and to the rules: lines about trusted tasks,
-- and reply ports that have to fit. Both refuse calls and drop instances of rules; they do nothing
-- else. This profile's own choice.
use Rattle.std.specs.Prelude.{◌≡◌, ◌⊎◌, ℕ, Bool, true, false, List, []}
use Rattle.mrc_base.specs.declared.Fact.{Fact}
use Rattle.mrc_model.specs.declared.Denied.TheVariants.{ReplySlot, NotTaken, NotGiven, NotSent}
use Rattle.mrc_model.specs.declared.Denied.TheVariants.{NotForReply}
use Rattle.mrc_model.specs.declared.Verb.TheVariants.{Takes}
use Rattle.mrc_model.specs.Wiring.{Wiring, is_limited}
use Rattle.mrc_model.specs.World.{World, task_class}
use Rattle.mrc_model.specs.Reply.{Reply, Call, DeniedBy}
use Rattle.mrc_model.specs.Step.{step}
use Rattle.mrc_model.specs.Breach.{Counts, Forbid}
use Rattle.mrc_model.specs.Rules.{SaysYes}

-- the wiring without what version 3 adds
abbrev pub plain : Wiring → Wiring
plain W = record W { trusted = []; replies_fit = false }

-- the reply is a refusal that version 3 adds
pub data IsTurnedAway : Reply → Type 0 where
  not_fitting : IsTurnedAway (DeniedBy ReplySlot)
  not_taken : IsTurnedAway (DeniedBy NotTaken)
  not_given : IsTurnedAway (DeniedBy NotGiven)
  not_sent : (i : ℕ) → IsTurnedAway (DeniedBy (NotSent i))
  not_for_reply : IsTurnedAway (DeniedBy NotForReply)

-- each call is refused by what version 3 adds and changes nothing, or its answer and the world
-- after it are those of the plain wiring
abbrev pub AdditionsOnlyRefuse : Type 0
AdditionsOnlyRefuse =
    (W : Wiring) (w : World) (t : ℕ) (call : Call)
    → (((step W w t call).0 ≡ w) × IsTurnedAway (step W w t call).1)
    ⊎ (step W w t call ≡ step (plain W) w t call)

-- what the checker accepts of a policy for the plain wiring, it accepts for the wiring; whether a
-- task could rewrite a trusted one is not asked
abbrev pub AdditionsKeepYes : Type 0
AdditionsKeepYes =
    (W : Wiring) (policy : List Forbid) (set : Fact → Bool)
    → SaysYes (plain W) policy set → SaysYes W policy set

-- a task whose takings a line limits counts as itself alone
abbrev pub LimitedCountsAlone : Type 0
LimitedCountsAlone =
    (W : Wiring) (w : World) (t u : ℕ) → is_limited W Takes (task_class w t) ≡ true
    → Counts W w t u → u ≡ t
