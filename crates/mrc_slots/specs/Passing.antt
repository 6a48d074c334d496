-- Step. Which rights a class takes, of what a task that can send to it holds, and as which rights
-- they come there. This profile's own choice.
use Rattle.std.specs.Prelude.{ℕ, Bool, ◌&&◌, ◌||◌, nat_lt}
use Rattle.mrc_base.specs.declared.PortRight.{PortRight}
use Rattle.mrc_base.specs.declared.Disp.{Disp}
use Rattle.mrc_base.specs.declared.Disp.TheVariants.{MoveReceive, MoveSend, MoveSendOnce, CopySend}
use Rattle.mrc_base.specs.declared.Disp.TheVariants.{MakeSend, MakeSendOnce}
use Rattle.mrc_base.specs.Disposition.{needed, given}
use Rattle.mrc_model.specs.Rights.{same_right}
use Rattle.mrc_model.specs.Wiring.{Wiring, classes, accepts_replier}
use Rattle.mrc_wiring.specs.Slots.{takes}

-- a slot of the disposition takes a right `held` on class c to class d, as the right `give`
abbrev pub passes_by : Wiring → ℕ → ℕ → PortRight → PortRight → Disp → Bool
passes_by W d c held give x =
    same_right (needed x) held && (same_right (given x) give && takes W d x c)

-- class d takes a right `held` on class c by a slot: there it is `give`
abbrev pub passes : Wiring → ℕ → ℕ → PortRight → PortRight → Bool
passes W d c held give =
    passes_by W d c held give MoveReceive || (passes_by W d c held give MoveSend
    || (passes_by W d c held give MoveSendOnce || (passes_by W d c held give CopySend
    || (passes_by W d c held give MakeSend || passes_by W d c held give MakeSendOnce))))

-- and both are classes of the wiring
abbrev pub is_passed : Wiring → ℕ → ℕ → PortRight → PortRight → Bool
is_passed W d c held give =
    nat_lt d (classes W) && (nat_lt c (classes W) && passes W d c held give)

-- a reply right on a port of class c can come with a request to class d, and both are classes of
-- the wiring
abbrev pub is_replier : Wiring → ℕ → ℕ → Bool
is_replier W d c = nat_lt d (classes W) && (nat_lt c (classes W) && accepts_replier W d c)
