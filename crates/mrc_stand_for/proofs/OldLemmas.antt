-- Lines of one name in each list.
use Rattle.std.proofs.Common.{◌≡◌, false, [], ◌∷◌, refl, ap}
use Rattle.std.proofs.Math.Bool.{or-false}
use Rattle.mrc_wiring_text.specs.declared.wiring.HeldRight.TheVariants as held
use Rattle.mrc_wiring_text.specs.declared.wiring.WiringSays.TheVariants as core
use Rattle.mrc_stand_for.specs.declared.known.Known.{Known}
use Rattle.mrc_stand_for.specs.OldLaws.{BirthsOfOneTask, SendOfOneTask, OnceOfOneTask}
use Rattle.mrc_stand_for.specs.OldLaws.{KernelOfOneTask}
use Rattle.mrc_stand_for.specs.Standing.{closing, stands}

-- a line that names no list of all tasks closes none
same_known : (known : Known) → closing false known ≡ known
same_known known = ap (λ b. record known { closed = b }) (or-false known.closed)

pub births_of_one_task : BirthsOfOneTask
births_of_one_task = λ known n task kind accepts there.
    rw there (ap (λ k. stands k (core.Births task kind accepts ∷ [])) (same_known known))

pub send_of_one_task : SendOfOneTask
send_of_one_task = λ known n task port there known_too.
    rw (there, known_too)
    (ap (λ k. stands k (core.HoldPort task held.Send port ∷ [])) (same_known known))

pub once_of_one_task : OnceOfOneTask
once_of_one_task = λ known n task port there known_too.
    rw (there, known_too)
    (ap (λ k. stands k (core.HoldPort task held.SendOnce port ∷ [])) (same_known known))

pub kernel_of_one_task : KernelOfOneTask
kernel_of_one_task = λ known n task other there known_too.
    rw (there, known_too)
    (ap (λ k. stands k (core.HoldTask task other ∷ [])) (same_known known))
