-- What is noted of the seats that wait stays right while machine and journal stay the same.
use Rattle.std.proofs.Common.{◌≡◌, ℕ, zero, suc, List, refl, sym, subst, arith}
use Rattle.std.proofs.Math.ListN.{replicate}
use Rattle.mrc_live.specs.declared.office.Idle.{Idle}
use Rattle.mrc_live.specs.declared.office.Idle.TheVariants.{No, Waits, Left}
use Rattle.mrc_live.specs.Desks.{AreAlike, DeskState}
use Rattle.mrc_live.specs.Waits.{AreNoted, IsBelow, IsInVain, noted}

in_vain : (d e : DeskState) (i : Idle) → AreAlike d e → IsInVain d i → IsInVain e i
in_vain d e No alike vain = tt
in_vain d e (Waits task name limit) alike vain =
    rw (alike.confined, alike.world, alike.events, alike.limit) vain
in_vain d e Left alike vain = tt

pub noted_alike : (d e : DeskState) (idle : List Idle) (bound : ℕ) → AreAlike d e
    → AreNoted d idle bound → AreNoted e idle bound
noted_alike d e idle bound alike is = record {
  few = is.few;
  below = is.below;
  vain = λ number. in_vain d e (noted idle number) alike (is.vain number);
}

-- nothing is noted at first
none_waits : (n number : ℕ) → noted (replicate n No) number ≡ No
none_waits zero number = refl
none_waits (suc n) zero = refl
none_waits (suc n) (suc number) = none_waits n number

pub none_noted : (d : DeskState) (n : ℕ) → AreNoted d (replicate n No) 0
none_noted d n = record {
  few = omega arith;
  below = λ number. subst (IsBelow 0 number) (sym (none_waits n number)) tt;
  vain = λ number. subst (IsInVain d) (sym (none_waits n number)) tt;
}
