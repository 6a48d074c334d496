use Rattle.std.proofs.Common.{rules, arith, ℕ, ◌+◌, ◌≤◌, subst, inl, inr}
use Rattle.std.proofs.Math.Nat.{eq-or-lt_of_le}
use Rattle.mrc_mend.specs.Causes.{IsUsed}
use Rattle.mrc_mend.proofs.causes.have_no_idle.Goals as goal

-- one step more is used
pub loop-place-preserved : goal.loop-place-preserved
loop-place-preserved c n lt =
    let le : n + 1 ≤ c.loop-place.place = omega (arith, lt) in
    elim (eq-or-lt_of_le le) [
      | inl same ↦ subst (IsUsed c.args.steps.now) (omega (arith, same))
          (c.is_used.ensures (search rules))
      | inr before ↦ c.loop-place.invariant n before
    ]
