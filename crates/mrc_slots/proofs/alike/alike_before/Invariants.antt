use Rattle.std.proofs.Common.{◌≡◌, ◌<◌, ℕ}
use Rattle.mrc_wiring.specs.Table.{wiring_of}
use Rattle.mrc_model.specs.Wiring.{label}
use Rattle.mrc_slots.proofs.alike.alike_before.Given as goal

-- no class up to here accepts the same
abbrev pub invariant-loop-earlier : goal.invariant-loop-earlier
invariant-loop-earlier l =
    (d : ℕ) → d < l.earlier → label (wiring_of l.wired) d ≡ label (wiring_of l.wired) l.class → ⊥
