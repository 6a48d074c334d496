use Rattle.std.proofs.Common.{◌≡◌, ℕ, drop}
use Rattle.std.specs.Prelude.{◌||◌}
use Rattle.std.specs.List.{list_any}
use Rattle.mrc_bits.specs.Bits.{is_set}
use Rattle.mrc_model.specs.Wiring.{form_shapes}
use Rattle.mrc_wiring.specs.Table.{wiring_of}
use Rattle.mrc_wiring.specs.Slots.{shape_takes}
use Rattle.mrc_wiring.proofs.wired.Wired.join_form.Given as goal

-- those of the arguments so far are there
abbrev pub invariant-loop-argument : goal.invariant-loop-argument
invariant-loop-argument l = (c : ℕ) →
    (is_set l.fn.row c
    || list_any (shape_takes (wiring_of l.self) l.disp c) (form_shapes l.form))
    ≡ (is_set l.row c || list_any (shape_takes (wiring_of l.self) l.disp c)
    (drop l.argument-index l.argument-items))
