use Rattle.std.proofs.Common.{◌≡◌, ℕ, drop}
use Rattle.std.specs.Prelude.{◌||◌}
use Rattle.std.specs.List.{list_any}
use Rattle.mrc_bits.specs.Bits.{is_set}
use Rattle.mrc_wiring.specs.Table.{wiring_of}
use Rattle.mrc_wiring.specs.Slots.{is_taker}
use Rattle.mrc_wiring.proofs.wired.Wired.join_forms.Given as goal

-- those of the forms so far are there
abbrev pub invariant-loop-form : goal.invariant-loop-form
invariant-loop-form l = (c : ℕ) →
    (is_set l.fn.row c || list_any (is_taker (wiring_of l.self) l.disp c) l.forms)
    ≡ (is_set l.row c || list_any (is_taker (wiring_of l.self) l.disp c)
    (drop l.form-index l.forms))
