use Rattle.std.proofs.Common.{◌≡◌, ◌<◌, ◌≤◌, sym, subst, refl, arith, true}
use Rattle.std.specs.Prelude.{◌&&◌}
use Rattle.mrc_base.specs.declared.Fact.{Fact}
use Rattle.mrc_base.specs.declared.PortRight.{PortRight}
use Rattle.mrc_bits.specs.Bits.{is_set}
use Rattle.mrc_rows.specs.Joining.{is_of}
use Rattle.mrc_rows.specs.declared.joining.Row.TheVariants.{Holds}
use Rattle.mrc_rows.specs.Rows.{is_within, place_of}
use Rattle.mrc_facts.specs.Sets.{has}
use Rattle.mrc_model.specs.Wiring.{classes}
use Rattle.mrc_wiring.specs.Table.{wiring_of}
use Rattle.mrc_dead.proofs.SlotSteps.{no_fills}
use Rattle.mrc_dead.proofs.slots.fills.Goals as goal

-- no class has both bits
pub returns-then-not-may_fill : goal.returns-then-not-may_fill
returns-then-not-may_fill c =
    let W = wiring_of c.args.wired.now in
    let set = has c.args.facts.now in
    let held = c.words-held.result.now in
    let low : c.args.task < 64 = omega (arith, c.from.ensures) in
    let few : classes W ≤ 1344 = omega (arith, c.classes-classes.ensures.exact) in
    sym (no_fills W set c.args.disp c.args.sort c.args.task held c.admitting.result.now low few
    (subst (λ (q : PortRight). (g : Fact) → is_of (Holds c.args.task q) g ≡ true
    → is_set held (place_of g) ≡ (is_within g && set g)) c.need.ensures c.words-held.ensures.shown)
    c.admitting.ensures.exact (c.if-not-may_fill.ensures.none refl))
