use Rattle.std.proofs.Common.{◌∙◌, ap, arith}
use Rattle.std.specs.Prelude.{◌||◌, ◌&&◌, ◌==◌}
use Rattle.mrc_bits.specs.Bits.{is_set}
use Rattle.mrc_wiring.specs.Table.{wiring_of}
use Rattle.mrc_model.specs.Wiring.{classes, accepts_replier}
use Rattle.mrc_slots.proofs.Marked.{none_marked, one_marked, all_marked, zeros_long}
use Rattle.mrc_slots.proofs.repliers.replier_row.Goals as goal

pub loop-class-init : goal.loop-class-init
loop-class-init c =
    record {
      wide = zeros_long _ c.in_ok-row.row.items c.in_ok-row.ensures;
      bits = none_marked (accepts_replier (wiring_of c.args.wired.now) c.args.to) _
          c.in_ok-row.row.items c.in_ok-row.ensures;
    }

pub loop-class-preserved : goal.loop-class-preserved
loop-class-preserved c =
    let row = c.loop-class.row.items in
    let class = c.loop-class.class in
    record {
      wide = omega (
        arith,
        c.mark.ensures.len,
        c.loop-class.invariant.wide,
        c.loop-class.row.ok.0,
        c.mark.new.row.ok.0,
      );
      bits = one_marked (accepts_replier (wiring_of c.args.wired.now) c.args.to) class row _
          c.loop-class.invariant.bits (λ p. c.mark.ensures.bits p
          ∙ ap (λ b. (p == class && b) || is_set row p) c.accepts_replier-test.ensures);
    }

pub returns : goal.returns
returns c =
    let W = wiring_of c.args.wired.now in
    all_marked (accepts_replier W c.args.to) c.loop-class.class _ (classes W) c.loop-class.row.items
    c.loop-class.invariant.wide (omega arith) (omega arith) (omega arith)
    c.loop-class.invariant.bits
