use Rattle.std.proofs.Common.{sym, subst, ◌∙◌, arith, ◌+◌}
use Rattle.mrc_wiring.specs.Table.{wiring_of}
use Rattle.mrc_model.specs.Wiring.{classes}
use Rattle.mrc_facts.specs.Sets.{has}
use Rattle.mrc_classes.specs.Marking.{Marked, is_marked}
use Rattle.mrc_classes.proofs.Marking.{ByFirst, none_yet, one_more, none_more, all_sources}
use Rattle.mrc_classes.specs.declared.marks.Marks.{Marks}
use Rattle.mrc_classes.proofs.rules.row_of.Goals as goal
use Rattle.mrc_classes.proofs.rules.row_of.Goals.{then-leads, else-leads}

pub loop-source-init : goal.loop-source-init
loop-source-init c =
    none_yet (wiring_of c.args.rules.now) (has c.args.first.now) (has c.args.last.now) c.args.rule
    c.args.row (classes (wiring_of c.args.rules.now)) (is_marked c.args.out.now)

pub loop-source-preserved : goal.loop-source-preserved
loop-source-preserved c =
    let W = wiring_of c.args.rules.now in
    let S = has c.args.first.now in
    let T = has c.args.last.now in
    let more = λ (m : Marks). Marked (classes W) (is_marked c.args.out.now) (is_marked m)
    (ByFirst W S T c.args.rule c.args.row (c.loop-source.source + 1)) in
    elim c.if-leads.branch [
      | then-leads w ↦ subst more (sym w.out-is)
          (one_more W S T c.args.rule c.args.row (classes W) c.loop-source.source
          (is_marked c.args.out.now) (is_marked c.loop-source.out)
          (is_marked w.add_source.new.out) c.loop-source.invariant
          (sym c.leads.ensures ∙ w.if-leads.true) w.add_source.ensures)
      | else-leads w ↦ subst more (sym w.out-is)
          (none_more W S T c.args.rule c.args.row (classes W) c.loop-source.source
          (is_marked c.args.out.now) (is_marked c.loop-source.out) c.loop-source.invariant
          (sym c.leads.ensures ∙ w.if-leads.false))
    ]

pub returns : goal.returns
returns c =
    let W = wiring_of c.args.rules.now in
    all_sources W (has c.args.first.now) (has c.args.last.now) c.args.rule c.args.row (classes W)
    c.loop-source.source (is_marked c.args.out.now) (is_marked c.loop-source.out)
    (let e = rw c.wired.ensures at c.sources-source-end.ensures in omega arith)
    c.loop-source.invariant
