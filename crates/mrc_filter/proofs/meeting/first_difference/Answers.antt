use Rattle.std.proofs.Common.{◌≡◌, length, Some, None, ap, sym, ◌∙◌, arith}
use Rattle.std.proofs.lemmas.Bool.{ltb-true, ltb-false}
use Rattle.mrc_filter.proofs.Shapes.{differs_from, place_turn, extra, missing, all_met}
use Rattle.mrc_filter.proofs.meeting.first_difference.Goals as goal

-- an argument that the form does not have
pub returns-in_default : goal.returns-in_default
returns-in_default c =
    extra c.loop-i.i c.args.shapes.now c.args.args.now c.index-args-i.result _
    c.loop-i-test.true c.index-args-i.is
    (ltb-false c.loop-i.i (length c.args.shapes.now) (sym c.in_default.ensures.lookup.0))
    c.loop-i.invariant

-- the first that differs
pub returns-in-Some-difference : goal.returns-in-Some-difference
returns-in-Some-difference c =
    let shapes = c.args.shapes.now in
    let args = c.args.args.now in
    let i = c.loop-i.i in
    sym (place_turn i shapes args c.in-Some.says.now c.index-args-i.result
    (Some c.in-Some-difference.denied) _ c.loop-i-test.true c.index-args-i.is
    (ltb-true i (length shapes) (sym c.in-Some.ensures.lookup.0)) c.in-Some.ensures.lookup.1
    c.in-Some-difference.ensures
    c.loop-i.invariant)

pub loop-i-preserved : goal.loop-i-preserved
loop-i-preserved c =
    let shapes = c.args.shapes.now in
    let args = c.args.args.now in
    let i = c.loop-i.i in
    place_turn i shapes args c.in-Some.says.now c.index-args-i.result
    None _ c.loop-i-test.true c.index-args-i.is
    (ltb-true i (length shapes) (sym c.in-Some.ensures.lookup.0)) c.in-Some.ensures.lookup.1
    c.in_default-difference.ensures
    c.loop-i.invariant

-- an argument that is missing
pub returns-then-args-shapes : goal.returns-then-args-shapes
returns-then-args-shapes c =
    let shapes = c.args.shapes.now in
    let args = c.args.args.now in
    let same : c.loop-i.i ≡ length args = omega arith in
    missing (length args) shapes args _ (omega arith) c.if-args-shapes.true
    (c.loop-i.invariant ∙ ap (λ n. differs_from n shapes args) same)

pub returns-else-args-shapes : goal.returns-else-args-shapes
returns-else-args-shapes c =
    let shapes = c.args.shapes.now in
    let args = c.args.args.now in
    let same : c.loop-i.i ≡ length args = omega arith in
    all_met (length args) shapes args _ (omega arith) c.if-args-shapes.false
    (c.loop-i.invariant ∙ ap (λ n. differs_from n shapes args) same)
