use Rattle.std.proofs.Common.{◌+◌, ◌||◌, ap, sym, ◌∙◌, arith, length-drop, drop}
use Rattle.mrc_wiring.specs.Resolving.{has_twice}
use Rattle.mrc_wiring.proofs.Steps.{twice_turn}
use Rattle.mrc_wiring.proofs.resolving.has_twice.Goals as goal

-- one of the others has the name
pub returns-then-is_one_named : goal.returns-then-is_one_named
returns-then-is_one_named c =
    let xs = c.args.interfaces.now in
    let i = c.loop-number.number in
    let less = c.loop-number-test.true in
    let turn = twice_turn xs i _ c.index-interfaces-number.result c.name.result.now
    c.is_one_named.result less c.index-interfaces-number.is c.name.ensures
    c.is_one_named.ensures (omega (arith, length-drop (i + 1) xs)) in
    sym (c.loop-number.invariant ∙ turn ∙ ap (λ b. b || has_twice (drop (i + 1) xs))
    c.if-is_one_named.true)

-- none of them has
pub loop-number-preserved : goal.loop-number-preserved
loop-number-preserved c =
    let xs = c.args.interfaces.now in
    let i = c.loop-number.number in
    let less = c.loop-number-test.true in
    let turn = twice_turn xs i _ c.index-interfaces-number.result c.name.result.now
    c.is_one_named.result less c.index-interfaces-number.is c.name.ensures
    c.is_one_named.ensures (omega (arith, length-drop (i + 1) xs)) in
    c.loop-number.invariant ∙ turn ∙ ap (λ b. b || has_twice (drop (i + 1) xs))
    c.if-is_one_named.false
