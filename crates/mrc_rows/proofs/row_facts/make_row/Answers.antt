use Rattle.std.proofs.Common.{◌≡◌, ℕ, List, ◌-◌, ◌≤◌, ◌<◌, ◌++◌, ◌∙◌, length, replicate, ap, sym}
use Rattle.std.proofs.Common.{subst, arith}
use Rattle.mrc_rows.specs.Rows.{words_of, SameBits}
use Rattle.mrc_rows.proofs.Rows.{same_pushed, same_lengthened, lengthened_to, words_at}
use Rattle.mrc_rows.proofs.row_facts.make_row.Goals as goal

pub loop-rows-preserved : goal.loop-rows-preserved
loop-rows-preserved c =
    let rows = c.loop-rows.rows in
    subst (SameBits c.args.rows.now.items) (sym c.in_ok-push.ensures.items)
    (same_pushed c.args.rows.now.items rows.items c.new.result c.loop-rows.invariant
    c.new.ensures.items
    (omega (arith, c.len.ensures, c.loop-rows-test.true, c.requires.row, rows.ok.0)))

row_there : (c : goal.After-drop-index_mut) → c.args.row < length c.loop-rows.rows.items
row_there c = omega (arith, c.len.ensures, c.loop-rows-test.false, c.loop-rows.rows.ok.0)

-- it was shorter
shorter : (c : goal.After-drop-index_mut)
    → length (words_of c.loop-rows.rows.items c.args.row) ≤ c.args.count
shorter c =
    let e = ap length (words_at c.loop-rows.rows.items c.args.row c.index.result.now (row_there c)
    c.index.ensures) in
    omega (arith, e, c.index.result.now.ok.0, c.len-2.ensures, c.if-len-count.true)

-- and has zeros behind its words now
lengthened : (c : goal.After-drop-index_mut) → c.in_ok-rows.field-0.items
    ≡ words_of c.loop-rows.rows.items c.args.row
    ++ replicate (c.args.count - length (words_of c.loop-rows.rows.items c.args.row)) 0
lengthened c =
    let words = words_at c.loop-rows.rows.items c.args.row c.index-then-len-count.result.now
    (row_there c) c.index-then-len-count.ensures in
    c.in_ok-rows.ensures
    ∙ ap (λ (ws : List ℕ). ws ++ replicate (c.args.count - length ws) 0)
    (c.as_slice.ensures.value ∙ sym words)

pub returns-in_ok-rows-clause-same : goal.returns-in_ok-rows-clause-same
returns-in_ok-rows-clause-same c =
    same_lengthened c.args.rows.now.items c.loop-rows.rows.items c.args.row c.args.count
    c.in_ok-rows.field-0 c.loop-rows.invariant (row_there c) (shorter c) c.requires.count
    (lengthened c)

pub returns-in_ok-rows-clause-made : goal.returns-in_ok-rows-clause-made
returns-in_ok-rows-clause-made c =
    let e = lengthened_to c.loop-rows.rows.items c.args.row c.args.count c.in_ok-rows.field-0
    (row_there c) (shorter c) (lengthened c) in
    omega (arith, e)

pub returns-else-len-count-clause-made : goal.returns-else-len-count-clause-made
returns-else-len-count-clause-made c =
    let rows = c.loop-rows.rows in
    let below : c.args.row < length rows.items =
    omega (arith, c.len.ensures, c.loop-rows-test.false, rows.ok.0) in
    let e = ap length (words_at rows.items c.args.row c.index.result.now below c.index.ensures) in
    omega (arith, e, c.index.result.now.ok.0, c.len-2.ensures, c.if-len-count.false)
