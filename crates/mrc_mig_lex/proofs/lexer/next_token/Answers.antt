use Rattle.std.proofs.Common.{sym, arith}
use Rattle.mrc_mig_lex.proofs.LexingLaws.{left_is, within_text, begins_with, at_gap, begins_char}
use Rattle.mrc_mig_lex.proofs.LexingLaws.{ends_char}
use Rattle.mrc_mig_lex.proofs.lexer.next_token.Goals as goal

-- a piece ends within the text
pub overflow_add-end-in-Some : goal.overflow_add-end-in-Some
overflow_add-end-in-Some c =
    let left = left_is _ _ c.loop-first.place _ _ c.as_bytes-bytes.ensures.value
    c.in-Some.ensures.cases.0 in
    let within = within_text c.loop-first.invariant.0 left _ (sym c.in_ok-piece.ensures) in
    omega (arith, within)

-- a token begins and ends between two characters
pub range-requires-clause-start_boundary : goal.range-requires-clause-start_boundary
range-requires-clause-start_boundary c _ =
    let left = left_is _ _ c.loop-first.place _ _ c.as_bytes-bytes.ensures.value
    c.in-Some.ensures.cases.0 in
    begins_char c.loop-first.invariant.0 left _ (sym c.in_ok-piece.ensures)
    (λ none. let some = c.in-Some-kind.is in cc)

pub range-requires-clause-end_boundary : goal.range-requires-clause-end_boundary
range-requires-clause-end_boundary c =
    let left = left_is _ _ c.loop-first.place _ _ c.as_bytes-bytes.ensures.value
    c.in-Some.ensures.cases.0 in
    ends_char c.loop-first.invariant.0 left _ c.utf8.text (sym c.in_ok-piece.ensures)
    (λ none. let some = c.in-Some-kind.is in cc)

-- a token is found
pub returns-in-Some-kind-clause-exact : goal.returns-in-Some-kind-clause-exact
returns-in-Some-kind-clause-exact c =
    let left = left_is _ _ c.loop-first.place _ _ c.as_bytes-bytes.ensures.value
    c.in-Some.ensures.cases.0 in
    rw c.new.ensures (begins_with c.loop-first.invariant.0 left _ _ _ (sym c.in_ok-piece.ensures)
    c.in-Some-kind.is c.range.ensures.value)

-- a blank or a comment is passed over
pub loop-first-preserved : goal.loop-first-preserved
loop-first-preserved c =
    let left = left_is _ _ c.loop-first.place _ _ c.as_bytes-bytes.ensures.value
    c.in-Some.ensures.cases.0 in
    let on = at_gap c.loop-first.invariant.0 left _ (sym c.in_ok-piece.ensures)
    c.in_default-kind.not-Some in
    (on, omega arith)
