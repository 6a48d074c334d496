use Rattle.std.proofs.Common.{◌≡◌, length, sym, ap, arith}
use Rattle.std.proofs.lemmas.Str.{IsCharBoundary-start}
use Rattle.mrc_mig_lex.proofs.LexingLaws.{left_is}
use Rattle.mrc_mig_tokens.proofs.FrontLemmas.{front_is, ends_within, ends_char}
use Rattle.mrc_mig_tokens.proofs.LexLemmas.{at_start, at_gap, at_part, all_cut}
use Rattle.mrc_mig_tokens.proofs.tokens.found_in.Goals as goal

pub loop-first-init : goal.loop-first-init
loop-first-init c =
    let none : length c.new.result.items ≡ 0 = ap length c.new.ensures.items in (
      omega arith,
      IsCharBoundary-start c.args.text.now c.utf8.text,
      rw (c.new.ensures.items, c.new-2.ensures.items) (at_start c.args.text.now),
      λ k d below. absurd (omega arith),
    )

-- a part ends within the text
pub overflow_add-end-in-Some : goal.overflow_add-end-in-Some
overflow_add-end-in-Some c =
    let left = left_is _ _ c.loop-first.at _ _ c.as_bytes-bytes.ensures.value
    c.in-Some.ensures.cases.0 in
    let is = front_is _ _ _ _ c.in_ok-front.front (sym c.in_ok-front.ensures) in
    let within = ends_within c.args.text.now c.loop-first.at _ _ c.in_ok-front.front
    c.loop-first.invariant.0 left is in
    omega (arith, within)

-- and between two characters
pub range-requires-clause-end_boundary : goal.range-requires-clause-end_boundary
range-requires-clause-end_boundary c =
    let left = left_is _ _ c.loop-first.at _ _ c.as_bytes-bytes.ensures.value
    c.in-Some.ensures.cases.0 in
    let is = front_is _ _ _ _ c.in_ok-front.front (sym c.in_ok-front.ensures) in
    ends_char c.args.text.now c.loop-first.at _ _ c.in_ok-front.front
    c.loop-first.invariant.0 left is c.utf8.text

pub loop-first-preserved-in_ok-push : goal.loop-first-preserved-in_ok-push
loop-first-preserved-in_ok-push c =
    let text = c.args.text.now in
    let left = left_is _ _ c.loop-first.at _ _ c.as_bytes-bytes.ensures.value
    c.in-Some.ensures.cases.0 in
    let found = sym c.in_ok-front.ensures in
    let is = front_is _ _ _ _ c.in_ok-front.front found in
    let within = ends_within text c.loop-first.at _ _ c.in_ok-front.front
    c.loop-first.invariant.0 left is in
    let ends = ends_char text c.loop-first.at _ _ c.in_ok-front.front
    c.loop-first.invariant.0 left is c.utf8.text in (
      within,
      ends,
      rw (c.in_ok-push.ensures.marks, c.in_ok-push.ensures.lines)
          (at_part c.loop-first.invariant.2 left c.in_ok-front.front c.in-Some-kind.kind
          c.part_by.result c.range.result.now found c.in-Some-kind.is is.within
          c.range.ensures.value c.part_by.ensures),
      rw c.in_ok-push.ensures.marks
          (all_cut text c.loop-first.found.marks.items c.part_by.result c.loop-first.at _
          c.loop-first.invariant.3 c.loop-first.invariant.1 ends (omega arith)),
    )

pub loop-first-preserved : goal.loop-first-preserved
loop-first-preserved c =
    let text = c.args.text.now in
    let left = left_is _ _ c.loop-first.at _ _ c.as_bytes-bytes.ensures.value
    c.in-Some.ensures.cases.0 in
    let found = sym c.in_ok-front.ensures in
    let is = front_is _ _ _ _ c.in_ok-front.front found in (
      ends_within text c.loop-first.at _ _ c.in_ok-front.front c.loop-first.invariant.0 left is,
      ends_char text c.loop-first.at _ _ c.in_ok-front.front c.loop-first.invariant.0 left is
          c.utf8.text,
      at_gap c.loop-first.invariant.2 left c.in_ok-front.front found c.in_default-kind.not-Some,
      c.loop-first.invariant.3,
    )
