use Rattle.std.proofs.Common.{rules, sym, subst}
use Rattle.mrc_map.specs.Members.{above, IsFirst}
use Rattle.mrc_map.proofs.MemberLaws.{range_first, range_none, head_member}
use Rattle.mrc_map.proofs.ports.number_after.Goals as goal

pub returns-in_err-found : goal.returns-in_err-found
returns-in_err-found c =
    subst (IsFirst c.args.numbers.now.keys (above c.args.last)) (sym c.from_residual.ensures)
    (range_none c.args.numbers.now.keys c.args.last c.start_after.result c.range.result
    c.start_after.ensures (c.range.ensures.in_range tt).5 c.in_err-found.ensures.steps.0)

pub returns : goal.returns
returns c =
    let h = c.range.ensures.in_range tt in
    let k = c.in_ok-found.found.now in
    let first = head_member _ _ _ k c.in_ok-found.ensures.steps h.1 in
    range_first c.args.numbers.now.keys c.args.last c.start_after.result k c.start_after.ensures
    first.0.0 first.1
    (λ q i t. head_member _ _ _ k c.in_ok-found.ensures.steps (h.2 q i t)) (search rules)
