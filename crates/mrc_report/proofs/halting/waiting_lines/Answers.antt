use Rattle.std.proofs.Common.{◌≡◌, ◌∙◌, ◌++◌, ap, drop, length, subst, sym, take}
use Rattle.std.proofs.Math.Seq.{take-append_seam}
use Rattle.std.proofs.lemmas.List.Sorted.{IsNonDecreasingBy-from_sort}
use Rattle.std.specs.List.Sorted.{IsNonDecreasing}
use Rattle.mrc_report.proofs.halting.waiting_lines.Goals as goal

pub returns-clause-ascending : goal.returns-clause-ascending
returns-clause-ascending c =
    let lines = c.in-Some.lines in
    let sorted = c.sort_unstable.new.self in
    let rest = drop (length sorted) lines.items in
    let many : lines.len ≡ length sorted =
    sym (c.sort_unstable.ensures.len ∙ c.as_mut_slice.ensures.len) in
    let same : take lines.len (sorted ++ rest) ≡ sorted =
    ap (λ n. take n (sorted ++ rest)) many ∙ take-append_seam sorted rest in
    subst IsNonDecreasing (sym same)
    (IsNonDecreasingBy-from_sort (λ line. line) sorted c.sort_unstable.ensures.sorted)
