-- The words so far, and those of what is left.
use Rattle.std.proofs.Common.{◌≡◌, ◌≤◌, ◌-◌, map, ◌++◌, length, drop}
use Rattle.mrc_wide_policy.specs.Quotes.{by_turns}
use Rattle.mrc_wide_policy.proofs.quotes.by_turns.Given as goal

abbrev pub invariant-loop-place : goal.invariant-loop-place
invariant-loop-place l = record {
  same : map (λ word. word.items) l.said.items
      ++ by_turns (drop l.place (map (λ part. part.now) l.parts))
      ≡ by_turns (map (λ part. part.now) l.parts);
  within : l.place ≤ length l.parts;
}

abbrev pub decreases-loop-place : goal.decreases-loop-place
decreases-loop-place l = length l.parts - l.place
