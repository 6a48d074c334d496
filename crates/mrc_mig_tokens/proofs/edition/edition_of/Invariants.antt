use Rattle.std.proofs.Common.{◌≡◌, ◌≤◌, ◌-◌, length, drop}
use Rattle.mrc_mig_tokens.specs.Editions.{edition_from, edition_of}
use Rattle.mrc_mig_tokens.proofs.edition.edition_of.Given as goal

abbrev pub invariant-loop-first : goal.invariant-loop-first
invariant-loop-first l =
    (l.at ≤ length l.text)
    × (edition_from 0 l.fresh l.at l.edition (drop l.at l.text) ≡ edition_of l.text)

abbrev pub decreases-loop-first : goal.decreases-loop-first
decreases-loop-first l = length l.text - l.at
