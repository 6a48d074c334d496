use Rattle.std.proofs.Common.{◌≡◌, ℕ, ◌-◌, length, suc}
use Rattle.mrc_wiring.specs.Marks.{words_at}
use Rattle.mrc_wiring.proofs.marks.reach.Given as goal

-- each row has the words that it had
abbrev pub invariant-loop-alloc : goal.invariant-loop-alloc
invariant-loop-alloc l = (k : ℕ) → words_at l.rows.items k ≡ words_at l.fn.rows.items k

abbrev pub decreases-loop-alloc : goal.decreases-loop-alloc
decreases-loop-alloc l = suc l.number - length l.rows.items
