use Rattle.std.proofs.Common.{◌≤◌, vec_len}
use Rattle.mrc_mend.proofs.extending.extended.Given as goal

abbrev pub invariant-loop-known : goal.invariant-loop-known
invariant-loop-known l = l.place ≤ vec_len l.more
