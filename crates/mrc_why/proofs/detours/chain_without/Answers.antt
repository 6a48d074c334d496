use Rattle.mrc_why.proofs.detours.chain_without.Goals as goal
use Rattle.std.proofs.Common.{sym}

-- src/detours.rt:34:1
pub returns-then-are_without-clause-without : goal.returns-then-are_without-clause-without
returns-then-are_without-clause-without c =
    rw (sym c.as_slice-then-concludes.ensures.value) (c.are_without.ensures c.if-are_without.true)
