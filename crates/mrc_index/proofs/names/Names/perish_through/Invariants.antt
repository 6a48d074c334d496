use Rattle.std.proofs.Common.{◌-◌, ◌^◌}
use Rattle.mrc_index.proofs.PerishLaws.{HasTurned}
use Rattle.mrc_index.proofs.names.Names.perish_through.Given as goal

-- the names below have turned
abbrev pub invariant-loop-held : goal.invariant-loop-held
invariant-loop-held l = HasTurned l.dead l.from l.initial.self l.self

abbrev pub decreases-loop-held : goal.decreases-loop-held
decreases-loop-held l = 2 ^ 32 - l.from
