use Rattle.std.proofs.Common.{◌+◌, ◌*◌, ◌<◌, ◌≤◌}
use Rattle.mrc_rows.proofs.Groups.{NoClass}
use Rattle.mrc_rows.proofs.planes.Planes.next_class.Given as goal

-- no class up to here has a bit
abbrev pub invariant-loop-place : goal.invariant-loop-place
invariant-loop-place l = record {
  start : l.start < 64;
  from_there : l.from ≤ 64 * l.place + l.start;
  none : NoClass l.self l.from (64 * l.place + l.start);
}
