-- The seat has made the calls of the lines so far.
use Rattle.std.proofs.Common.{◌≡◌, ◌++◌, take}
use Rattle.mrc_report.specs.Plays.{IsSameSeat, asked_of, calls_of}
use Rattle.mrc_report.proofs.playing.say_lines.Given as goal

abbrev pub invariant-loop-line : goal.invariant-loop-line
invariant-loop-line g l =
    IsSameSeat l.fn.seat l.seat
    × (calls_of l.seat
    ≡ calls_of l.fn.seat ++ asked_of l.fn.seat.task (take l.line-index l.line-items))
