use Rattle.std.proofs.Common.{◌≡◌, ◌++◌, drop, Ok}
use Rattle.mrc_base.specs.Reading.{◌>>=◌}
use Rattle.mrc_check.specs.Demands.{demands_of}
use Rattle.mrc_check.proofs.demands.demands_of.Given as goal

-- the demands so far and those of what is left are those of all
abbrev pub invariant-loop-one : goal.invariant-loop-one
invariant-loop-one l =
    demands_of l.wired l.asked ≡ (demands_of l.wired (drop l.one-index l.asked)
    >>= λ others. Ok (l.demands.items ++ others))
