use Rattle.std.proofs.Common.{◌≡◌, ◌++◌, map, drop, Ok}
use Rattle.mrc_base.specs.Reading.{◌>>=◌}
use Rattle.mrc_interface.specs.Reading.{interfaces_from, interfaces_of}
use Rattle.mrc_interface.proofs.reading.interfaces_of.Given as goal

abbrev pub invariant-loop-bytes : goal.invariant-loop-bytes
invariant-loop-bytes l =
    ((interfaces_from l.file (map (λ bytes. bytes.items) (drop l.bytes-index l.files))
    >>= λ more. Ok (l.interfaces.items ++ more))
    ≡ interfaces_of (map (λ bytes. bytes.items) l.files))
    × (l.file ≡ l.bytes-index)
