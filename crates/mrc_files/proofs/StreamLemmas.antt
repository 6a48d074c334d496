-- Calls one after the other.
use Rattle.std.proofs.Common.{ℕ, ◌+◌, ◌<◌, ◌≤◌, List, ◌++◌, Option, Some, None, length, take}
use Rattle.std.proofs.Common.{arith}
use Rattle.std.proofs.KnownBytes.{Consumes-trans}
use Rattle.std.proofs.lemmas.List.{length-append, length-take}
use Rattle.std.specs.Io.KnownBytes.{Consumes}
use Rattle.mrc_files.specs.Streams.{LosesAtMost, IsOneMore, IsAtMostMore}

-- one read more, within what may still be read
pub loses_one_more : (old now new : Option (List ℕ)) (bytes buffer after : List ℕ)
    (count most room : ℕ)
    → Consumes old now bytes
    → (count ≤ length buffer) × Consumes now new (take count after)
    → length buffer ≤ room
    → length bytes + room ≤ most
    → LosesAtMost old new most
loses_one_more old now new bytes buffer after count most room h one within few = (
  bytes ++ take count after,
  Consumes-trans old now new bytes (take count after) h one.1,
  omega (arith, length-append bytes (take count after), length-take count after, one.0),
)

-- one call more, for one byte more at least
pub one_call_more : (old now new : Option ℕ) (most more : ℕ)
    → IsAtMostMore old now most
    → IsOneMore now new
    → 0 < more
    → IsAtMostMore old new (most + more)
one_call_more old now None most more h k some = tt
one_call_more old None (Some new) most more h k some = absurd k
one_call_more None (Some now) (Some new) most more h k some = absurd h
one_call_more (Some calls) (Some now) (Some new) most more h k some = omega arith
