-- The characters before the part.
use Rattle.std.proofs.Common.{◌≡◌, length, string_bytes, arith, rules}
use Rattle.std.specs.Str.{chars}
use Rattle.std.proofs.lemmas.Str.{chars_from_encodes}
use Rattle.mrc_place.proofs.spots.Spot.column.Goals as goal

pub returns : goal.returns
returns c =
    let count : c.count.result ≡ length (chars (string_bytes c.args.self.now.before)) =
    search (rules, chars_from_encodes) in
    omega arith
