-- Believe. The text that `mig` writes of a MIG file: one of edition 2. This profile's own choice.
use Rattle.std.specs.Prelude.{ℕ, List, [], ◌∷◌, ◌++◌, Bool, true, false, codes, if◌then◌else◌}
use Rattle.mrc_mig_lex.specs.Characters.{line_feed}
use Rattle.mrc_interface.specs.Left.{is_first, text_if}

-- the line of edition 2, as received or not, with its end
abbrev pub edition_line : Bool → List ℕ
edition_line false = codes "#pragma machcheck 2" ++ line_feed ∷ []
edition_line true = codes "#pragma machcheck 2 received" ++ line_feed ∷ []

-- bytes as a text of edition 2: with that line in front, if they are a text of edition 1
abbrev pub in_second : Bool → List ℕ → List ℕ
in_second received bytes =
    if is_first (text_if bytes) then edition_line received ++ bytes else bytes
