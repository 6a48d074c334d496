-- Worked examples of how names are shown.
use Rattle.std.proofs.Common.{◌≡◌, ◌∷◌, ◌++◌, [], refl}
use Rattle.std.specs.Prelude.{codes}
use Rattle.std.specs.Str.{chars}
use Rattle.std.proofs.Math.Utf8.{encode}
use Rattle.mrc_command.specs.Lines.{fault_line, shown}

-- a plain name is unchanged
plain : shown (codes "a/b c.defs") ≡ codes "a/b c.defs"
unfolding chars encode
plain = refl

-- a line feed, a tab, a carriage return and an escape
controls : shown (97 ∷ 10 ∷ 9 ∷ 13 ∷ 27 ∷ 98 ∷ []) ≡ codes "a\\n\\t\\r\\x1bb"
unfolding chars encode
controls = refl

-- the first and the last control characters, of one byte and of two; the last two bytes are a
-- letter with an accent
ends : shown (0 ∷ 31 ∷ 127 ∷ 194 ∷ 128 ∷ 194 ∷ 159 ∷ 195 ∷ 169 ∷ [])
    ≡ codes "\\x00\\x1f\\x7f\\x80\\x9f" ++ 195 ∷ 169 ∷ []
unfolding chars encode
ends = refl

-- a backslash is doubled
backslash : shown (codes "a\\nb") ≡ codes "a\\\\nb"
unfolding chars encode
backslash = refl

-- the line of a fault
line : fault_line (codes "a\nb") (codes "NotUtf8") ≡ codes "machcheck: a\\nb: NotUtf8\n"
unfolding chars encode
line = refl
