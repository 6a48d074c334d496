-- Believe. What the files of a folder in memory have. This profile's own choice.
use Rattle.std.specs.Prelude.{ℕ, List, Option, Some, None, bytes_eq, codes, if◌then◌else◌}

-- the text of the file of this name, of a MIG file, a wiring and a policy
abbrev pub text_named : (defs wiring policy name : List ℕ) → Option (List ℕ)
text_named defs wiring policy name =
    if bytes_eq name (codes "fsys.defs") then Some defs
    else (if bytes_eq name (codes "fsys.wiring") then Some wiring
    else (if bytes_eq name (codes "fsys.policy") then Some policy else None))
