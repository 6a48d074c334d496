-- The types of the file of standard types, by what its tables have.
use Rattle.std.proofs.Common.{◌≡◌, ℕ, List, false, Option, ap, ◌∙◌, option_map, codes}
use Rattle.std.specs.Str.{bytes_eq}
use Rattle.mrc_mig_types.specs.declared.meaning.Meaning.{Meaning}
use Rattle.mrc_mig_types.specs.Meanings.{open_array}
use Rattle.mrc_mig_types.specs.Table.{standard, standard_arrays, item_in, or_else, standard_of}

pub standard_by : (name : List ℕ) (one many result : Option Meaning)
    → bytes_eq name (codes "mach_port_poly_t") ≡ false → bytes_eq name (codes "pointer_t") ≡ false
    → one ≡ item_in standard name → many ≡ item_in standard_arrays name
    → result ≡ or_else one (option_map open_array many) → result ≡ standard_of name
unfolding standard_of
standard_by name one many result p q a b r =
    rw (p, q) (r ∙ ap (λ o. or_else o (option_map open_array many)) a
    ∙ ap (λ o. or_else (item_in standard name) (option_map open_array o)) b)
