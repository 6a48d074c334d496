-- What holds of the fields of a struct, one behind the others.
use Rattle.std.proofs.Common.{◌≡◌, List, [], ◌∷◌, ◌++◌, false, Option, Some, None}
use Rattle.std.proofs.Common.{option_map, refl}
use Rattle.std.specs.Prelude.{option_and_then}
use Rattle.mrc_mig_types.specs.declared.layout.Field.{Field}
use Rattle.mrc_mig_types.specs.declared.layout.Laid.{Laid}
use Rattle.mrc_mig_types.specs.declared.meaning.Meaning.{Meaning}
use Rattle.mrc_mig_types.specs.Layout.{field_of, all_fields_of, IsLaid}

-- the fields with one more behind them
abbrev pub joined : Option (List Field) → Option Field → Option (List Field)
joined None last = None
joined (Some fields) None = None
joined (Some fields) (Some field) = Some (fields ++ field ∷ [])

alone : (last : Option Field)
    → option_and_then (λ field. option_map (λ fields. field ∷ fields) (Some [])) last
    ≡ joined (Some []) last
alone (Some field) = refl
alone None = refl

behind : (first : Option Field) (others : Option (List Field)) (last : Option Field)
    → option_and_then (λ field. option_map (λ fields. field ∷ fields) (joined others last)) first
    ≡ joined (option_and_then (λ field. option_map (λ fields. field ∷ fields) others) first) last
behind None others last = refl
behind (Some field) None last = refl
behind (Some field) (Some fields) None = refl
behind (Some field) (Some fields) (Some more) = refl

one_more : (fields : List (Option Meaning)) (field : Option Meaning)
    → all_fields_of (fields ++ field ∷ []) ≡ joined (all_fields_of fields) (field_of field)
one_more [] field = alone (field_of field)
one_more (first ∷ fields) field =
    rw (one_more fields field) (behind (field_of first) (all_fields_of fields) (field_of field))

-- a struct with one more field, by what becomes of the fields so far
pub with_more : (laid result : Laid) (field : Option Meaning)
    → ((read : Option (List Field)) → IsLaid read laid → IsLaid (joined read
    (field_of field)) result)
    → (fields : List (Option Meaning)) → IsLaid (all_fields_of fields) laid
    → IsLaid (all_fields_of (fields ++ field ∷ [])) result
with_more laid result field step fields is =
    rw (one_more fields field) (step (all_fields_of fields) is)

-- a field of no length
pub refuses : (laid result : Laid) → result.has_length ≡ false → (last : Option Field)
    → last ≡ None → (read : Option (List Field)) → IsLaid read laid
    → IsLaid (joined read last) result
refuses laid result lost last e None is = lost
refuses laid result lost last e (Some fields) is = rw e lost

-- a field that has one
pub goes_on : (laid result : Laid) (field : Field)
    → ((fields : List Field) → IsLaid (Some fields) laid
    → IsLaid (Some (fields ++ field ∷ [])) result)
    → (laid.has_length ≡ false → result.has_length ≡ false) → (last : Option Field)
    → last ≡ Some field → (read : Option (List Field)) → IsLaid read laid
    → IsLaid (joined read last) result
goes_on laid result field step none last e None is = none is
goes_on laid result field step none last e (Some fields) is = rw e (step fields is)
