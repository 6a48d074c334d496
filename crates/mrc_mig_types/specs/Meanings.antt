-- Believe. What a type means to a message: arrays, bounds, pointers and strings. What a type of MIG
-- means to a message, after GNU MIG's stubs where addresses have 32 bits. What has no count that a
-- stub lays out is away, by this profile's own choice.
use Rattle.std.specs.Prelude.{ℕ, ◌*◌, ◌/◌, List, Bool, Option, Some, None, min, nat_lt, nat_le}
use Rattle.std.specs.Prelude.{◌==◌}
use Rattle.std.specs.Prelude.{◌&&◌, [], ◌∷◌, option_and_then, if◌then◌else◌}
use Rattle.mrc_base.specs.Limits.{limit_of_number}
use Rattle.mrc_mig_types.specs.declared.layers.Layer.{Layer}
use Rattle.mrc_mig_types.specs.declared.layers.Layer.TheVariants as layers
use Rattle.mrc_mig_types.specs.declared.meaning.Count.{Count}
use Rattle.mrc_mig_types.specs.declared.meaning.Count.TheVariants.{Exactly, AtMost, Either, Away}
use Rattle.mrc_mig_types.specs.declared.meaning.Meaning.{Meaning}
use Rattle.mrc_mig_types.specs.declared.meaning.Tag.{Tag}
use Rattle.mrc_mig_types.specs.declared.meaning.Tag.TheVariants.{Fixed}

-- a number of items, if it is one: not 0, and no greater than a number may be
abbrev pub counted : ℕ → Option ℕ
counted n = if nat_lt 0 n && nat_le n limit_of_number then Some n else None

-- exactly so many, or at most so many; without a number they are away
abbrev pub exactly : Option ℕ → Count
exactly None = Away
exactly (Some n) = Exactly n

abbrev pub most : Option ℕ → Count
most None = Away
most (Some n) = AtMost n

-- so many times as many items; n without a value has none
abbrev pub times : Option ℕ → Count → Count
times (Some n) (Exactly m) = exactly (counted (n * m))
times n count = Away

-- at most n times as many; if n is 0 they are in the body or not, as the sender finds
abbrev pub at_most : Option ℕ → Count → Count
at_most (Some n) (Exactly m) = if n == 0 then Either else most (counted (n * m))
at_most n count = Away

-- any number of times as many
abbrev pub unbounded : Count → Count
unbounded (Exactly m) = Either
unbounded count = Away

-- one item: in a struct it begins at a multiple of its own bytes, but of no more than 4
abbrev pub item : Tag → Tag → ℕ → Meaning
item sent received bits = record {
  sent = sent;
  received = received;
  bits = bits;
  count = Exactly 1;
  alignment = min (bits / 8) 4;
}

-- `array[n] of` and `struct[n] of`
abbrev pub array : Option ℕ → Meaning → Meaning
array n found = record found { count = times n found.count }

-- `array[*:n] of`
abbrev pub bounded : Option ℕ → Meaning → Meaning
bounded n found = record found { count = at_most n found.count }

-- `array[] of` and `array[*] of`
abbrev pub open_array : Meaning → Meaning
open_array found = record found { count = unbounded found.count }

-- `^`
abbrev pub pointed : Meaning → Meaning
pointed found = record found { count = Away; alignment = 4 }

-- so many characters, or at most so many
abbrev pub string_count : Bool → Option ℕ → Count
string_count is_bound n =
    if is_bound then most (option_and_then counted n) else exactly (option_and_then counted n)

-- `c_string[n]`, and `c_string[*:n]`
abbrev pub string : Option ℕ → Bool → Meaning
string n is_bound = record {
  sent = Fixed 12;
  received = Fixed 12;
  bits = 8;
  count = string_count is_bound n;
  alignment = 1;
}

-- a type with one array, struct or pointer around it
abbrev pub layer_of : Layer → Meaning → Meaning
layer_of (layers.Array n) found = array n found
layer_of (layers.Bounded n) found = bounded n found
layer_of layers.Open found = open_array found
layer_of layers.Pointer found = pointed found

-- a type with all that is around it, the outermost first
abbrev pub within : List Layer → Meaning → Meaning
within [] found = found
within (layer ∷ around) found = layer_of layer (within around found)
