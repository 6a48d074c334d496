-- Believe. Sizes and counts of data. The bounds are this profile's own choice.
use Rattle.std.specs.Prelude.{ℕ, Bool, true, not, ◌&&◌, ◌||◌, ◌==◌, ◌%◌, nat_lt, nat_le}
use Rattle.mrc_base.specs.Limits.{limit_of_items}
use Rattle.mrc_base.specs.Disposition.{is_port_number}
use Rattle.mrc_forms.specs.declared.shape.Items.{Items}
use Rattle.mrc_forms.specs.declared.shape.Shape.{Shape}
use Rattle.mrc_forms.specs.declared.types.ItemTypes.{ItemTypes}
use Rattle.mrc_forms.specs.declared.types.ItemTypes.TheVariants.{AnyData, One, Send, SendOnce, Any}

-- multiples of 8 from 8 to 65,528, and 32 for ports
abbrev pub size_fits : ℕ → ℕ → Bool
size_fits name size =
    nat_lt 0 size && nat_le size 65528 && (size % 8 == 0)
    && (not (is_port_number name) || size == 32)

-- 1 to 8,192 items
abbrev pub number_fits : ℕ → Bool
number_fits number = nat_lt 0 number && nat_le number limit_of_items

-- a size that its type can have, and 1 to 8,192 items
abbrev pub shape_fits : Shape → Bool
shape_fits shape = size_fits shape.name shape.size && number_fits shape.number

-- the same of items of these types: rights have 32 bits, data of any kind any size and number
abbrev pub fits_by : ItemTypes → Items → Bool
fits_by AnyData items = true
fits_by (One number) items = size_fits number items.size && number_fits items.number
fits_by Send items = (items.size == 32) && number_fits items.number
fits_by SendOnce items = (items.size == 32) && number_fits items.number
fits_by Any items = (items.size == 32) && number_fits items.number

-- the same by their own types
abbrev pub items_fit : Items → Bool
items_fit items = fits_by items.types items

-- items of one type number
abbrev pub items_of : Shape → Items
items_of shape = record {
  types = One shape.name;
  size = shape.size;
  number = shape.number;
  is_bound = shape.is_bound;
}
