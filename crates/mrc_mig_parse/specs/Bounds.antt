-- Believe. How many arguments there are, of which sizes and counts. What holds of every subsystem
-- that is read: its counts and sizes, and how many arguments a routine has. The bounds are this
-- profile's own choice.
use Rattle.std.specs.Prelude.{List, length, Bool, true, ◌&&◌, nat_le}
use Rattle.std.specs.List.{list_all}
use Rattle.mrc_base.specs.Limits.{limit_of_arguments}
use Rattle.mrc_mig_parse.specs.Arguments.{Item}
use Rattle.mrc_forms.specs.Shapes.{shape_fits}
use Rattle.mrc_mig_parse.specs.Files.{Row, Routine, SimpleRoutine, Skip}

-- at most 32 arguments, with such shapes
abbrev pub items_fit : List Item → Bool
items_fit items =
    nat_le (length items) limit_of_arguments
    && list_all (λ (item : Item). shape_fits item.shape) items

-- the arguments of a routine
abbrev pub row_fits : Row → Bool
row_fits (Routine name items) = items_fit items
row_fits (SimpleRoutine name items) = items_fit items
row_fits Skip = true
