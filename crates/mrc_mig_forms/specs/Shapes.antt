-- Believe. What an argument looks like in a form, by what its type means to a message. The type
-- numbers are kept as words: one number, those of a send right, those of a send-once right, or
-- each number.
use Rattle.std.specs.Prelude.{ℕ, List, [], ◌∷◌}
use Rattle.mrc_forms.specs.declared.shape.Items.{Items}
use Rattle.mrc_forms.specs.declared.types.ItemTypes.{ItemTypes}
use Rattle.mrc_forms.specs.declared.types.ItemTypes.TheVariants as words
use Rattle.mrc_mig_types.specs.Shapes.{Form as Meant}
use Rattle.mrc_model.specs.Wiring.{ItemTypes as Numbers, AnyData, OneOf}

-- the word for so many type numbers: a send-once right has two, a send right three
abbrev pub word_of : List ℕ → ItemTypes
word_of [] = words.AnyData
word_of (n ∷ []) = words.One n
word_of (n ∷ m ∷ []) = words.SendOnce
word_of (n ∷ m ∷ k ∷ []) = words.Send
word_of (n ∷ m ∷ k ∷ l ∷ more) = words.Any

-- what items may be that have these type numbers
abbrev pub types_of : Numbers → ItemTypes
types_of AnyData = words.AnyData
types_of (OneOf numbers) = word_of numbers

-- what an argument's data look like
abbrev pub items_of : Meant → Items
items_of meant = record {
  types = types_of meant.types;
  size = meant.size;
  number = meant.number;
  is_bound = meant.is_bound;
}
