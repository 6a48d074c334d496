-- Believe. What is said of an argument, and which argument that is. An argument's items are those
-- of its form (Server Writer's Guide for MIG); numbers stand with the low byte first (Mach 3 Kernel
-- Interfaces). Which data are said as numbers, and which as bytes, is this profile's own choice.
use Rattle.std.specs.Prelude.{◌≡◌, ℕ, zero, suc, ◌/◌, ◌%◌, ◌^◌, ◌<◌, ◌≤◌, Bool, true, false, List, []}
use Rattle.std.specs.Prelude.{◌∷◌, length, flat_map, IsTrue, ◌⊎◌, ◌==◌}
use Rattle.std.specs.List.{AllByRecursion, list_any}
use Rattle.mrc_base.specs.declared.Disp.{Disp}
use Rattle.mrc_base.specs.Disposition.{disp_number}
use Rattle.mrc_model.specs.Message.{Arg, Data, Ports}
use Rattle.mrc_model.specs.Wiring.{type_numbers}
use Rattle.mrc_desc.specs.Lawful.{IsLawfulData}
use Rattle.mrc_forms.specs.declared.shape.Items.{Items}
use Rattle.mrc_forms.specs.declared.types.ItemTypes.{ItemTypes}
use Rattle.mrc_forms.specs.Types.{is_any_data, types_of}
use Rattle.mrc_forms.specs.Forms.{Argument}
use Rattle.mrc_message_words.specs.declared.value.Value.{Value}
use Rattle.mrc_message_words.specs.declared.value.Value.TheVariants as said

-- a number as so many bytes, the low one first
abbrev pub number_bytes : (width number : ℕ) → List ℕ
number_bytes zero number = []
number_bytes (suc width) number = number % 256 ∷ number_bytes width (number / 256)

-- the items may have this type number
abbrev pub HasType : ItemTypes → ℕ → Type 0
HasType types number = IsTrue (list_any (λ n. n == number) (type_numbers (types_of types)))

-- so many items are as many as the form says, or at most as many if it says a bound
abbrev pub IsCountBy : Bool → ℕ → ℕ → Type 0
IsCountBy true most count = count ≤ most
IsCountBy false number count = count ≡ number

-- the same by a form's items
abbrev pub IsCount : Items → ℕ → Type 0
IsCount items count = IsCountBy items.is_bound items.number count

-- Numbers are items of data of at most 64 bits: of a type that the form has, as many as it says,
-- each of no more bits than an item.
pub record AreNumbers (items : Items) (name : ℕ) (numbers : List ℕ) : Type 0 where
  pub typed : HasType items.types name
  pub of_data : name < 16
  pub bits : items.size ≤ 64
  pub count : IsCount items (length numbers)
  pub each : AllByRecursion (λ number. number < 2 ^ items.size) numbers

-- the argument that they are
abbrev pub numbers_arg : Items → ℕ → List ℕ → Arg
numbers_arg items name numbers =
    Data name items.size (length numbers) (flat_map (number_bytes (items.size / 8)) numbers)

-- items of more than 64 bits: of a type that the form has, as large and as many as it says
pub record AreWide (items : Items) (name size number : ℕ) : Type 0 where
  pub typed : HasType items.types name
  pub same_size : size ≡ items.size
  pub bits : 64 < size
  pub count : IsCount items number

-- Bytes are such items, or data of any kind, of which any type and size can be said. How many items
-- there are is known by their size.
pub record AreBytes (items : Items) (name size : ℕ) (bytes : List ℕ) (arg : Arg) : Type 0 where
  pub number : ℕ
  pub fit : (is_any_data items.types ≡ true) ⊎ AreWide items name size number
  pub lawful : IsLawfulData name size number bytes
  pub is : arg ≡ Data name size number bytes

-- port rights are of a disposition that the form has, and as many as it says
pub record ArePorts (items : Items) (disp : Disp) (names : List ℕ) : Type 0 where
  pub typed : HasType items.types (disp_number disp)
  pub count : IsCount items (length names)

-- what is said of an argument that has these items is this argument
abbrev pub IsValue : Items → Value → Arg → Type 0
IsValue items (said.Numbers name numbers) arg =
    AreNumbers items name numbers × (arg ≡ numbers_arg items name numbers)
IsValue items (said.Raw name size bytes) arg = AreBytes items name size bytes arg
IsValue items (said.Ports disp names) arg =
    ArePorts items disp names × (arg ≡ Ports (disp_number disp) names)

-- what is said of each argument of a form, in the form's order, is the argument in its place
abbrev pub AreValues : List Argument → List Value → List Arg → Type 0
AreValues [] [] [] = Unit {0}
AreValues (argument ∷ arguments) (value ∷ values) (arg ∷ args) =
    IsValue argument.items value arg × AreValues arguments values args
AreValues arguments values args = ⊥
