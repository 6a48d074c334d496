-- Believe. Which bytes encode which message. From Mach 3 Kernel Interfaces, mach_msg_header_t,
-- mach_msg_type_t and mach_msg_type_long_t. The bits and words that are ignored, and the limit of a
-- message's bytes, are this profile's own choice.
use Rattle.std.specs.Prelude.{◌≡◌, ℕ, ◌+◌, ◌*◌, ◌^◌, ◌<◌, ◌≤◌, List, [], ◌∷◌, ◌++◌, length}
use Rattle.std.specs.Prelude.{flat_map, IsTrue, ◌⊎◌, if◌then◌else◌}
use Rattle.mrc_base.specs.Limits.{limit_of_message}
use Rattle.mrc_model.specs.Message.{Arg, Data, Ports, Message, word, half, any_port_arg}
use Rattle.mrc_desc.specs.Descriptor.{padding_len}
use Rattle.mrc_desc.specs.Lawful.{IsLawfulArg, is_admitted}

-- one word, with only the inline bit of the last four
pub record SpellsShort (bytes : List ℕ) (name size number : ℕ) : Type 0 where
  pub size_fits : size < 2 ^ 8
  pub number_fits : number < 2 ^ 12
  pub layout : bytes ≡ word (name + 256 * size + 65536 * number + 2 ^ 28)

-- a word with the inline and the long bit, whose other bits below them may be any, and then the
-- three numbers
pub record SpellsLong (bytes : List ℕ) (name size number : ℕ) : Type 0 where
  pub ignored : ℕ
  pub ignored_fits : ignored < 2 ^ 28
  pub layout : bytes ≡ word (ignored + 2 ^ 28 + 2 ^ 29) ++ half name ++ half size ++ word number

-- either form of a descriptor
abbrev pub SpellsDesc : List ℕ → ℕ → ℕ → ℕ → Type 0
SpellsDesc bytes name size number =
    SpellsShort bytes name size number ⊎ SpellsLong bytes name size number

-- a descriptor, the items, and padding of any value up to a multiple of four
pub record SpellsData (bytes : List ℕ) (name size number : ℕ) (items : List ℕ) : Type 0 where
  pub desc : List ℕ
  pub padding : List ℕ
  pub desc_spelled : SpellsDesc desc name size number
  pub padded : length padding ≡ padding_len (length items)
  pub layout : bytes ≡ desc ++ items ++ padding

-- a descriptor, and a word for each name
pub record SpellsPorts (bytes : List ℕ) (name : ℕ) (names : List ℕ) : Type 0 where
  pub desc : List ℕ
  pub desc_spelled : SpellsDesc desc name 32 (length names)
  pub layout : bytes ≡ desc ++ flat_map word names

-- one argument
abbrev pub SpellsArg : List ℕ → Arg → Type 0
SpellsArg bytes (Data name size number items) = SpellsData bytes name size number items
SpellsArg bytes (Ports name names) = SpellsPorts bytes name names

-- one argument after the other, each of them lawful
abbrev pub SpellsArgs : List ℕ → List Arg → Type 0
SpellsArgs bytes [] = bytes ≡ []
SpellsArgs bytes (arg ∷ args) =
    (front rest : List ℕ) × IsLawfulArg arg × SpellsArg front arg × SpellsArgs rest args
    × (bytes ≡ front ++ rest)

-- The header and the arguments. Ignored are the bits between the dispositions and the complex bit,
-- the size and the number of receipts. The complex bit stands exactly where an argument has port
-- rights.
pub record Spells (bytes : List ℕ) (m : Message) : Type 0 where
  pub bits : ℕ
  pub size : ℕ
  pub receipts : ℕ
  pub body : List ℕ
  pub bits_fit : bits < 2 ^ 15
  pub remote_fits : m.remote < 2 ^ 32
  pub local_fits : m.local < 2 ^ 32
  pub id_fits : m.id < 2 ^ 32
  pub admitted : IsTrue (is_admitted m.remote_disp m.local_disp m.local)
  pub no_seqno : m.seqno ≡ 0
  pub body_spelled : SpellsArgs body m.args
  pub layout : bytes ≡
      word (m.remote_disp + 256 * m.local_disp + 65536 * bits
      + (if any_port_arg m.args then 2 ^ 31 else 0))
      ++ word size ++ word m.remote ++ word m.local ++ word receipts ++ word m.id
      ++ body
  pub within : length bytes ≤ limit_of_message
