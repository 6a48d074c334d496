-- Believe. The parameters of a call as words of a script: numbers, rights, dispositions, messages.
-- How they are written is this profile's own choice; the numbers of dispositions are Mach's (Mach 3
-- Kernel Interfaces, mach_msg_type_name_t).
use Rattle.std.specs.Prelude.{ℕ, ℤ, pos, ◌+◌, ◌-◌, ◌*◌, ◌&&◌, nat_le, bytes_eq, codes, List}
use Rattle.std.specs.Prelude.{[], ◌∷◌, Option, Some, None, if◌then◌else◌, flat_map}
use Rattle.std.specs.Prelude.{slice_index_or}
use Rattle.std.specs.Result.{result_ok}
use Rattle.mrc_base.specs.declared.Right.{Right}
use Rattle.mrc_base.specs.declared.Right.TheVariants.{Send, Receive, SendOnce, PortSet, DeadName}
use Rattle.mrc_base.specs.declared.Disp.{Disp}
use Rattle.mrc_base.specs.declared.Disp.TheVariants.{MoveReceive}
use Rattle.mrc_base.specs.Disposition.{disp_of_number}
use Rattle.mrc_words.specs.Numbers.{number_of_word, delta_of_word}
use Rattle.mrc_words.specs.Reading.{◌>>=◌}
use Rattle.mrc_model.specs.Message.{Message}
use Rattle.mrc_desc.specs.Reading.{message_at}
use Rattle.mrc_report.specs.declared.parameters.Parameter.{Parameter}
use Rattle.mrc_report.specs.declared.parameters.Parameter.TheVariants as kind
use Rattle.mrc_report.specs.declared.parameters.Value.{Value}
use Rattle.mrc_report.specs.declared.parameters.Value.TheVariants as value

-- the right of a word
unfoldable pub right_of_word : List ℕ → Option Right
right_of_word word =
    if bytes_eq word (codes "send") then Some Send
    else if bytes_eq word (codes "receive") then Some Receive
    else if bytes_eq word (codes "once") then Some SendOnce
    else if bytes_eq word (codes "set") then Some PortSet
    else if bytes_eq word (codes "dead") then Some DeadName
    else None

-- the disposition of a word, by its number: 16 to 21
abbrev pub disp_of_word : List ℕ → Option Disp
disp_of_word word = number_of_word word >>= disp_of_number

-- what a word means as a parameter of the kind, if it is one
abbrev pub value_of : Parameter → List ℕ → Option Value
value_of kind.Number word = number_of_word word >>= λ number. Some (value.Number number)
value_of kind.HeldRight word = right_of_word word >>= λ right. Some (value.HeldRight right)
value_of kind.Disposition word = disp_of_word word >>= λ disp. Some (value.Disposition disp)
value_of kind.Delta word = delta_of_word word >>= λ delta. Some (value.Delta delta)

-- what words mean as the first parameters of these kinds, one after the other
abbrev pub values_of : List Parameter → List (List ℕ) → Option (List Value)
values_of kinds [] = Some []
values_of [] (word ∷ words) = None
values_of (kind ∷ kinds) (word ∷ words) = do
  value ← value_of kind word
  values ← values_of kinds words
  Some (value ∷ values)

-- the value of this place: if there is none, the number 0
abbrev pub value_at : List Value → ℕ → Value
value_at values place = slice_index_or values place (value.Number 0)

-- the number, the right, the disposition or the change of this place. It has one by the table of
-- calls, but for a number that is missing, which is 0.
abbrev pub number_in : Value → ℕ
number_in (value.Number number) = number
number_in other = 0

abbrev pub number_at : List Value → ℕ → ℕ
number_at values place = number_in (value_at values place)

abbrev pub right_in : Value → Right
right_in (value.HeldRight right) = right
right_in other = Send

abbrev pub right_at : List Value → ℕ → Right
right_at values place = right_in (value_at values place)

abbrev pub disp_in : Value → Disp
disp_in (value.Disposition disp) = disp
disp_in other = MoveReceive

abbrev pub disp_at : List Value → ℕ → Disp
disp_at values place = disp_in (value_at values place)

abbrev pub delta_in : Value → ℤ
delta_in (value.Delta delta) = delta
delta_in other = pos 0

abbrev pub delta_at : List Value → ℕ → ℤ
delta_at values place = delta_in (value_at values place)

-- the value of a hexadecimal digit, of either case
abbrev pub digit_value : ℕ → Option ℕ
digit_value digit =
    if nat_le 48 digit && nat_le digit 57 then Some (digit - 48)
    else if nat_le 97 digit && nat_le digit 102 then Some (digit - 87)
    else if nat_le 65 digit && nat_le digit 70 then Some (digit - 55)
    else None

-- the byte that two digits spell
unfoldable pub byte_of : ℕ → ℕ → Option ℕ
byte_of high low = do
  h ← digit_value high
  l ← digit_value low
  Some (h * 16 + l)

-- the bytes that digits spell, two digits a byte
abbrev pub bytes_of_digits : List ℕ → Option (List ℕ)
bytes_of_digits [] = Some []
bytes_of_digits (digit ∷ []) = None
bytes_of_digits (high ∷ low ∷ digits) = do
  byte ← byte_of high low
  bytes ← bytes_of_digits digits
  Some (byte ∷ bytes)

-- the message whose bytes the digits of these words spell, one word after the other
unfoldable pub message_of_words : List (List ℕ) → Option Message
message_of_words words = do
  bytes ← bytes_of_digits (flat_map (λ word. word) words)
  result_ok (message_at bytes)
