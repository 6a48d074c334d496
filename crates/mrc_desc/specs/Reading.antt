-- Believe. The first fault; for the value a step. The order of the faults and the place that each
-- names are this profile's own choice.
use Rattle.std.specs.Prelude.{ℕ, zero, suc, ◌+◌, ◌-◌, ◌/◌, ◌%◌, ◌^◌, Bool, not, ◌||◌, List, [], ◌∷◌}
use Rattle.std.specs.Prelude.{length, take, drop, Result, Ok, Err, nat_lt, ◌==◌, if◌then◌else◌}
use mathlib.Core.Bool.{beq}
use Rattle.mrc_base.specs.Disposition.{is_port_number}
use Rattle.mrc_base.specs.Limits.{limit_of_message}
use Rattle.mrc_base.specs.Reading.{◌>>=◌}
use Rattle.mrc_desc.specs.declared.fault.ReadFault.{ReadFault}
use Rattle.mrc_desc.specs.declared.fault.ReadFault.TheVariants.{TooShort, TooLong, BadHeaderDisp}
use Rattle.mrc_desc.specs.declared.fault.ReadFault.TheVariants.{BadDesc, OutOfLine, Truncated}
use Rattle.mrc_desc.specs.declared.fault.ReadFault.TheVariants.{ComplexDiffers}
use Rattle.mrc_desc.specs.declared.argument.Desc.{Desc}
use Rattle.mrc_desc.specs.declared.argument.FirstWord.{FirstWord}
use Rattle.mrc_desc.specs.declared.message.Header.{Header}
use Rattle.mrc_model.specs.Message.{Arg, Data, Ports, Message, any_port_arg}
use Rattle.mrc_desc.specs.Descriptor.{is_lawful_desc, data_len, padding_len, half_at, word_at}
use Rattle.mrc_desc.specs.Descriptor.{first_word}
use Rattle.mrc_desc.specs.Lawful.{is_admitted}
use Rattle.mrc_desc.specs.View.{with_args}

-- a descriptor that is whole, by its first word and by what it says
unfoldable pub judged : (at : ℕ) → FirstWord → Desc → Result Desc ReadFault
judged at first desc =
    if (first.deallocate || first.unused) || not (is_lawful_desc desc) then Err (BadDesc at)
    else if not first.inline then Err (OutOfLine at)
    else Ok desc

-- what the first word itself says
abbrev pub short_desc : FirstWord → Desc
short_desc first = record { name = first.name; size = first.size; number = first.number }

-- what stands behind the first word
abbrev pub long_desc : List ℕ → Desc
long_desc bytes = record {
  name = half_at (drop 4 bytes);
  size = half_at (drop 6 bytes);
  number = word_at (drop 8 bytes);
}

-- what the descriptor at the front says, and the bytes after it, where its first word is known
unfoldable pub said_at : (at : ℕ) → FirstWord → List ℕ → Result (Desc × List ℕ) ReadFault
said_at at first bytes =
    if not first.longform then Ok (short_desc first, drop 4 bytes)
    else if nat_lt (length bytes) 12 then Err (Truncated at)
    else Ok (long_desc bytes, drop 12 bytes)

-- the descriptor at the front, and the bytes after it
unfoldable pub desc_at : (at : ℕ) → List ℕ → Result (Desc × List ℕ) ReadFault
desc_at at bytes =
    if nat_lt (length bytes) 4 then Err (Truncated at)
    else (said_at at (first_word (word_at bytes)) bytes >>= λ said.
    judged at (first_word (word_at bytes)) said.0 >>= λ desc. Ok (desc, said.1))

-- the words that stand one after the other
abbrev pub words : List ℕ → List ℕ
words [] = []
words (a ∷ []) = []
words (a ∷ b ∷ []) = []
words (a ∷ b ∷ c ∷ []) = []
words (a ∷ b ∷ c ∷ d ∷ rest) = word_at (a ∷ b ∷ c ∷ d ∷ []) ∷ words rest

-- what a descriptor and its data say
abbrev pub arg_with : Desc → List ℕ → Arg
arg_with desc bytes =
    if is_port_number desc.name then Ports desc.name (words bytes)
    else Data desc.name desc.size desc.number bytes

-- the data of a descriptor at the front, and the bytes after its padding
unfoldable pub data_at : (at : ℕ) → Desc → List ℕ → Result (Arg × List ℕ) ReadFault
data_at at desc bytes =
    let len = data_len desc in
    if nat_lt (length bytes) (len + padding_len len) then Err (Truncated at)
    else Ok (arg_with desc (take len bytes), drop (len + padding_len len) bytes)

-- the argument at the front, and the bytes after it
unfoldable pub arg_at : (at : ℕ) → List ℕ → Result (Arg × List ℕ) ReadFault
arg_at at bytes = do
  desc ← desc_at at bytes
  data_at at desc.0 desc.1

-- All the arguments that end a message of this many bytes: an argument begins where so many bytes
-- are left. Each has a byte at least, so as many steps as there are bytes are enough.
unfoldable pub args_at : (total steps : ℕ) → List ℕ → Result (List Arg) ReadFault
args_at total steps [] = Ok []
args_at total zero (b ∷ bytes) = Err (Truncated (total - length (b ∷ bytes)))
args_at total (suc steps) (b ∷ bytes) = do
  arg ← arg_at (total - length (b ∷ bytes)) (b ∷ bytes)
  args ← args_at total steps arg.1
  Ok (arg.0 ∷ args)

-- the arguments behind the header
abbrev pub args_of : List ℕ → Result (List Arg) ReadFault
args_of bytes = args_at (length bytes) (length (drop 24 bytes)) (drop 24 bytes)

-- the header, without the bits and words that are ignored
abbrev pub header_at : List ℕ → Header
header_at bytes = record {
  remote_disp = word_at bytes % 256;
  local_disp = word_at bytes / 256 % 256;
  remote_port = word_at (drop 8 bytes);
  local_port = word_at (drop 12 bytes);
  seqno = 0;
  id = word_at (drop 20 bytes);
}

-- the bit that says that an argument has port rights
abbrev pub is_complex : List ℕ → Bool
is_complex bytes = word_at bytes / 2 ^ 31 == 1

-- the message that the bytes are, or the first fault
unfoldable pub message_at : List ℕ → Result Message ReadFault
message_at bytes =
    if nat_lt (length bytes) 24 then Err TooShort
    else if nat_lt limit_of_message (length bytes) then Err TooLong
    else let header = header_at bytes in
    if not (is_admitted header.remote_disp header.local_disp header.local_port)
    then Err BadHeaderDisp
    else (args_of bytes >>= λ args.
    if beq (is_complex bytes) (any_port_arg args) then Ok (with_args header args)
    else Err ComplexDiffers)
