-- Believe. The words of arguments, and what an argument says. The words in front of arguments, the
-- option that is no reserved word and the flag `countinout`, in any case, as the Server Writer's
-- Guide for MIG and GNU MIG have them. A place is how many tokens are left there.
use Rattle.std.specs.Prelude.{ℕ, List, [], ◌∷◌, Bool, false, Option, codes}
use Rattle.std.specs.List.{list_any}
use Rattle.std.specs.Str.{bytes_eq, str_to_ascii_lowercase}
use Rattle.mrc_mig_symbols.specs.declared.word.Word.TheVariants as words
use Rattle.mrc_mig_symbols.specs.Tables.{entry_of}
use Rattle.mrc_mig_tokens.specs.declared.symbol.Symbol.{Symbol}
use Rattle.mrc_mig_tokens.specs.declared.symbol.Symbol.TheVariants as symbols
use Rattle.mrc_mig_tokens.specs.Tokens.{Token}
use Rattle.mrc_mig_types.specs.declared.meaning.Meaning.{Meaning}
use Rattle.mrc_mig_arguments.specs.declared.argument.Argument.{Argument}
use Rattle.mrc_mig_arguments.specs.declared.argument.Role.{Role}
use Rattle.mrc_mig_arguments.specs.declared.argument.Role.TheVariants as marks

-- the words in front of arguments
abbrev pub roles : List (List ℕ × Role)
roles =
    (codes "in", marks.In) ∷
    (codes "out", marks.Out) ∷
    (codes "inout", marks.InOut) ∷
    (codes "requestport", marks.RequestPort) ∷
    (codes "replyport", marks.ReplyPort) ∷
    (codes "ureplyport", marks.UserReplyPort) ∷
    (codes "sreplyport", marks.ServerReplyPort) ∷
    (codes "waittime", marks.WaitTime) ∷
    (codes "msgoption", marks.MessageOption) ∷
    (codes "msgseqno", marks.SequenceNumber) ∷ []

-- what a word in any case is in front of an argument, where it may stand there
unfoldable pub role_of_word : List ℕ → Option Role
role_of_word bytes = entry_of roles (str_to_ascii_lowercase bytes)

-- the word of an option that is no reserved word, in any case
abbrev pub is_payload : List ℕ → Bool
is_payload bytes = bytes_eq (str_to_ascii_lowercase bytes) (codes "intranpayload")

-- a token is the flag `countinout`, in any case
abbrev pub counts_by : Symbol → List ℕ → Bool
counts_by (symbols.Word words.Flag) bytes =
    bytes_eq (str_to_ascii_lowercase bytes) (codes "countinout")
counts_by _ bytes = false

-- the flag `countinout` is among these tokens
abbrev pub asks_count : List Token → Bool
asks_count tokens = list_any (λ token. counts_by token.symbol token.bytes) tokens

-- an argument as it is written: the word in front of it, its name, its type by its name and by what
-- it means, where that is known, whether `countinout` is among its flags, and the places of its
-- first token, its name and its type's name
pub record Written : Type 0 where
  pub role : Role
  pub name : List ℕ
  pub type_name : List ℕ
  pub meaning : Option Meaning
  pub counts : Bool
  pub at : ℕ
  pub name_at : ℕ
  pub type_at : ℕ

-- an argument that says this, in that order
abbrev pub says : Role → List ℕ → List ℕ → Option Meaning → Bool → ℕ → ℕ → ℕ → Written
says role name type_name meaning counts at name_at type_at = record {
  role = role;
  name = name;
  type_name = type_name;
  meaning = meaning;
  counts = counts;
  at = at;
  name_at = name_at;
  type_at = type_at;
}

-- what code keeps of it
abbrev pub written_of : Argument → Written
written_of argument =
    says argument.role argument.name.now argument.type_name.now argument.meaning argument.counts
    argument.at argument.name_at argument.type_at
