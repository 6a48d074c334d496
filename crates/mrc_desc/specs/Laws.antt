-- Law. What holds of reading and writing messages. This profile's own choice of what a message may
-- be: see Lawful and Spelling.
use Rattle.std.specs.Prelude.{◌≡◌, ◌↔◌, ℕ, ◌^◌, ◌<◌, ◌≤◌, List, [], ◌∷◌, length, IsTrue, Ok}
use Rattle.std.specs.List.{AllByRecursion}
use Rattle.mrc_model.specs.Message.{Arg, Data, Ports, Message, written, written_size}
use Rattle.mrc_desc.specs.Lawful.{HeaderFits, IsLawful, is_admitted}
use Rattle.mrc_desc.specs.Reading.{message_at}
use Rattle.mrc_desc.specs.Spelling.{Spells}

-- a message that reading admits and that was not received
pub record IsSent (m : Message) : Type 0 where
  pub lawful : IsLawful m
  pub no_seqno : m.seqno ≡ 0
  pub admitted : IsTrue (is_admitted m.remote_disp m.local_disp m.local)

-- what is written of a message is read as that message
abbrev pub WrittenIsRead : Type 0
WrittenIsRead = (m : Message) → IsSent m → message_at (written m) ≡ Ok m

-- what is written of a message spells it
abbrev pub WrittenIsSpelled : Type 0
WrittenIsSpelled = (m : Message) → IsSent m → Spells (written m) m

-- bytes spell one message at most
abbrev pub SpelledIsOne : Type 0
SpelledIsOne = (bytes : List ℕ) (m n : Message) → Spells bytes m → Spells bytes n → m ≡ n

-- bytes spell exactly the message that they are read as
abbrev pub ReadIsSpelled : Type 0
ReadIsSpelled =
    (bytes : List ℕ) (m : Message) → AllByRecursion (λ byte. byte < 2 ^ 8) bytes
    → (message_at bytes ≡ Ok m) ↔ Spells bytes m

-- Other port rights in the place of some: as many, whatever their disposition and their names.
pub record OtherPorts (names : List ℕ) (name : ℕ) (others : List ℕ) : Type 0 where
  pub as_many : length others ≡ length names
  pub least : 16 ≤ name
  pub most : name ≤ 21
  pub names_fit : AllByRecursion (λ name. name < 2 ^ 32) others

-- the argument has the same data, or other port rights in the place of its own
abbrev pub OtherArg : Arg → Arg → Type 0
OtherArg (Data name size number bytes) other = other ≡ Data name size number bytes
OtherArg (Ports name names) (Data other size number bytes) = ⊥
OtherArg (Ports name names) (Ports other others) = OtherPorts names other others

-- one by one, the arguments differ in port rights alone
abbrev pub OtherArgs : List Arg → List Arg → Type 0
OtherArgs [] [] = Unit {0}
OtherArgs [] (other ∷ others) = ⊥
OtherArgs (arg ∷ args) [] = ⊥
OtherArgs (arg ∷ args) (other ∷ others) = OtherArg arg other × OtherArgs args others

-- a message with another header and other port rights is lawful where the first one is
abbrev pub OthersAreLawful : Type 0
OthersAreLawful =
    (m other : Message) → IsLawful m → HeaderFits other → OtherArgs m.args other.args
    → IsLawful other

-- and it is as large
abbrev pub OthersAreAsLarge : Type 0
OthersAreAsLarge =
    (m other : Message) → IsLawful m → OtherArgs m.args other.args
    → written_size other ≡ written_size m
