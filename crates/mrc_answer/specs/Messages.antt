-- Believe. What is right of a message that is turned into its bytes, or into words. How the bytes and
-- the words are printed is tested. This profile's own choice.
use Rattle.std.specs.Prelude.{◌≡◌, ℕ, List, Err}
use Rattle.mrc_model.specs.Message.{Message as Sent, written}
use Rattle.mrc_forms.specs.Tables.{Table as Interface}
use Rattle.mrc_interface.specs.Reading.{AreInterfaces, interfaces_of, step}
use Rattle.mrc_message_words.specs.Spoken.{Said, IsSpoken}
use Rattle.mrc_check.specs.Texts.{InDefs, meaningless}
use Rattle.mrc_answer.specs.declared.answers.Answer.{Answer}
use Rattle.mrc_answer.specs.declared.answers.Answer.TheVariants.{Encoded, Decoded, Fault}
use Rattle.mrc_answer.specs.declared.faults.Fault.{Fault as Failure}
use Rattle.mrc_answer.specs.declared.faults.Fault.TheVariants.{Meaning, Message}

-- the bytes are those of a message that words say over the forms of the interfaces; or there is none
abbrev pub IsEncoded : List Interface → Answer → Type 0
IsEncoded tables (Encoded bytes) =
    (said : Said) × (m : Sent) × IsSpoken tables said m × (bytes.items ≡ written m)
IsEncoded tables (Fault (Message fault)) = Unit {0}
IsEncoded tables answer = ⊥

-- there is a message with such words, or none
abbrev pub IsDecoded : List Interface → Answer → Type 0
IsDecoded tables (Decoded text) = (said : Said) × (m : Sent) × IsSpoken tables said m
IsDecoded tables (Fault (Message fault)) = Unit {0}
IsDecoded tables answer = ⊥

-- what is answered of a message over MIG files: one of these, or the first file that is none
abbrev pub IsTurned : List (List ℕ) → Answer → Type 0
IsTurned defs (Encoded bytes) =
    (tables : List Interface) × AreInterfaces defs tables × IsEncoded tables (Encoded bytes)
IsTurned defs (Decoded text) =
    (tables : List Interface) × AreInterfaces defs tables × IsDecoded tables (Decoded text)
IsTurned defs (Fault (Message fault)) = Unit {0}
IsTurned defs (Fault (Meaning fault)) =
    step InDefs (interfaces_of defs) ≡ Err (meaningless fault)
IsTurned defs answer = ⊥
