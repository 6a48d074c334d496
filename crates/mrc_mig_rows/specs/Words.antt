-- Believe. For which word a row is left out. The words, their order and their places are this
-- profile's own choice. A place is how many tokens are left there.
use Rattle.std.specs.Prelude.{ℕ, ◌+◌, List, length, Bool, Option, Some, None}
use Rattle.std.specs.Prelude.{nat_lt, nat_le, if◌then◌else◌}
use Rattle.mrc_base.specs.Limits.{limit_of_ids, limit_of_name, limit_of_number}
use Rattle.mrc_mig_bodies.specs.declared.objections.LeftOutWord.{LeftOutWord}
use Rattle.mrc_mig_bodies.specs.declared.objections.LeftOutWord.TheVariants as found
use Rattle.mrc_mig_bodies.specs.declared.objections.Objection.{Objection}
use Rattle.mrc_mig_rows.specs.declared.kinds.RowKind.{RowKind}
use Rattle.mrc_mig_rows.specs.declared.kinds.RowKind.TheVariants as rows
use Rattle.mrc_mig_rows.specs.declared.words.RowWord.{RowWord}
use Rattle.mrc_mig_rows.specs.declared.words.RowWord.TheVariants as words
use Rattle.mrc_mig_rows.specs.declared.words.Told.{Told}
use Rattle.mrc_mig_rows.specs.Kinds.{is_old}

-- the largest id that a row takes: a routine's reply is 100 above its request
abbrev pub last_id : RowKind → ℕ → ℕ
last_id rows.Routine id = id + 100
last_id _ id = id

-- the word for which a row is left out whatever it says: so many ids are taken before it, or its id
-- is too large, or it is of an old form
abbrev pub early_word : RowKind → ℕ → ℕ → Option RowWord
early_word kind taken id =
    if nat_le limit_of_ids taken then Some words.TooMany
    else if nat_lt limit_of_number (last_id kind id) then Some words.IdRange
    else if is_old kind then Some words.OldForm
    else None

-- the word for which a row is left out by its name: an earlier row has it, or it is too long
abbrev pub name_word : Bool → List ℕ → Option RowWord
name_word is_taken name =
    if is_taken then Some words.TwiceNamed
    else if nat_lt limit_of_name (length name) then Some words.TooMany
    else None

-- the word of what objects to arguments
abbrev pub word_of : LeftOutWord → RowWord
word_of found.Unexpected = words.Unexpected
word_of found.UnknownType = words.UnknownType
word_of found.NoRequestPort = words.NoRequestPort
word_of found.ReplyPort = words.ReplyPort
word_of found.TwiceNamed = words.TwiceNamed
word_of found.TooMany = words.TooMany

-- a word that is told at a place
abbrev pub told : RowWord → ℕ → Told
told word place = record { word = word; at = place }

-- The first of a token with which no statement goes on, and of what objects to the arguments before
-- it: the first place in the text. At one place the token counts.
abbrev pub first_told : Option ℕ → Option Objection → Option Told
first_told None None = None
first_told (Some place) None = Some (told words.Unexpected place)
first_told None (Some objection) = Some (told (word_of objection.word) objection.at)
first_told (Some place) (Some objection) =
    if nat_le objection.at place then Some (told words.Unexpected place)
    else Some (told (word_of objection.word) objection.at)
