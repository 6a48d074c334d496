-- Believe. The first fault; for the value a step. The profile's own choice.
use Rattle.std.specs.Prelude.{ℕ, zero, suc, ◌+◌, Bool, true, List, [], ◌∷◌, length, take, drop}
use Rattle.std.specs.Prelude.{Option, Some, None, Result, Ok, Err, nat_eq, nat_lt, ◌==◌, ◌||◌}
use Rattle.std.specs.Prelude.{if◌then◌else◌}
use Rattle.std.specs.Option.{option_map}
use Rattle.std.specs.List.{starts_with}
use Rattle.std.specs.Int.{Width, w16, w32, byte_len, from_be_bytes}
use Rattle.mrc_base.specs.declared.Fact.{Fact}
use Rattle.mrc_base.specs.declared.Fact.TheVariants.{Hold, Carry, Backup}
use Rattle.mrc_base.specs.declared.PortRight.{PortRight}
use Rattle.mrc_base.specs.declared.PortRight.TheVariants.{Send, Receive, SendOnce}
use Rattle.mrc_base.specs.Reading.{◌>>=◌}
use Rattle.mrc_facts.specs.Order.{is_before}
use Rattle.mrc_certificate.specs.declared.fault.DraftFault.{DraftFault}
use Rattle.mrc_certificate.specs.declared.fault.DraftFault.TheVariants.{Magic, Version, Truncated}
use Rattle.mrc_certificate.specs.declared.fault.DraftFault.TheVariants.{BadFact, NotAscending}
use Rattle.mrc_certificate.specs.declared.fault.DraftFault.TheVariants.{Trailing}
use Rattle.mrc_certificate.specs.Drafts.{Content, is_within}
use Rattle.mrc_certificate.specs.Spelling.{magic}

-- the bytes behind the magic
unfoldable pub behind_magic : List ℕ → Result (List ℕ) DraftFault
behind_magic bytes = if starts_with nat_eq bytes magic then Ok (drop 4 bytes) else Err Magic

-- a number, high byte first, and the bytes behind it
abbrev pub number_at : Width → List ℕ → Result (ℕ × List ℕ) DraftFault
number_at w bytes =
    if nat_lt (length bytes) (byte_len w) then Err Truncated else Ok
    (from_be_bytes w (take (byte_len w) bytes), drop (byte_len w) bytes)

-- the version, 1 or 2, and the bytes behind it
unfoldable pub version_at : List ℕ → Result (ℕ × List ℕ) DraftFault
version_at bytes = do
  version ← number_at w16 bytes
  if version.0 == 1 || version.0 == 2 then Ok version else Err Version

-- the number of classes of births, and the bytes behind it: in version 1 it is that of tasks, in
-- version 2 it stands there, and is greater
unfoldable pub births_at : ℕ → ℕ → List ℕ → Result (ℕ × List ℕ) DraftFault
births_at version tasks bytes =
    if version == 1 then Ok (tasks, bytes)
    else number_at w16 bytes
    >>= λ births. if nat_lt tasks births.0 then Ok births else Err Version

-- where the first fact stands
abbrev pub first_place : ℕ → ℕ
first_place version = if version == 1 then 14 else 16

-- the right of a number
abbrev pub right_from : ℕ → Option PortRight
right_from zero = Some Send
right_from (suc zero) = Some Receive
right_from (suc (suc zero)) = Some SendOnce
right_from (suc (suc (suc n))) = None

-- the fact of a kind, two numbers and a last byte: kind 1 is a hold, 2 a carry, 3 a backup, which
-- ends in 0
abbrev pub fact_from : ℕ → ℕ → ℕ → ℕ → Option Fact
fact_from (suc zero) first second last =
    option_map (λ right. Hold first second right) (right_from last)
fact_from (suc (suc zero)) first second last =
    option_map (λ right. Carry first second right) (right_from last)
fact_from (suc (suc (suc zero))) first second zero = Some (Backup first second)
fact_from kind first second last = None

-- the fact, if there is one and it is within the counts
abbrev pub checked : ℕ → ℕ → ℕ → Option Fact → Result Fact DraftFault
checked tasks classes at None = Err (BadFact at)
checked tasks classes at (Some f) = if is_within tasks classes f then Ok f else Err (BadFact at)

-- the fact whose six bytes begin the bytes, which stand at the place at
unfoldable pub fact_at : ℕ → ℕ → ℕ → List ℕ → Result Fact DraftFault
fact_at tasks classes at (kind ∷ a ∷ b ∷ c ∷ d ∷ last ∷ rest) =
    checked tasks classes at (fact_from kind (from_be_bytes w16 (a ∷ b ∷ []))
    (from_be_bytes w16 (c ∷ d ∷ [])) last)
fact_at tasks classes at bytes = Err Truncated

-- whether the fact comes after the one before it
abbrev pub comes_after : Option Fact → Fact → Bool
comes_after None f = true
comes_after (Some g) f = is_before g f

-- the next facts, as many as the third argument says, and the bytes behind them. The bytes begin at
-- the place at of the certificate, and before is the fact that stands in front of them, if any: the
-- first fact has to come after it, and each other after the one in front
unfoldable pub facts_at : ℕ → ℕ → ℕ → ℕ → Option Fact → List ℕ
    → Result (List Fact × List ℕ) DraftFault
facts_at tasks classes zero at before bytes = Ok ([], bytes)
facts_at tasks classes (suc n) at before bytes = do
  f ← fact_at tasks classes at bytes
  others ← if comes_after before f then facts_at tasks classes n (at + 6) (Some f) (drop 6 bytes)
      else Err (NotAscending at)
  Ok (f ∷ others.0, others.1)

-- the draft that all of the bytes spell
unfoldable pub draft_from : List ℕ → Result Content DraftFault
draft_from bytes = do
  versioned ← behind_magic bytes
  version ← version_at versioned
  tasks ← number_at w16 version.1
  classes ← number_at w16 tasks.1
  births ← births_at version.0 tasks.0 classes.1
  count ← number_at w32 births.1
  facts ← facts_at tasks.0 classes.0 count.0 (first_place version.0) None count.1
  if length facts.1 == 0
      then Ok (record {
        tasks = tasks.0;
        classes = classes.0;
        births = births.0;
        facts = facts.0;
      })
      else Err Trailing
