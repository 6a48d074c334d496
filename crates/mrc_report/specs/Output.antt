-- Believe. Of a text that is printed line by line: how much of it went out, and why not all of it
-- did. This profile's own choice.
use Rattle.std.specs.Prelude.{◌≡◌, ◌+◌, ℕ, List, ◌++◌, Option, length, take}
use Rattle.std.specs.Io.KnownBytes.{Appends}
use Rattle.mrc_files.specs.Streams.{IsOneMore}
use Rattle.mrc_report.specs.declared.outgoing.Unprinted.{Unprinted}
use Rattle.mrc_report.specs.declared.outgoing.Unprinted.TheVariants.{Memory, WriteFailed}

-- how many bytes of a text went out that was not printed to its end
abbrev pub written : Unprinted → ℕ
written (Memory count) = count
written (WriteFailed count) = count

-- A failed write is reported if one failed, and else none did: a sink counted so many failures
-- before, and so many after.
abbrev pub HasFailed : Option ℕ → Option ℕ → Unprinted → Type 0
HasFailed old new (Memory count) = new ≡ old
HasFailed old new (WriteFailed count) = IsOneMore old new

-- The front of a text went out, and the rest did not: a sink that held `old` holds `new`, and the
-- count of all bytes that went out has grown from `before` to `after`.
pub record IsOut (old new : Option (List ℕ)) (before after : ℕ) (text rest : List ℕ) : Type 0 where
  pub front : List ℕ
  pub parts : text ≡ front ++ rest
  pub out : Appends old new front
  pub count : after ≡ before + length front

-- the same, whatever the rest is
abbrev pub IsPartOut : Option (List ℕ) → Option (List ℕ) → ℕ → ℕ → List ℕ → Type 0
IsPartOut old new before after text =
    (rest : List ℕ) × IsOut old new before after text rest

-- some text went out, but for the rest that was kept back
abbrev pub IsMoreOut : Option (List ℕ) → Option (List ℕ) → ℕ → ℕ → List ℕ → Type 0
IsMoreOut old new before after rest = (text : List ℕ) × IsOut old new before after text rest

-- a front of some text did
abbrev pub IsSomeOut : Option (List ℕ) → Option (List ℕ) → ℕ → ℕ → Type 0
IsSomeOut old new before after = (rest : List ℕ) × IsMoreOut old new before after rest

-- some text was appended
abbrev pub HasGrown : Option (List ℕ) → Option (List ℕ) → Type 0
HasGrown old new = (text : List ℕ) × Appends old new text

-- the first bytes of some text were, so many of them
abbrev pub HasGrownIn : Option (List ℕ) → Option (List ℕ) → ℕ → Type 0
HasGrownIn old new count = (text : List ℕ) × Appends old new (take count text)
