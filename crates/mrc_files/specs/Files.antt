-- Believe. Which bytes files have, what a refused writing leaves, and that a writing changes no
-- other file. This profile's own choice.
use Rattle.std.specs.Prelude.{◌≡◌, ◌≤◌, ◌<◌, ◌⊎◌, ℕ, List, ◌∷◌, ◌++◌, Option, length, take, IfSome}
use Rattle.std.specs.List.{All, AllZip}
use Rattle.mrc_base.specs.Limits.{limit_of_file}
use Rattle.mrc_base.specs.declared.memory.OrMemory.{OrMemory}
use Rattle.mrc_base.specs.declared.memory.OrMemory.TheVariants.{Fault, Memory}
use Rattle.mrc_files.specs.declared.streams.WriteFault.{WriteFault}

-- the bytes of each file by its name, where they are known
abbrev pub Held : Type 0
Held = List ℕ → Option (List ℕ)

-- the file has these bytes, if its bytes are known
abbrev pub HasBytes : Held → List ℕ → List ℕ → Type 0
HasBytes held file bytes = IfSome (held file) (λ known. bytes ≡ known)

-- the file has no more bytes than a file may have, if its bytes are known
abbrev pub Fits : Held → List ℕ → Type 0
Fits held file = IfSome (held file) (λ known. length known ≤ limit_of_file)

-- the file has more bytes than a file may have, if its bytes are known
abbrev pub Exceeds : Held → List ℕ → Type 0
Exceeds held file = IfSome (held file) (λ known. limit_of_file < length known)

-- the texts are the bytes of the files, one for each, in their order
abbrev pub AreHeld : Held → List (List ℕ) → List (List ℕ) → Type 0
AreHeld held files texts = AllZip (HasBytes held) files texts

-- the file is the first of these that could not be read: those before it were, so they fit
pub record IsFirstUnread (held : Held) (files : List (List ℕ)) (file : List ℕ) : Type 0 where
  pub before : List (List ℕ)
  pub after : List (List ℕ)
  pub parts : files ≡ before ++ file ∷ after
  pub fit : All (Fits held) before

-- the file has the first of these bytes, as many as the fault says
abbrev pub HasWritten : Held → List ℕ → List ℕ → OrMemory WriteFault → Type 0
HasWritten held file bytes (Fault fault) = HasBytes held file (take fault.written bytes)
HasWritten held file bytes Memory = ⊥

-- what a refused writing leaves: each file as it was, or the first bytes in the file, as many as
-- the fault says
abbrev pub IsLeftBy : Held → Held → List ℕ → List ℕ → OrMemory WriteFault → Type 0
IsLeftBy before after file bytes refusal =
    (after ≡ before) ⊎ HasWritten after file bytes refusal

-- Each name has what it had, if a file was written and no other was. Another name may lead to that
-- file, as by a link: then both had the same, and they have the same again.
abbrev pub KeepsOthers : Held → Held → List ℕ → Type 0
KeepsOthers before after file = (other : List ℕ)
    → (after other ≡ before other)
    ⊎ ((before other ≡ before file) × (after other ≡ after file))
