-- Believe. How calls are counted, and which fault a failed read is. This profile's own choice.
use Rattle.std.specs.Prelude.{◌≡◌, ℕ, ◌+◌, ◌≤◌, List, Option, Some, None, length, ⊤}
use Rattle.std.specs.Io.KnownBytes.{Consumes}
use Rattle.std.specs.declared.io.ErrorKind.{ErrorKind}
use Rattle.std.specs.declared.io.ErrorKind.TheVariants.{OutOfMemory, NotFound, NotADirectory}
use Rattle.std.specs.declared.io.ErrorKind.TheVariants.{IsADirectory, PermissionDenied}
use Rattle.mrc_files.specs.declared.streams.ReadFailure.{ReadFailure}
use Rattle.mrc_files.specs.declared.streams.ReadFailure.TheVariants.{Missing, NotAFolder, IsAFolder}
use Rattle.mrc_files.specs.declared.streams.ReadFailure.TheVariants.{Denied, Other}
use Rattle.mrc_files.specs.declared.streams.InputFault.{InputFault}
use Rattle.mrc_files.specs.declared.streams.InputFault.TheVariants.{ReadFailed, Memory}

-- what the system says of a failed read
abbrev pub failure : ErrorKind → ReadFailure
failure NotFound = Missing
failure NotADirectory = NotAFolder
failure IsADirectory = IsAFolder
failure PermissionDenied = Denied
failure kind = Other

-- the fault of a read that failed: out of memory is reported as such, and all else as a failed read
abbrev pub read_fault : ErrorKind → InputFault
read_fault OutOfMemory = Memory
read_fault kind = ReadFailed (failure kind)

-- a reader that had these bytes left, where they are known, lost no more than so many of them
abbrev pub LosesAtMost : Option (List ℕ) → Option (List ℕ) → ℕ → Type 0
LosesAtMost old new most = (bytes : List ℕ) × Consumes old new bytes × (length bytes ≤ most)

-- A count went up by one. A count may be lost, as one that has no more room; then it stays unknown.
abbrev pub IsOneMore : Option ℕ → Option ℕ → Type 0
IsOneMore old None = ⊤
IsOneMore None (Some more) = ⊥
IsOneMore (Some count) (Some more) = more ≡ count + 1

-- it went up by so many at most
abbrev pub IsAtMostMore : Option ℕ → Option ℕ → ℕ → Type 0
IsAtMostMore old None most = ⊤
IsAtMostMore None (Some more) most = ⊥
IsAtMostMore (Some count) (Some more) most = more ≤ count + most

-- the fault is that of a failed read
abbrev pub IsFailedRead : InputFault → Type 0
IsFailedRead fault = (why : ReadFailure) × (fault ≡ ReadFailed why)
