-- Believe. Folder and name of a path, what a link means, where a part file is; with laws. Paths are
-- those of POSIX; the name of a part file is this profile's own choice.
use Rattle.std.specs.Prelude.{ℕ, ◌≡◌, ◌≤◌, ◌<◌, ◌^◌, ◌≢◌, List, [], ◌∷◌, ◌++◌, length, codes}
use Rattle.std.specs.Prelude.{decimal, slice_index, ◌==◌, nat_le, if◌then◌else◌}
use Rattle.std.specs.Path.{slash, has_no_slash, HasNoSlash}

-- the folder of a path: its bytes up to its last slash, with that
abbrev pub folder : List ℕ → List ℕ
folder [] = []
folder (byte ∷ path) = if has_no_slash (byte ∷ path) then [] else byte ∷ folder path

-- the name of a path: its bytes behind its last slash
abbrev pub name : List ℕ → List ℕ
name [] = []
name (byte ∷ path) = if has_no_slash (byte ∷ path) then byte ∷ path else name path

-- the path that a link means by its target: a target that begins with a slash, or one in the
-- folder of the link
abbrev pub linked : List ℕ → List ℕ → List ℕ
linked link target = if slice_index target 0 == slash then target else folder link ++ target

-- a file's name as its part file's has it: nothing where it has more than 200 bytes
abbrev pub shown : List ℕ → List ℕ
shown file = if nat_le (length file) 200 then file else []

-- the name of a part file by its number
abbrev pub part_name : List ℕ → ℕ → List ℕ
part_name file number = codes "." ++ (shown file
    ++ (codes ".machcheck-" ++ (decimal number ++ codes ".part")))

-- the path of a file's part file by its number: in the same folder
abbrev pub part : List ℕ → ℕ → List ℕ
part path number = folder path ++ part_name (name path) number

-- a path is its folder with its name behind it, and no slash is in the name
abbrev pub EachPathIsInTwo : Type 0
EachPathIsInTwo = (path : List ℕ) → (folder path ++ name path ≡ path) × HasNoSlash (name path)

-- a part file is another file than its own, under a name of at most 255 bytes, which is as long as
-- a name may be
abbrev pub EachPartIsAnother : Type 0
EachPartIsAnother = (path : List ℕ) (number : ℕ) → number < 2 ^ 32
    → (part path number ≢ path) × (length (part_name (name path) number) ≤ 255)
