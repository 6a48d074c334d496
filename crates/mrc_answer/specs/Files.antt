-- Believe. The files that a command names, by their roles, and the texts that they hold. This
-- profile's own choice.
use Rattle.std.specs.Prelude.{◌≡◌, ℕ, Bool, List, [], ◌∷◌, ◌++◌, map, Option, Some, None, get_or}
use Rattle.std.specs.Option.{option_map, option_to_list, unwrap_or}
use Rattle.std.specs.Borrow.{Bor}
use Rattle.mrc_check.specs.Texts.{Policy}
use Rattle.mrc_command.specs.declared.command.FileNames.{FileNames}
use Rattle.mrc_files.specs.Files.{Held, HasBytes, AreHeld}

-- the bytes of files, by their roles
pub record Texts : Type 0 where
  pub defs : List (List ℕ)
  pub wiring : List ℕ
  pub policy : Option (List ℕ)
  pub waives : Bool
  pub certificate : Option (List ℕ)
  pub script : Option (List ℕ)

-- the names of files, by their roles, and their bytes
pub record Files : Type 0 where
  pub names : FileNames
  pub texts : Texts

-- a text that may be given: an empty one, if it is not
abbrev pub given : Option (List ℕ) → List ℕ
given text = unwrap_or text []

-- the policy as it is asked for
abbrev pub asked_policy : Texts → Policy
asked_policy texts = record { bytes = given texts.policy; waives = texts.waives }

-- a word that may be given
abbrev pub word_of : Option (Bor (List ℕ)) → Option (List ℕ)
word_of word = option_map (λ (w : Bor (List ℕ)). w.now) word

-- the MIG files, by their names
abbrev pub defs_names : FileNames → List (List ℕ)
defs_names names = map (λ file. file.now) names.defs.items

-- the MIG file of this number, by its name
abbrev pub defs_name : FileNames → ℕ → List ℕ
defs_name names n = get_or (defs_names names) n []

-- a file that may be named
abbrev pub names_if_given : Option (Bor (List ℕ)) → List (List ℕ)
names_if_given file = option_to_list (word_of file)

-- all files, in the order in which they are read
abbrev pub all_names : FileNames → List (List ℕ)
all_names names =
    defs_names names ++ (names.wiring.now ∷ (names_if_given names.policy
    ++ (names_if_given names.certificate ++ names_if_given names.script)))

-- the text is that of the file, so far as that is known; there is one if and only if a file is
-- named
abbrev pub IsHeld : Held → Option (List ℕ) → Option (List ℕ) → Type 0
IsHeld held None None = Unit {0}
IsHeld held None (Some text) = ⊥
IsHeld held (Some file) None = ⊥
IsHeld held (Some file) (Some text) = HasBytes held file text

-- each text is that of the file of its role, so far as that is known; and what the policy waives is
-- let pass if that is asked for
pub record AreRead (held : Held) (names : FileNames) (texts : Texts) : Type 0 where
  pub defs : AreHeld held (defs_names names) texts.defs
  pub wiring : HasBytes held names.wiring.now texts.wiring
  pub policy : IsHeld held (word_of names.policy) texts.policy
  pub waives : texts.waives ≡ names.waives
  pub certificate : IsHeld held (word_of names.certificate) texts.certificate
  pub script : IsHeld held (word_of names.script) texts.script
