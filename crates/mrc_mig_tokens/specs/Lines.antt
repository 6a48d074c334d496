-- Believe. Which lines of the preprocessor a file of edition 2 may have. Lines of the preprocessor
-- in MIG files of the second edition: this profile's own choice of those that a file may keep. The
-- one include and the marks of lines are those of the first edition.
use Rattle.std.specs.Prelude.{ℕ, List, [], ◌∷◌, Bool, true, false, ◌||◌, Option, Some, None, codes}
use Rattle.std.specs.Prelude.{if◌then◌else◌}
use Rattle.mrc_mig_symbols.specs.Directives.{is_space, without_blanks, after_bytes, directive_of}
use Rattle.mrc_mig_symbols.specs.declared.directive.Directive.{Directive}
use Rattle.mrc_mig_symbols.specs.declared.directive.Directive.TheVariants as directives
use Rattle.mrc_mig_tokens.specs.declared.line.Line.{Line}
use Rattle.mrc_mig_tokens.specs.declared.line.Line.TheVariants.{Include, Mark, Passed, Other}

-- behind a word: nothing, or a space, tab or carriage return and then anything
abbrev pub ends_word : Option (List ℕ) → Bool
ends_word None = false
ends_word (Some []) = true
ends_word (Some (b ∷ after)) = is_space b

-- `pragma ..` and `ident ..`, behind `#` and blanks
abbrev pub is_passed : List ℕ → Bool
is_passed line =
    ends_word (after_bytes (codes "pragma") line) || ends_word (after_bytes (codes "ident") line)

-- a line with this behind its `#`, where there is one
abbrev pub behind_hash : Option (List ℕ) → Line
behind_hash None = Other
behind_hash (Some line) = if is_passed (without_blanks line) then Passed else Other

-- what a line is that is no include and no mark
abbrev pub other_line : List ℕ → Line
other_line line = behind_hash (after_bytes (codes "#") line)

-- what a line is that is this in the first edition
abbrev pub line_by : Directive → List ℕ → Line
line_by directives.Include line = Include
line_by directives.Marker line = Mark
line_by directives.Other line = other_line line

-- what a line is
unfoldable pub line_of : List ℕ → Line
line_of line = line_by (directive_of line) line
