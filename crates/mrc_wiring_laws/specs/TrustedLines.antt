-- Law. What a table has of the `trust` lines of a wiring and of `replies fit`, in words apart from
-- how lines are read one after another. This profile's own choice.
use Rattle.std.specs.Prelude.{◌≡◌, ◌↔◌, ℕ, Bool, true, false, List, length, slice_get}
use Rattle.std.specs.Prelude.{Option, Some, None, Ok}
use Rattle.std.specs.List.{filter}
use Rattle.mrc_model.specs.IsIn.{IsIn}
use Rattle.mrc_forms.specs.Tables.{Table as Interface}
use Rattle.mrc_wiring_text.specs.declared.reading.Edition.{Edition}
use Rattle.mrc_wiring_text.specs.declared.reading.Line.{Line}
use Rattle.mrc_wiring_text.specs.declared.trust.TrustVerb.{TrustVerb}
use Rattle.mrc_wiring_text.specs.declared.trust.TrustedRight.{TrustedRight}
use Rattle.mrc_wiring_text.specs.declared.wiring.WiringSays.{WiringSays}
use Rattle.mrc_wiring_text.specs.declared.wiring.WiringSays.TheVariants.{Trust, RepliesFit}
use Rattle.mrc_wiring.specs.declared.names.NumberedClass.{NumberedClass}
use Rattle.mrc_wiring.specs.declared.table.NumberedRight.{NumberedRight}
use Rattle.mrc_wiring.specs.declared.table.TrustedLine.{TrustedLine}
use Rattle.mrc_wiring.specs.Table.{Table}
use Rattle.mrc_wiring.specs.Names.{number_of, class_said}
use Rattle.mrc_wiring.specs.Resolving.{verb_said, resolved}
use Rattle.mrc_wiring_laws.specs.GivenLines.{IsOfLines}

-- a `trust` line
abbrev pub is_trust : WiringSays → Bool
is_trust (Trust task verb right) = true
is_trust other = false

-- the `trust` lines, in their order
abbrev pub trust_lines : List (Line WiringSays) → List (Line WiringSays)
trust_lines lines = filter (λ (line : Line WiringSays). is_trust line.says) lines

-- the right that a `trust` line names, on the class that it names; or none
abbrev pub IsRightOf : Table → Option TrustedRight → Option NumberedRight → Type 0
IsRightOf table None right = right ≡ None
IsRightOf table (Some on) right =
    (named : NumberedClass)
    × (right ≡ Some (record { right = on.right; class = named }))
    × (class_said table.names table.ports table.births on.class ≡ Some named)

-- a `trust` line by numbers: that of the line, the verb of its word, that of the task, and the
-- right on a class that the line names, or none
pub record IsTrustOf (table : Table) (line : Line WiringSays) (trusted : TrustedLine) : Type 0 where
  pub task : List ℕ
  pub word : TrustVerb
  pub right : Option TrustedRight
  pub says : line.says ≡ Trust task word right
  pub line_is : trusted.line ≡ line.number
  pub verb_is : trusted.verb ≡ verb_said word
  pub task_is : number_of table.names task ≡ Some trusted.task
  pub right_is : IsRightOf table right trusted.right

-- there is one of these for each `trust` line, in the order of the lines
pub record AreTrustsOf (table : Table) (lines : List (Line WiringSays)) : Type 0 where
  pub many : length table.trusts ≡ length (trust_lines lines)
  pub each : (i : ℕ) (line : Line WiringSays) (trusted : TrustedLine)
      → slice_get (trust_lines lines) i ≡ Some line
      → slice_get table.trusts i ≡ Some trusted
      → IsTrustOf table line trusted

-- one of the lines is `replies fit`
abbrev pub HasFitLine : List (Line WiringSays) → Type 0
HasFitLine lines = (line : Line WiringSays) × IsIn line lines × (line.says ≡ RepliesFit)

-- reply ports have to fit if and only if one of the lines is `replies fit`, and no two lines are
pub record FitsOf (table : Table) (lines : List (Line WiringSays)) : Type 0 where
  pub said : (table.fits ≡ true) ↔ HasFitLine lines
  pub once : (i j : ℕ) (one other : Line WiringSays)
      → slice_get lines i ≡ Some one
      → slice_get lines j ≡ Some other
      → one.says ≡ RepliesFit
      → other.says ≡ RepliesFit
      → i ≡ j

-- the table of these lines, over these interfaces, has also what they say of trusted tasks and of
-- reply ports
pub record IsOfTrustLines (interfaces : List Interface) (lines : List (Line WiringSays))
    (table : Table) : Type 0 where
  pub given : IsOfLines interfaces lines table
  pub trusts : AreTrustsOf table lines
  pub fits : FitsOf table lines

-- What lines mean is a table of these lines.
abbrev pub TrustsAreOfLines : Type 0
TrustsAreOfLines =
    (edition : Edition) (interfaces : List Interface) (lines : List (Line WiringSays))
    (table : Table)
    → resolved edition interfaces lines ≡ Ok table
    → IsOfTrustLines interfaces lines table

-- Two tables of the same lines say the same of trusted tasks and of reply ports.
abbrev pub TrustsOfLinesAreOne : Type 0
TrustsOfLinesAreOne =
    (interfaces : List Interface) (lines : List (Line WiringSays)) (one other : Table)
    → IsOfTrustLines interfaces lines one
    → IsOfTrustLines interfaces lines other
    → (one.trusts ≡ other.trusts) × (one.fits ≡ other.fits)
