-- Step. What trusted tasks may do by each verb, as rows of bits: a row for each verb and task that
-- a line names. It has a part for each right, a row of classes. This profile's own choice.
use Rattle.std.specs.Prelude.{ℕ, ◌+◌, ◌*◌, List, map, Option, Vec}
use Rattle.std.specs.Option.{option_map}
use Rattle.std.specs.declared.alloc.Global.{Global}
use Rattle.mrc_base.specs.declared.PortRight.{PortRight}
use Rattle.mrc_base.specs.declared.PortRight.TheVariants.{Send, Receive, SendOnce}
use Rattle.mrc_model.specs.declared.Verb.{Verb}
use Rattle.mrc_model.specs.declared.Verb.TheVariants.{Takes, Gives, Sends, Replies}
use Rattle.mrc_model.specs.Wiring.{TrustLine}
use Rattle.mrc_wiring.specs.declared.births.BirthRow.{BirthRow}
use Rattle.mrc_wiring.specs.declared.table.TrustedLine.{TrustedLine}
use Rattle.mrc_wiring.specs.Admitting.{class_words}
use Rattle.mrc_wiring.specs.Marks.{AreMarked}
use Rattle.mrc_wiring.specs.Table.{trusted_by}

-- how many words a row has: those of a row of classes for each right
abbrev pub right_words : ℕ
right_words = 3 * class_words

-- how many classes the part of a right has room for: as many as a wiring can have
abbrev pub limit_of_classes : ℕ
limit_of_classes = 64 * class_words

-- the number of a right: which part of a row is for it
abbrev pub right_number : PortRight → ℕ
right_number Send = 0
right_number Receive = 1
right_number SendOnce = 2

-- the place of a right on a class
abbrev pub right_place : PortRight → ℕ → ℕ
right_place right class = limit_of_classes * right_number right + class

-- the number of a verb
abbrev pub verb_number : Verb → ℕ
verb_number Takes = 0
verb_number Gives = 1
verb_number Sends = 2
verb_number Replies = 3

-- the row of a verb and a task
abbrev pub trust_row : Verb → ℕ → ℕ
trust_row v t = 4 * t + verb_number v

-- the place of a right on a class
abbrev pub place_on : PortRight × ℕ → ℕ
place_on on = right_place on.0 on.1

-- what a line marks: in the row of its verb and task the right on the class, or nothing
abbrev pub trust_mark : TrustLine → ℕ × Option ℕ
trust_mark line = (trust_row line.verb line.task, option_map place_on line.right)

-- what lines mark if there are so many ports and tasks, and these births
abbrev pub trust_marks : ℕ → ℕ → List BirthRow → List TrustedLine → List (ℕ × Option ℕ)
trust_marks ports tasks births lines =
    map (λ (line : TrustedLine). trust_mark (trusted_by ports tasks births line)) lines

-- the rows of these lines
abbrev pub IsTrusting : ℕ → ℕ → List BirthRow → List TrustedLine → List (Vec ℕ Global) → Type 0
IsTrusting ports tasks births lines rows =
    AreMarked right_words (3 * limit_of_classes) (trust_marks ports tasks births lines) rows
