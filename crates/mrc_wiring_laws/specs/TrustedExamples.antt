-- Worked. Which lines of a wiring the trusts of its table are of, and which line says that reply
-- ports have to fit.
use Rattle.std.specs.Prelude.{◌≡◌, ◌==◌, ℕ, true, false, List, [], ◌∷◌, map, Some, None, Ok}
use Rattle.std.specs.Prelude.{refl, codes}
use Rattle.std.proofs.Common.{ap, sym}
use Rattle.std.proofs.lemmas.Bool.{false≢true}
use Rattle.mrc_base.specs.declared.PortRight.TheVariants.{Send}
use Rattle.mrc_model.specs.IsIn.{here, later}
use Rattle.mrc_model.specs.declared.FirstLine.TheVariants.{Task as TaskLine}
use Rattle.mrc_model.specs.declared.Verb.TheVariants as verbs
use Rattle.mrc_wiring_text.specs.declared.reading.Edition.TheVariants.{Third}
use Rattle.mrc_wiring_text.specs.declared.reading.Line.{Line}
use Rattle.mrc_wiring_text.specs.declared.policy.ClassName.TheVariants as class
use Rattle.mrc_wiring_text.specs.declared.trust.TrustVerb.TheVariants as words
use Rattle.mrc_wiring_text.specs.declared.trust.TrustedRight.{TrustedRight}
use Rattle.mrc_wiring_text.specs.declared.wiring.WiringSays.{WiringSays}
use Rattle.mrc_wiring_text.specs.declared.wiring.WiringSays.TheVariants as says
use Rattle.mrc_wiring.specs.declared.names.ClassKind.TheVariants as kinds
use Rattle.mrc_wiring.specs.declared.table.TrustedLine.{TrustedLine}
use Rattle.mrc_wiring.specs.Births.{put_row, new_row, said_row}
use Rattle.mrc_wiring.specs.Table.{Table}
use Rattle.mrc_wiring.specs.Resolving.{resolved, add_task, add_births, place_births, add_trust}
use Rattle.mrc_wiring.specs.Resolving.{add_fit, verb_said}
use Rattle.mrc_wiring_laws.specs.TrustedLines.{trust_lines, IsTrustOf, HasFitLine, FitsOf}

abbrev line : ℕ → WiringSays → Line WiringSays
line n what = record { number = n; says = what }

-- a send right on births of the second kind of a
abbrev send_second : TrustedRight
send_second = record { right = Send; class = class.Births (codes "a") 2 }

-- trust b takes send births a 2; trust b replies none; replies fit
abbrev takes : Line WiringSays
takes = line 5 (says.Trust (codes "b") words.Takes (Some send_second))

abbrev replies : Line WiringSays
replies = line 7 (says.Trust (codes "b") words.Replies None)

abbrev fit : Line WiringSays
fit = line 6 says.RepliesFit

-- task a; births a 2 accepts; task b; trust b ..; replies fit; trust b ..; births a 1 accepts
abbrev mixed : List (Line WiringSays)
mixed =
    line 2 (says.Task (codes "a"))
    ∷ line 3 (says.Births (codes "a") 2 [])
    ∷ line 4 (says.Task (codes "b"))
    ∷ takes
    ∷ fit
    ∷ replies
    ∷ line 8 (says.Births (codes "a") 1 []) ∷ []

-- task 1 takes send rights on the births of kind 2 of task 0, and names no port for replies
abbrev taken : TrustedLine
taken = record {
  line = 5;
  verb = verbs.Takes;
  task = 1;
  right = Some record { right = Send; class = record { kind = kinds.Births 2; number = 0 } };
}

abbrev no_replies : TrustedLine
no_replies = record { line = 7; verb = verbs.Replies; task = 1; right = None }

abbrev table : Table
table = record {
  names = codes "a" ∷ codes "b" ∷ [];
  births = new_row 0 0 ∷ said_row 0 1 [] ∷ said_row 0 2 [] ∷ new_row 1 0 ∷ [];
  ports = [];
  accepts = [];
  lines = TaskLine ∷ TaskLine ∷ [];
  admits = [];
  trusts = taken ∷ no_replies ∷ [];
  fits = true;
  interfaces = [];
}

pub lines_mean_it : resolved Third [] mixed ≡ Ok table
unfolding add_task add_births place_births put_row add_trust add_fit
lines_mean_it = refl

pub two_lines_trust : trust_lines mixed ≡ takes ∷ replies ∷ []
two_lines_trust = refl

-- each word names its verb
pub words_are_verbs :
    map verb_said (words.Takes ∷ words.Gives ∷ words.Sends ∷ words.Replies ∷ [])
    ≡ verbs.Takes ∷ verbs.Gives ∷ verbs.Sends ∷ verbs.Replies ∷ []
words_are_verbs = refl

-- the two `trust` lines
pub takes_is_trusted : IsTrustOf table takes taken
takes_is_trusted = record {
  task = codes "b";
  word = words.Takes;
  right = Some send_second;
  says = refl;
  line_is = refl;
  verb_is = refl;
  task_is = refl;
  right_is = (record { kind = kinds.Births 2; number = 0 }, refl, refl);
}

pub replies_is_trusted : IsTrustOf table replies no_replies
replies_is_trusted = record {
  task = codes "b";
  word = words.Replies;
  right = None;
  says = refl;
  line_is = refl;
  verb_is = refl;
  task_is = refl;
  right_is = refl;
}

-- a row with the number of another line is not of this one
pub number_is_needed : IsTrustOf table takes (record taken { line = 6 }) → ⊥
number_is_needed is = false≢true (ap (λ (n : ℕ). n == 5) is.line_is)

-- the line that says that reply ports have to fit
pub fit_is_said : HasFitLine mixed
fit_is_said = (fit, later (later (later (later here))), refl)

-- a table by which they need not is not of these lines
pub fit_is_needed : FitsOf (record table { fits = false }) mixed → ⊥
fit_is_needed is = false≢true (is.said.1 fit_is_said)

-- and no table is of lines that say it twice
pub fit_is_said_once : FitsOf table (fit ∷ fit ∷ []) → ⊥
fit_is_said_once is =
    false≢true (sym (ap (λ (n : ℕ). n == 0) (is.once 0 1 fit fit refl refl refl refl)))
