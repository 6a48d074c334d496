-- What is known of a row that is read: nothing objects to it, and its id is one of a file's.
use Rattle.std.proofs.Common.{◌≡◌, ◌≤◌, ◌<◌, ℕ, Bool, true, false, List, length, Option, Some, None}
use Rattle.std.proofs.Common.{refl, arith, if◌then◌else◌}
use Rattle.std.specs.Prelude.{nat_lt, nat_le}
use Rattle.std.proofs.lemmas.Bool.{leb-false, ltb-false}
use Rattle.mrc_base.specs.Limits.{limit_of_ids, limit_of_number}
use Rattle.mrc_mig_bodies.specs.declared.objections.Objection.{Objection}
use Rattle.mrc_mig_bodies.specs.Bodies.{Item}
use Rattle.mrc_mig_tokens.specs.Tokens.{Token}
use Rattle.mrc_mig_tokens.specs.Reading.{tail_of}
use Rattle.mrc_mig_rows.specs.declared.kinds.RowKind.{RowKind}
use Rattle.mrc_mig_rows.specs.declared.kinds.RowKind.TheVariants as rows
use Rattle.mrc_mig_rows.specs.declared.words.RowWord.{RowWord}
use Rattle.mrc_mig_rows.specs.declared.words.RowWord.TheVariants as words
use Rattle.mrc_mig_rows.specs.declared.words.Told.{Told}
use Rattle.mrc_mig_rows.specs.Kinds.{is_old, routine_kind}
use Rattle.mrc_mig_rows.specs.Parts.{View, read_before, stop_of, view_at}
use Rattle.mrc_mig_rows.specs.Rows.{Outcome, IsRead, IsLeftOut, Where, or_told, told_at, told_of}
use Rattle.mrc_mig_rows.specs.Rows.{judged_at, objection_of, name_told_by, name_at, read_of}
use Rattle.mrc_mig_rows.specs.Rows.{outcome_by, outcome_at, row_at}
use Rattle.mrc_mig_rows.specs.Words.{early_word, first_told, last_id}
use Rattle.mrc_mig_forms.specs.Bounds.{BodyFits}
use Rattle.mrc_mig_forms.proofs.BodyLemmas.{few_arguments, request_fits, reply_fits}

-- neither of two words
neither : (one other : Option Told) → or_told one other ≡ None → (one ≡ None) × (other ≡ None)
neither None other e = (refl, e)
neither (Some told) other e = absurd cc

no_word : (word : Option RowWord) (place : ℕ) → told_at word place ≡ None → word ≡ None
no_word None place e = refl
no_word (Some word) place e = absurd cc

-- a choice of two words is a word
chosen : (b : Bool) (one other : Told) → (if b then Some one else Some other) ≡ None → ⊥
chosen true one other e = cc
chosen false one other e = cc

no_objection : (stop : Option ℕ) (found : Option Objection) → first_told stop found ≡ None
    → found ≡ None
no_objection stop None e = refl
no_objection None (Some found) e = absurd cc
no_objection (Some place) (Some found) e = absurd (chosen (nat_le found.at place) _ _ e)

-- an id at which no word comes early
early_by : (kind : RowKind) (taken id : ℕ) (b c : Bool) → nat_le limit_of_ids taken ≡ b
    → nat_lt limit_of_number (last_id kind id) ≡ c
    → (if b then Some words.TooMany else if c then Some words.IdRange
    else if is_old kind then Some words.OldForm else None) ≡ None
    → (taken < limit_of_ids) × (last_id kind id ≤ limit_of_number)
early_by kind taken id true c many large e = absurd cc
early_by kind taken id false true many large e = absurd cc
early_by kind taken id false false many large e =
    (leb-false limit_of_ids taken many, ltb-false limit_of_number (last_id kind id) large)

-- a row's own id is not above its last
own_id : (kind : RowKind) (id : ℕ) → last_id kind id ≤ limit_of_number → id ≤ limit_of_number
own_id rows.Routine id le = omega (arith, le)
own_id rows.SimpleRoutine id le = le
own_id rows.Procedure id le = le
own_id rows.SimpleProcedure id le = le
own_id rows.Function id le = le

-- what is known of a row that is read
pub record Reads (taken id : ℕ) (request reply : List Item) : Type 0 where
  pub few : taken < limit_of_ids
  pub within : id ≤ limit_of_number
  pub asks : BodyFits request
  pub replies : BodyFits reply

abbrev pub ReadsBy : ℕ → ℕ → Outcome → Type 0
ReadsBy taken id (IsRead answered request reply) = Reads taken id request reply
ReadsBy taken id (IsLeftOut told carried) = Unit {0}

-- where no word is told, what is read fits
unfolded : (known : Where) (kind : RowKind) (tokens : List Token) (view : View)
    → told_of known kind tokens view ≡ None
    → ReadsBy known.taken known.id (read_of known.by kind view)
unfolding told_of judged_at objection_of read_of
unfolded known kind tokens view none =
    let (early, later) = neither (told_at (early_word kind known.taken known.id) (length tokens))
    (judged_at known kind (tail_of tokens) view) none in
    let (few, last) = early_by kind known.taken known.id (nat_le limit_of_ids known.taken)
    (nat_lt limit_of_number (last_id kind known.id)) refl refl
    (no_word (early_word kind known.taken known.id) (length tokens) early) in
    let quiet = no_objection (stop_of view) (objection_of kind known.by view)
    (neither (name_told_by known.names (name_at (tail_of tokens)) (length (tail_of tokens)))
    (first_told (stop_of view) (objection_of kind known.by view)) later).1 in
    let short = few_arguments (routine_kind kind) known.by.request (length view.end)
    (read_before view.pieces) quiet in
    record {
      few = few;
      within = own_id kind known.id last;
      asks = request_fits (routine_kind kind) known.by.request (read_before view.pieces) short;
      replies = reply_fits (routine_kind kind) known.by.reply (read_before view.pieces) short;
    }

by_told : (known : Where) (kind : RowKind) (tokens : List Token) (view : View)
    (found : Option Told) → told_of known kind tokens view ≡ found
    → ReadsBy known.taken known.id (outcome_by found known kind tokens view)
by_told known kind tokens view None e = unfolded known kind tokens view e
by_told known kind tokens view (Some told) e = tt

-- a row at its place
pub row_reads : (known : Where) (kind : RowKind) (tokens : List Token)
    → ReadsBy known.taken known.id (row_at known kind tokens).outcome
unfolding row_at outcome_at
row_reads known kind tokens =
    let view = view_at known.types (tail_of tokens) in
    by_told known kind tokens view (told_of known kind tokens view) refl

pub row_takes : (known : Where) (kind : RowKind) (tokens : List Token)
    → (row_at known kind tokens).id ≡ known.id
unfolding row_at
row_takes known kind tokens = refl
