-- What holds of the rows of each file: their ids are among those of the file, no row has the id of
-- one that is read, and the bodies of those that are read fit a form.
use Rattle.std.proofs.Common.{◌≡◌, ◌≤◌, ◌<◌, ◌⊎◌, ℕ, zero, suc, min, Bool, true, false, List, []}
use Rattle.std.proofs.Common.{◌∷◌}
use Rattle.std.proofs.Common.{◌++◌, length, Option, Some, None, Result, Ok, refl, ap, sym, subst}
use Rattle.std.proofs.Common.{◌∙◌, arith, inl, inr, if◌then◌else◌}
use Rattle.mrc_base.specs.Limits.{limit_of_ids, limit_of_number}
use Rattle.mrc_base.specs.Reading.{◌>>=◌}
use Rattle.mrc_base.proofs.Steps.{bind_ok, ok_is}
use Rattle.mrc_model.specs.IsIn.{IsIn, here, later}
use Rattle.mrc_model.proofs.Members.{in_append}
use Rattle.mrc_mig_symbols.specs.declared.fault.Stop.{Stop}
use Rattle.mrc_mig_tokens.specs.declared.symbol.Symbol.{Symbol}
use Rattle.mrc_mig_tokens.specs.declared.symbol.Symbol.TheVariants as symbols
use Rattle.mrc_mig_tokens.specs.Reading.{first_of, tail_of, many}
use Rattle.mrc_mig_tokens.specs.Tokens.{Token}
use Rattle.mrc_mig_rows.specs.declared.kinds.RowKind.{RowKind}
use Rattle.mrc_mig_rows.specs.declared.kinds.StatementKind.{StatementKind}
use Rattle.mrc_mig_rows.specs.declared.kinds.StatementKind.TheVariants as kinds
use Rattle.mrc_mig_rows.specs.Declarations.{Unread, declaration_at}
use Rattle.mrc_mig_rows.specs.Ends.{statement_end}
use Rattle.mrc_mig_rows.specs.Files.{State, nothing_said, sum_of_ids, with_heading, with_skip}
use Rattle.mrc_mig_rows.specs.Files.{with_unread, with_type, known_there, behind_row, with_row}
use Rattle.mrc_mig_rows.specs.Files.{statement_by, one_by, one_at, goes_on, statements_at, FileSays}
use Rattle.mrc_mig_rows.specs.Files.{file_by, file_at}
use Rattle.mrc_mig_rows.specs.Headings.{Subsystem, heading_at, skip_at}
use Rattle.mrc_mig_rows.specs.Kinds.{statement_kind}
use Rattle.mrc_mig_rows.specs.Rows.{RowSays, Outcome, IsRead, IsLeftOut, row_at}
use Rattle.mrc_mig_types.specs.Table.{Known}
use Rattle.mrc_mig_forms.specs.Bounds.{RowFits, OutcomeFits}
use Rattle.mrc_mig_forms.specs.Files.{IsSaid, is_read}
use Rattle.mrc_mig_forms.proofs.RowLemmas.{ReadsBy, row_reads, row_takes}

-- a row took its id when so many ids were taken
record Stands (base taken : ℕ) (row : RowSays) : Type 0 where
  before : ℕ
  at : row.id ≡ sum_of_ids base before
  less : sum_of_ids before 1 ≤ sum_of_ids taken 0
  reads : ReadsBy before row.id row.outcome

-- no row has the id of another one that is read
abbrev pub AreOwn : List RowSays → Type 0
AreOwn rows =
    (row other : RowSays) → IsIn row rows → IsIn other rows → is_read row.outcome ≡ true
    → row.id ≡ other.id → row ≡ other

record Holds (base taken : ℕ) (rows : List RowSays) : Type 0 where
  each : (row : RowSays) → IsIn row rows → Stands base taken row
  own : AreOwn rows

-- of no rows
of_none : (base taken : ℕ) → Holds base taken []
of_none base taken = record { each = λ row h. elim h [ ]; own = λ row other h. elim h [ ] }

-- later more ids are taken
stands_later : (base taken more : ℕ) (row : RowSays) → Stands base taken row
    → Stands base (sum_of_ids taken more) row
stands_later base taken more row s = record {
  before = s.before;
  at = s.at;
  less = let le = s.less in omega (arith, le);
  reads = s.reads;
}

holds_later : (base taken more : ℕ) (rows : List RowSays) → Holds base taken rows
    → Holds base (sum_of_ids taken more) rows
holds_later base taken more rows h = record {
  each = λ row stands. stands_later base taken more row (h.each row stands);
  own = h.own;
}

-- what is known of a row that is read
read_is : (taken id : ℕ) (outcome : Outcome) → is_read outcome ≡ true → ReadsBy taken id outcome
    → (taken < limit_of_ids) × (id ≤ limit_of_number)
read_is taken id (IsRead answered request reply) e reads = (reads.few, reads.within)
read_is taken id (IsLeftOut told carried) e reads = absurd cc

-- the ids of an earlier and a later row, of which one is read
early_read : (base taken t id next : ℕ) → id ≡ sum_of_ids base t
    → sum_of_ids t 1 ≤ sum_of_ids taken 0 → t < limit_of_ids → id ≤ limit_of_number
    → next ≡ sum_of_ids base taken → id ≡ next → ⊥
early_read base taken t id next is less few within behind same =
    omega (arith, is, less, few, within, behind, same)

late_read : (base taken t id next : ℕ) → id ≡ sum_of_ids base t
    → sum_of_ids t 1 ≤ sum_of_ids taken 0 → taken < limit_of_ids → next ≤ limit_of_number
    → next ≡ sum_of_ids base taken → next ≡ id → ⊥
late_read base taken t id next is less few within behind same =
    omega (arith, is, less, few, within, behind, same)

-- the one element of a list
only_one : {X : Type 0} (x y : X) → IsIn x (y ∷ []) → x ≡ y
only_one x y (here) = refl
only_one x y (later h) = elim h [ ]

-- one row more
with_one : (base taken : ℕ) (rows : List RowSays) (row : RowSays) → Holds base taken rows
    → row.id ≡ sum_of_ids base taken → ReadsBy taken row.id row.outcome
    → Holds base (sum_of_ids taken 1) (rows ++ row ∷ [])
with_one base taken rows row h at reads = record {
  each = λ r stands. elim (in_append r rows (row ∷ []) stands) [
    | inl old ↦ stands_later base taken 1 r (h.each r old)
    | inr new ↦ subst (Stands base (sum_of_ids taken 1)) (sym (only_one r row new)) newest
  ];
  own = λ r s r_in s_in is_read_r same. own r s (in_append r rows (row ∷ []) r_in)
      (in_append s rows (row ∷ []) s_in) is_read_r same;
}
  where
    newest : Stands base (sum_of_ids taken 1) row
    newest = record { before = taken; at = at; less = omega arith; reads = reads }

    own : (r s : RowSays) → IsIn r rows ⊎ IsIn r (row ∷ []) → IsIn s rows ⊎ IsIn s (row ∷ [])
        → is_read r.outcome ≡ true → r.id ≡ s.id → r ≡ s
    own r s (inl r_old) (inl s_old) is same = h.own r s r_old s_old is same
    own r s (inl r_old) (inr s_new) is same =
        let stands = h.each r r_old in
        let known = read_is stands.before r.id r.outcome is stands.reads in
        absurd (early_read base taken stands.before r.id row.id stands.at stands.less known.0
        known.1 at (same ∙ ap (λ (x : RowSays). x.id) (only_one s row s_new)))
    own r s (inr r_new) (inl s_old) is same =
        let stands = h.each s s_old in
        let one : r ≡ row = only_one r row r_new in
        let known = read_is taken row.id row.outcome
        (sym (ap (λ (x : RowSays). is_read x.outcome) one) ∙ is) reads in
        absurd (late_read base taken stands.before s.id row.id stands.at stands.less known.0 known.1
        at (sym (ap (λ (x : RowSays). x.id) one) ∙ same))
    own r s (inr r_new) (inr s_new) is same = only_one r row r_new ∙ sym (only_one s row s_new)

-- what holds of what statements say: before the subsystem there are no rows
abbrev HoldsBy : Option Subsystem → ℕ → List RowSays → Type 0
HoldsBy None taken rows = rows ≡ []
HoldsBy (Some heading) taken rows = Holds heading.base taken rows

abbrev StateHolds : State → Type 0
StateHolds state = HoldsBy state.heading state.taken state.rows

-- a statement of each kind keeps that

heading_kept : (state next : State) (tokens : List Token) (heading : Option Subsystem)
    → HoldsBy heading state.taken state.rows → with_heading heading state tokens ≡ Ok next
    → StateHolds next
heading_kept state next tokens (Some found) h e = absurd cc
heading_kept state next tokens None h e =
    let (found, is, made) = bind_ok (heading_at (tail_of tokens))
    (λ heading. Ok (record state { heading = Some heading })) next e in
    subst StateHolds (ok_is (record state { heading = Some found }) next made)
    (subst (Holds found.base state.taken) (sym h) (of_none found.base state.taken))

unread_kept : (state : State) (types : Known) (unread : Option Unread) → StateHolds state
    → StateHolds (with_unread state types unread)
unread_kept state types None h = h
unread_kept state types (Some unread) h = h

type_kept : (state next : State) (tokens : List Token) → StateHolds state
    → with_type state tokens ≡ Ok next → StateHolds next
type_kept state next tokens h e =
    let (found, is, made) = bind_ok (declaration_at state.types tokens)
    (λ found. Ok (with_unread state found.0 found.1)) next e in
    subst StateHolds (ok_is (with_unread state found.0 found.1) next made)
    (unread_kept state found.0 found.1 h)

skip_kept : (state next : State) (tokens : List Token) (heading : Option Subsystem)
    → state.heading ≡ heading → HoldsBy heading state.taken state.rows
    → with_skip heading state tokens ≡ Ok next → StateHolds next
skip_kept state next tokens None same h e = absurd cc
skip_kept state next tokens (Some heading) same h e =
    let (count, is, made) = bind_ok (skip_at (tail_of tokens))
    (λ count. Ok (record state { taken = sum_of_ids state.taken count })) next e in
    subst StateHolds (ok_is (record state { taken = sum_of_ids state.taken count }) next made)
    (subst (λ (o : Option Subsystem). HoldsBy o (sum_of_ids state.taken count) state.rows)
    (sym same) (holds_later heading.base state.taken count state.rows h))

row_kept : (received : Bool) (state next : State) (kind : RowKind) (tokens : List Token)
    (heading : Option Subsystem) → state.heading ≡ heading
    → HoldsBy heading state.taken state.rows
    → with_row heading received state kind tokens ≡ Ok next → StateHolds next
row_kept received state next kind tokens None same h e = absurd cc
row_kept received state next kind tokens (Some heading) same h e =
    let known = known_there heading received state in
    let row = row_at known kind tokens in
    subst StateHolds (ok_is (behind_row heading received state kind tokens) next e)
    (subst (λ (o : Option Subsystem).
    HoldsBy o (sum_of_ids state.taken 1) (state.rows ++ row ∷ [])) (sym same)
    (with_one heading.base state.taken state.rows row h (row_takes known kind tokens)
    (subst (λ (id : ℕ). ReadsBy state.taken id row.outcome) (sym (row_takes known kind tokens))
    (row_reads known kind tokens))))

statement_kept : (kind : Option StatementKind) (received : Bool) (state next : State)
    (tokens : List Token) → StateHolds state
    → statement_by kind received state tokens ≡ Ok next → StateHolds next
statement_kept None received state next tokens h e = absurd cc
statement_kept (Some kinds.Subsystem) received state next tokens h e =
    heading_kept state next tokens state.heading h e
statement_kept (Some kinds.Type) received state next tokens h e = type_kept state next tokens h e
statement_kept (Some (kinds.Row kind)) received state next tokens h e =
    row_kept received state next kind tokens state.heading refl h e
statement_kept (Some kinds.Skip) received state next tokens h e =
    skip_kept state next tokens state.heading refl h e
statement_kept (Some kinds.Passed) received state next tokens h e =
    subst StateHolds (ok_is state next e) h

-- and so does a statement or an include line
either_kept : (received : Bool) (state : State) (tokens : List Token) (next : State × List Token)
    → StateHolds state
    → (statement_end tokens >>= λ behind.
    statement_by (statement_kind tokens) received state tokens >>= λ said. Ok (said, behind))
    ≡ Ok next
    → StateHolds next.0
either_kept received state tokens next h e =
    let (behind, is, more) = bind_ok (statement_end tokens) (λ behind.
    statement_by (statement_kind tokens) received state tokens >>= λ said. Ok (said, behind)) next e
    in
    let (said, stated, made) = bind_ok (statement_by (statement_kind tokens) received state tokens)
    (λ said. Ok (said, behind)) next more in
    subst (λ (x : State × List Token). StateHolds x.0) (ok_is (said, behind) next made)
    (statement_kept (statement_kind tokens) received state said tokens h stated)

one_kept : (symbol : Symbol) (received : Bool) (state : State) (tokens : List Token)
    (next : State × List Token) → StateHolds state
    → one_by symbol received state tokens ≡ Ok next → StateHolds next.0
one_kept symbols.Include received state tokens next h e =
    subst (λ (x : State × List Token). StateHolds x.0) (ok_is _ next e) h
one_kept _ received state tokens next h e = either_kept received state tokens next h e

-- what each step keeps holds in the end
many_keep : {A : Type 0} (P : A → Type 0) (goes : A → Bool) (step : A → Result A Stop)
    → ((x y : A) → P x → step x ≡ Ok y → P y)
    → (n : ℕ) (a b : A) → P a → many goes step n a ≡ Ok b → P b
unfolding many
many_keep P goes step keeps zero a b is e = subst P (ok_is a b e) is
many_keep {A = A} P goes step keeps (suc n) a b is e =
    by (goes a) (λ x kept done. many_keep P goes step keeps n x b kept done) e
  where
    by : (test : Bool) → ((x : A) → P x → many goes step n x ≡ Ok b → P b)
        → (if test then (step a >>= λ x. many goes step n x) else Ok a) ≡ Ok b → P b
    by false on f = subst P (ok_is a b f) is
    by true on f = let (x, stepped, others) = bind_ok (step a) (λ x. many goes step n x) b f in
        on x (keeps a x is stepped) others

all_kept : (received : Bool) (tokens : List Token) (end : State × List Token)
    → statements_at received tokens ≡ Ok end → StateHolds end.0
unfolding statements_at one_at
all_kept received tokens end e =
    many_keep (λ (at : State × List Token). StateHolds at.0) goes_on (one_at received)
    (λ at next h stepped. one_kept (first_of at.1) received at.0 at.1 next h stepped)
    (length tokens) (nothing_said, tokens) end refl e

-- a row that is read takes one of the file's ids
fits_by : (base taken : ℕ) (row : RowSays) (outcome : Outcome) (before : ℕ)
    → row.id ≡ sum_of_ids base before → sum_of_ids before 1 ≤ sum_of_ids taken 0
    → ReadsBy before row.id outcome
    → OutcomeFits base (min taken limit_of_ids) row.id outcome
fits_by base taken row (IsLeftOut told carried) before at less reads = tt
fits_by base taken row (IsRead answered request reply) before at less reads =
    let few = reads.few in
    let within = reads.within in
    record {
      above = omega (arith, at, less, few, within);
      below = omega (arith, at, less, few, within);
      within = within;
      asks = reads.asks;
      replies = reads.replies;
    }

-- what holds of each file
pub record FileHolds (file : FileSays) : Type 0 where
  pub fits : (row : RowSays) → IsIn row file.rows → RowFits file.heading.base file.ids row
  pub own : AreOwn file.rows
  pub few : file.ids ≤ limit_of_ids

file_by_holds : (heading : Option Subsystem) (state : State) (file : FileSays)
    → HoldsBy heading state.taken state.rows → file_by heading state ≡ Ok file → FileHolds file
file_by_holds None state file h e = absurd cc
file_by_holds (Some heading) state file h e =
    let said : FileSays = record {
      heading = heading;
      ids = min state.taken limit_of_ids;
      rows = state.rows;
      unread = state.unread;
    } in
    subst FileHolds (ok_is said file e) (record {
      fits = λ row there. let s = h.each row there in
          fits_by heading.base state.taken row row.outcome s.before s.at s.less s.reads;
      own = h.own;
      few = omega arith;
    })

pub file_holds : (file : FileSays) → IsSaid file → FileHolds file
unfolding file_at
file_holds file (received, tokens, e) =
    let (end, stated, made) = bind_ok (statements_at received tokens)
    (λ end. file_by end.0.heading end.0) file e in
    file_by_holds end.0.heading end.0 file (all_kept received tokens end stated) made
