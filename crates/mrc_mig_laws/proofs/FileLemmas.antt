-- A file is read exactly where its statements stand.
use Rattle.std.proofs.Common.{◌≡◌, ℕ, zero, suc, ◌-◌, ◌<◌, ◌≤◌, Bool, true, false, List, [], ◌∷◌}
use Rattle.std.proofs.Common.{◌++◌, length, Option, Some, None, Ok, refl, sym, ap, ◌∙◌}
use Rattle.std.proofs.Common.{subst, arith, length-append}
use Rattle.std.specs.Prelude.{min}
use Rattle.mrc_base.specs.Limits.{limit_of_ids}
use Rattle.mrc_base.specs.Reading.{◌>>=◌}
use Rattle.mrc_mig_tokens.specs.declared.symbol.Symbol.{Symbol}
use Rattle.mrc_mig_tokens.specs.declared.symbol.Symbol.TheVariants as symbols
use Rattle.mrc_mig_tokens.specs.Reading.{first_of, tail_of, many}
use Rattle.mrc_mig_tokens.specs.Tokens.{Token}
use Rattle.mrc_mig_tokens.proofs.LoopLemmas.{many_ends}
use Rattle.mrc_mig_types.specs.Specs.{Is}
use Rattle.mrc_mig_types.specs.Table.{included}
use Rattle.mrc_mig_types.proofs.PhraseLemmas.{front, goes_to, in_two, same_Ok, first_is, tail_is}
use Rattle.mrc_mig_types.proofs.PhraseLemmas.{many_step}
use Rattle.mrc_mig_rows.specs.declared.kinds.RowKind.{RowKind}
use Rattle.mrc_mig_rows.specs.declared.kinds.StatementKind.{StatementKind}
use Rattle.mrc_mig_rows.specs.declared.kinds.StatementKind.TheVariants as kinds
use Rattle.mrc_mig_rows.specs.Declarations.{Unread, declaration_at}
use Rattle.mrc_mig_rows.specs.Ends.{statement_end}
use Rattle.mrc_mig_rows.specs.Files.{State, nothing_said, sum_of_ids, with_heading, with_skip}
use Rattle.mrc_mig_rows.specs.Files.{with_type}
use Rattle.mrc_mig_rows.specs.Files.{with_unread, names_with, known_there, behind_row, with_row}
use Rattle.mrc_mig_rows.specs.Files.{statement_by, one_by, one_at, goes_on, statements_at, FileSays}
use Rattle.mrc_mig_rows.specs.Files.{file_by, file_at}
use Rattle.mrc_mig_rows.specs.Headings.{Subsystem, heading_at, skip_at}
use Rattle.mrc_mig_rows.specs.Kinds.{statement_kind}
use Rattle.mrc_mig_rows.specs.Rows.{Outcome, IsRead, IsLeftOut, RowSays, Where, name_by, name_at}
use Rattle.mrc_mig_rows.specs.Rows.{row_at}
use Rattle.mrc_mig_rows.specs.Statements.{is_opening, is_semicolon, is_other, IsInside, opening}
use Rattle.mrc_mig_rows.specs.Statements.{other}
use Rattle.mrc_mig_rows.specs.Statements.{IsStatement}
use Rattle.mrc_mig_rows.proofs.StatementLemmas.{read_is, is_read}
use Rattle.mrc_mig_laws.specs.FileGrammar.{IsRow, read, left_out}
use Rattle.mrc_mig_laws.specs.FileGrammar.{IsNext, subsystem, type, skip, row, passed}
use Rattle.mrc_mig_laws.specs.FileGrammar.{AreStatements}
use Rattle.mrc_mig_laws.specs.FileGrammar.{none, include_line, statement, IsFile}
use Rattle.mrc_mig_laws.specs.Laws.{FilesAreFound, FilesAreRead}
use Rattle.mrc_mig_laws.proofs.DeclarationLemmas.{declaration_is, declaration_read, is_name}
use Rattle.mrc_mig_laws.proofs.DeclarationLemmas.{name_is_name, has_name, has_no_name}
use Rattle.mrc_mig_laws.proofs.HeadingLemmas.{begins_with_word, heading_is, heading_read, skip_is}
use Rattle.mrc_mig_laws.proofs.HeadingLemmas.{skip_read}
use Rattle.mrc_mig_laws.specs.FileGrammar.{IsNamed, has, has_none}
use Rattle.mrc_mig_laws.proofs.RowLemmas.{name_stands}
use Rattle.mrc_mig_laws.proofs.RowLemmas.{read_rows_are, routines_are_read, left_out_are_none}

-- ---- rows

-- the name that is read is the one that stands there
no_name : (symbol : Symbol) (bytes : List ℕ) → is_name symbol ≡ false → name_by symbol bytes ≡ None
no_name symbols.Name bytes e = absurd cc
no_name _ bytes e = refl

none_there : (later : List Token) → is_name (first_of later) ≡ false → name_at later ≡ None
unfolding name_at
none_there later e = no_name (first_of later) _ e

named_by : (b : Bool) (word : Token) (later : List Token) → is_name (first_of later) ≡ b
    → IsNamed (word ∷ later) (name_at later)
named_by false word later e =
    subst (λ n. IsNamed (word ∷ later) n) (sym (none_there later e))
    (has_none (has_no_name later e))
named_by true word later e =
    let f = front symbols.Name later refl (name_is_name (first_of later) e) in
    subst (λ n. IsNamed (word ∷ later) n)
    (sym (name_stands later f.token (tail_of later) f.splits f.is))
    (subst (λ l. IsNamed (word ∷ l) (Some f.token.bytes)) (sym f.splits) (has f.is))

named_is : (word : Token) (later : List Token) → IsNamed (word ∷ later) (name_at later)
named_is word later = named_by (is_name (first_of later)) word later refl

named_read : {tokens : List Token} {name : Option (List ℕ)} → IsNamed tokens name
    → name_at (tail_of tokens) ≡ name
named_read (has {word} {named} {later} is) =
    ap (λ l. name_at l) (tail_is word (named ∷ later))
    ∙ name_stands (named ∷ later) named later refl is
named_read (has_none {word} {later} absent) =
    ap (λ l. name_at l) (tail_is word later) ∙ none_there later (has_name later absent)

-- what is read of a row without its outcome
record Told (known : Where) (kind : RowKind) (tokens : List Token) : Type 0 where
  name : (row_at known kind tokens).name ≡ name_at (tail_of tokens)
  id : (row_at known kind tokens).id ≡ known.id
  at : (row_at known kind tokens).at ≡ length tokens

told : (known : Where) (kind : RowKind) (tokens : List Token) → Told known kind tokens
unfolding row_at
told known kind tokens = record { name = refl; id = refl; at = refl }

same_row : (a b : RowSays) → a.name ≡ b.name → a.id ≡ b.id → a.at ≡ b.at
    → a.outcome ≡ b.outcome
    → let says : RowSays = record {
      name = b.name;
      id = b.id;
      at = b.at;
      outcome = b.outcome;
    } in a ≡ says
same_row a b name id at outcome = rw (← name, ← id, ← at, ← outcome) refl

row_by : (known : Where) (kind : RowKind) (word : Token) (later : List Token) (outcome : Outcome)
    → (row_at known kind (word ∷ later)).outcome ≡ outcome
    → IsRow known kind (word ∷ later) (row_at known kind (word ∷ later))
row_by known kind word later (IsRead request one more) e =
    read (read_rows_are known kind (word ∷ later) request one more e)
row_by known kind word later (IsLeftOut word_told carried) e =
    let t = told known kind (word ∷ later) in
    left_out (left_out_are_none known kind (word ∷ later) (word_told, carried, e))
    (subst (λ n. IsNamed (word ∷ later) n)
    (sym (t.name ∙ ap (λ l. name_at l) (tail_is word later))) (named_is word later))
    t.id t.at refl

-- what is read of a row is the row
row_is : (known : Where) (kind : RowKind) (word : Token) (later : List Token)
    → IsRow known kind (word ∷ later) (row_at known kind (word ∷ later))
row_is known kind word later =
    row_by known kind word later (row_at known kind (word ∷ later)).outcome refl

row_read : {known : Where} {kind : RowKind} {tokens : List Token} {says : RowSays}
    → IsRow known kind tokens says → row_at known kind tokens ≡ says
row_read {known} {kind} {tokens} {says} (read r) = routines_are_read known kind tokens says r
row_read {known} {kind} {tokens} {says} (left_out no_routine name id at outcome) =
    let t = told known kind tokens in
    same_row (row_at known kind tokens) says (t.name ∙ named_read name) (t.id ∙ sym id)
    (t.at ∙ sym at) (sym outcome)

-- ---- what one statement does is done

subsystem_does : (received : Bool) (word : Token) (later behind : List Token) (state next : State)
    (o : Option Subsystem) → statement_kind (word ∷ later) ≡ Some kinds.Subsystem
    → IsStatement (word ∷ later) behind → state.heading ≡ o
    → with_heading o state (word ∷ later) ≡ Ok next
    → IsNext received (word ∷ later) behind state next
subsystem_does received word later behind state next (Some old) kind stands is e = absurd cc
subsystem_does received word later behind state next None kind stands is e =
    let (heading, found, done) = in_two (heading_at (tail_of (word ∷ later))) _ next e in
    let there : heading_at later ≡ Ok heading =
    ap (λ l. heading_at l) (sym (tail_is word later)) ∙ found in
    subst (λ (s : State). IsNext received (word ∷ later) behind state s)
    (same_Ok (record state { heading = Some heading }) next done)
    (subsystem kind is (heading_is word later behind heading
    (begins_with_word word later kinds.Subsystem kind refl) stands there))

skip_does : (received : Bool) (word : Token) (later behind : List Token) (state next : State)
    (o : Option Subsystem) → statement_kind (word ∷ later) ≡ Some kinds.Skip
    → IsStatement (word ∷ later) behind → state.heading ≡ o
    → with_skip o state (word ∷ later) ≡ Ok next
    → IsNext received (word ∷ later) behind state next
skip_does received word later behind state next None kind stands is e = absurd cc
skip_does received word later behind state next (Some heading) kind stands is e =
    let (count, found, done) = in_two (skip_at (tail_of (word ∷ later))) _ next e in
    let there : skip_at later ≡ Ok count =
    ap (λ l. skip_at l) (sym (tail_is word later)) ∙ found in
    subst (λ (s : State). IsNext received (word ∷ later) behind state s)
    (same_Ok (record state { taken = sum_of_ids state.taken count }) next done)
    (skip kind is (skip_is word later behind count
    (begins_with_word word later kinds.Skip kind refl) stands there))

type_does : (received : Bool) (word : Token) (later behind : List Token) (state next : State)
    → statement_kind (word ∷ later) ≡ Some kinds.Type
    → with_type state (word ∷ later) ≡ Ok next
    → IsNext received (word ∷ later) behind state next
type_does received word later behind state next kind e =
    let (found, is, done) = in_two (declaration_at state.types (word ∷ later)) _ next e in
    subst (λ (s : State). IsNext received (word ∷ later) behind state s)
    (same_Ok (with_unread state found.0 found.1) next done)
    (type kind (declaration_is state.types word later found is))

row_does : (received : Bool) (word : Token) (later behind : List Token) (state next : State)
    (kind : RowKind) (o : Option Subsystem)
    → statement_kind (word ∷ later) ≡ Some (kinds.Row kind)
    → state.heading ≡ o → with_row o received state kind (word ∷ later) ≡ Ok next
    → IsNext received (word ∷ later) behind state next
row_does received word later behind state next kind None begins is e = absurd cc
row_does received word later behind state next kind (Some heading) begins is e =
    let known : Where = known_there heading received state in
    let says : RowSays = row_at known kind (word ∷ later) in
    let done : IsNext received (word ∷ later) behind state (record state {
      rows = state.rows ++ says ∷ [];
      taken = sum_of_ids state.taken 1;
      names = names_with state.names says.name;
    }) = row begins is (row_is known kind word later) in
    subst (λ (s : State). IsNext received (word ∷ later) behind state s)
    (ap (λ n. record state {
      rows = state.rows ++ says ∷ [];
      taken = sum_of_ids state.taken 1;
      names = names_with state.names n;
    }) (told known kind (word ∷ later)).name
    ∙ same_Ok (behind_row heading received state kind (word ∷ later)) next e) done

does_by : (kind : Option StatementKind) (received : Bool) (word : Token)
    (later behind : List Token) (state next : State) → statement_kind (word ∷ later) ≡ kind
    → IsStatement (word ∷ later) behind
    → statement_by kind received state (word ∷ later) ≡ Ok next
    → IsNext received (word ∷ later) behind state next
does_by None received word later behind state next is stands e = absurd cc
does_by (Some kinds.Subsystem) received word later behind state next is stands e =
    subsystem_does received word later behind state next state.heading is stands refl e
does_by (Some kinds.Type) received word later behind state next is stands e =
    type_does received word later behind state next is e
does_by (Some (kinds.Row kind)) received word later behind state next is stands e =
    row_does received word later behind state next kind state.heading is refl e
does_by (Some kinds.Skip) received word later behind state next is stands e =
    skip_does received word later behind state next state.heading is stands refl e
does_by (Some kinds.Passed) received word later behind state next is stands e =
    subst (λ (s : State). IsNext received (word ∷ later) behind state s) (same_Ok state next e)
    (passed is)

-- and what it does is read
does_read : {received : Bool} {tokens behind : List Token} {state next : State}
    → IsNext received tokens behind state next
    → statement_by (statement_kind tokens) received state tokens ≡ Ok next
does_read {received} {tokens} {behind} {state} (subsystem kind is heading) =
    rw (kind, is) (goes_to _ (heading_read heading))
does_read {received} {tokens} {behind} {state} (type kind declares) =
    rw kind (goes_to _ (declaration_read declares))
does_read {received} {tokens} {behind} {state} (skip kind is skips) =
    rw (kind, is) (goes_to _ (skip_read skips))
does_read {received} {tokens} {behind} {state} (row {heading} {kind = k} {says} kind is there) =
    let known : Where = known_there heading received state in
    let read = row_read there in
    let named = sym (told known k tokens).name ∙ ap (λ (r : RowSays). r.name) read in
    rw (kind, is, read, named) refl
does_read (passed kind) = rw kind refl

-- ---- statements one after the other

-- one step, and what follows it
record Stepped (received : Bool) (state : State) (tokens : List Token)
    (at : State × List Token) : Type 0 where
  less : length at.1 < length tokens
  goes : (last : State) → AreStatements received at.0 at.1 last
      → AreStatements received state tokens last

is_shorter : (tokens behind : List Token) → IsStatement tokens behind
    → length behind < length tokens
is_shorter tokens behind s =
    omega (arith, ap length s.splits, length-append s.inside (s.end ∷ behind))

include_steps : (received : Bool) (state : State) (word : Token) (later : List Token)
    (at : State × List Token) → Is symbols.Include word
    → (record state { types = included state.types }, tail_of (word ∷ later)) ≡ at
    → Stepped received state (word ∷ later) at
unfolding tail_of
include_steps received state word later at is same =
    subst (λ (a : State × List Token). Stepped received state (word ∷ later) a) same (record {
      less = omega arith;
      goes = λ last others. include_line is others;
    })

statement_steps : (received : Bool) (state : State) (word : Token) (later : List Token)
    (at : State × List Token)
    → (statement_end (word ∷ later) >>= λ behind.
    statement_by (statement_kind (word ∷ later)) received state (word ∷ later) >>= λ next.
    Ok (next, behind)) ≡ Ok at
    → Stepped received state (word ∷ later) at
statement_steps received state word later at e =
    let (behind, ended, m1) = in_two (statement_end (word ∷ later)) _ at e in
    let (next, did, done) = in_two
    (statement_by (statement_kind (word ∷ later)) received state (word ∷ later)) _ at m1 in
    let stands = read_is (word ∷ later) behind ended in
    let does = does_by (statement_kind (word ∷ later)) received word later behind state next refl
    stands did in
    subst (λ (a : State × List Token). Stepped received state (word ∷ later) a)
    (same_Ok (next, behind) at done) (record {
      less = is_shorter (word ∷ later) behind stands;
      goes = λ last others. statement stands does others;
    })

steps_by : (symbol : Symbol) (received : Bool) (state : State) (word : Token) (later : List Token)
    (at : State × List Token) → word.symbol ≡ symbol
    → one_by symbol received state (word ∷ later) ≡ Ok at
    → Stepped received state (word ∷ later) at
steps_by symbols.Include received state word later at is e =
    include_steps received state word later at (record { seen = is })
    (same_Ok (record state { types = included state.types }, tail_of (word ∷ later)) at e)
steps_by _ received state word later at is e =
    statement_steps received state word later at e

steps : (received : Bool) (state : State) (word : Token) (later : List Token)
    (at : State × List Token) → one_at received (state, word ∷ later) ≡ Ok at
    → Stepped received state (word ∷ later) at
unfolding one_at first_of
steps received state word later at e =
    steps_by word.symbol received state word later at refl e

-- what is left behind all, and what is said
abbrev Whole : Bool → State → List Token → State × List Token → Type 0
Whole received state tokens last = (last.1 ≡ []) × AreStatements received state tokens last.0

ended : (received : Bool) (state : State) (last : State × List Token) → (state, []) ≡ last
    → Whole received state [] last
ended received state last same =
    subst (λ (l : State × List Token). Whole received state [] l) same (refl, none)

statements_are : (n : ℕ) (received : Bool) (state : State) (tokens : List Token)
    (last : State × List Token) → length tokens ≤ n
    → many goes_on (one_at received) n (state, tokens) ≡ Ok last
    → Whole received state tokens last
unfolding many goes_on
statements_are zero received state [] last enough e =
    ended received state last (same_Ok (state, []) last e)
statements_are zero received state (word ∷ later) last enough e = absurd (omega arith)
statements_are (suc n) received state [] last enough e =
    ended received state last (same_Ok (state, []) last e)
statements_are (suc n) received state (word ∷ later) last enough e =
    let (at, stepped, onward) = in_two (one_at received (state, word ∷ later)) _ last e in
    let step = steps received state word later at stepped in
    let less = step.less in
    let (nothing_left, others) = statements_are n received at.0 at.1 last (omega arith) onward in
    (nothing_left, step.goes last.0 others)

-- no statement is a line that includes
abbrev is_include : Symbol → Bool
is_include symbols.Include = true
is_include _ = false

opening_is_none : (symbol : Symbol) → is_opening symbol ≡ true → is_include symbol ≡ false
opening_is_none symbols.Include e = absurd cc
opening_is_none _ e = refl

semicolon_is_none : (symbol : Symbol) → is_semicolon symbol ≡ true → is_include symbol ≡ false
semicolon_is_none symbols.Include e = absurd cc
semicolon_is_none _ e = refl

other_is_none : (symbol : Symbol) → is_other symbol ≡ true → is_include symbol ≡ false
other_is_none symbols.Include e = absurd cc
other_is_none _ e = refl

inside_is_none : (token : Token) (inside : List Token) → IsInside 0 (token ∷ inside)
    → is_include token.symbol ≡ false
inside_is_none token inside (opening depth one later is stands) = opening_is_none token.symbol is
inside_is_none token inside (other depth one later is stands) = other_is_none token.symbol is

-- the first token of a statement
record Begins (tokens : List Token) : Type 0 where
  first : Token
  later : List Token
  splits : tokens ≡ first ∷ later
  is : is_include first.symbol ≡ false

begins_by : (tokens behind inside : List Token) (end : Token) → tokens ≡ inside ++ end ∷ behind
    → is_semicolon end.symbol ≡ true → IsInside 0 inside → Begins tokens
begins_by tokens behind [] end splits is stands = record {
  first = end;
  later = behind;
  splits = splits;
  is = semicolon_is_none end.symbol is;
}
begins_by tokens behind (token ∷ inside) end splits is stands = record {
  first = token;
  later = inside ++ end ∷ behind;
  splits = splits;
  is = inside_is_none token inside stands;
}

begins : (tokens behind : List Token) → IsStatement tokens behind → Begins tokens
begins tokens behind s = begins_by tokens behind s.inside s.end s.splits s.ends s.stands

-- a statement is one step
one_is_by : (symbol : Symbol) (received : Bool) (state next : State) (tokens behind : List Token)
    → is_include symbol ≡ false → statement_end tokens ≡ Ok behind
    → statement_by (statement_kind tokens) received state tokens ≡ Ok next
    → one_by symbol received state tokens ≡ Ok (next, behind)
one_is_by symbols.Include received state next tokens behind is ended did = absurd cc
one_is_by _ received state next tokens behind is ended did =
    goes_to _ ended ∙ goes_to _ did

one_is : (received : Bool) (state next : State) (tokens behind : List Token)
    → IsStatement tokens behind → IsNext received tokens behind state next
    → one_at received (state, tokens) ≡ Ok (next, behind)
unfolding one_at first_of
one_is received state next tokens behind stands does =
    let b = begins tokens behind stands in
    one_is_by (first_of tokens) received state next tokens behind
    (ap (λ l. is_include (first_of l)) b.splits ∙ b.is) (is_read tokens behind stands)
    (does_read does)

stops : (state : State) → goes_on (state, []) ≡ false
unfolding goes_on
stops state = refl

some_goes_on : (state : State) (tokens : List Token) (first : Token) (later : List Token)
    → tokens ≡ first ∷ later → goes_on (state, tokens) ≡ true
unfolding goes_on
some_goes_on state tokens first later e = rw e refl

include_read : (received : Bool) (state : State) (line : Token) (behind : List Token)
    → Is symbols.Include line
    → one_at received (state, line ∷ behind)
    ≡ Ok (record state { types = included state.types }, behind)
unfolding one_at
include_read received state line behind is =
    rw (first_is behind is, tail_is line behind) refl

statements_read : {received : Bool} {state last : State} {tokens : List Token}
    → AreStatements received state tokens last → (n : ℕ) → length tokens ≤ n
    → many goes_on (one_at received) n (state, tokens) ≡ Ok (last, [])
statements_read {received} (none {state}) n enough =
    many_ends goes_on (one_at received) n (state, []) (stops state)
statements_read {received} (include_line {state} {last} {line} {behind} is others) n enough =
    many_step goes_on (one_at received) n 0 (state, line ∷ behind)
    (record state { types = included state.types }, behind) (omega arith)
    (some_goes_on state (line ∷ behind) line behind refl)
    (include_read received state line behind is)
    ∙ statements_read others (n - 1) (omega arith)
statements_read {received} (statement {state} {next} {last} {tokens} {behind} stands does others)
    n enough =
    let b = begins tokens behind stands in
    let less = is_shorter tokens behind stands in
    many_step goes_on (one_at received) n 0 (state, tokens) (next, behind) (omega arith)
    (some_goes_on state tokens b.first b.later b.splits)
    (one_is received state next tokens behind stands does)
    ∙ statements_read others (n - 1) (omega arith)

-- ---- a file

file_is : (received : Bool) (tokens : List Token) (last : State) (file : FileSays)
    (o : Option Subsystem) → AreStatements received nothing_said tokens last → last.heading ≡ o
    → file_by o last ≡ Ok file → IsFile received tokens file
file_is received tokens last file None are is e = absurd cc
file_is received tokens last file (Some heading) are is e =
    let says : FileSays = record {
      heading = heading;
      ids = min last.taken limit_of_ids;
      rows = last.rows;
      unread = last.unread;
    } in
    let found : IsFile received tokens says = record {
      last = last;
      are = are;
      heading = is;
      ids = refl;
      rows = refl;
      unread = refl;
    } in
    subst (λ (f : FileSays). IsFile received tokens f) (same_Ok says file e) found

pub files_are_found : FilesAreFound
unfolding file_at statements_at
files_are_found received tokens file e =
    let (end, said, done) = in_two (many goes_on (one_at received) (length tokens)
    (nothing_said, tokens)) _ file e in
    let (left, are) = statements_are (length tokens) received nothing_said tokens end (omega arith)
    said in
    file_is received tokens end.0 file end.0.heading are refl done

same_file : (file : FileSays) (ids : ℕ) (rows : List RowSays) (unread : List Unread)
    → file.ids ≡ ids → file.rows ≡ rows → file.unread ≡ unread
    → let says : FileSays = record {
      heading = file.heading;
      ids = ids;
      rows = rows;
      unread = unread;
    } in says ≡ file
same_file file ids rows unread a b c = rw (← a, ← b, ← c) refl

pub files_are_read : FilesAreRead
unfolding file_at statements_at
files_are_read received tokens file f =
    goes_to _ (statements_read f.are (length tokens) (omega arith))
    ∙ ap (λ o. file_by o f.last) f.heading
    ∙ ap (λ x. Ok x) (same_file file (min f.last.taken limit_of_ids) f.last.rows f.last.unread f.ids
    f.rows f.unread)
