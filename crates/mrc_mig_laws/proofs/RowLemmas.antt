-- A row is read exactly where it is a routine to which nothing objects.
use Rattle.std.proofs.Common.{◌≡◌, ℕ, ◌+◌, ◌<◌, ◌≤◌, Bool, true, false, List, [], ◌∷◌}
use Rattle.std.proofs.Common.{length, map, Option, Some, None, Result, Ok, Err, refl, sym, ap, ◌∙◌}
use Rattle.std.proofs.Common.{subst, arith, if◌then◌else◌}
use Rattle.std.specs.Prelude.{nat_lt, nat_le, is_some}
use Rattle.std.proofs.lemmas.Bool.{false≢true, leb-false, lt-leb, ltb-false, le-ltb}
use Rattle.mrc_base.specs.Limits.{limit_of_ids, limit_of_name, limit_of_number}
use Rattle.mrc_mig_lex.specs.declared.token.Sign.TheVariants.{OpenParenthesis, CloseParenthesis}
use Rattle.mrc_mig_lex.specs.declared.token.Sign.TheVariants.{Semicolon}
use Rattle.mrc_mig_tokens.specs.declared.symbol.Symbol.{Symbol}
use Rattle.mrc_mig_tokens.specs.declared.symbol.Symbol.TheVariants.{Name, Sign}
use Rattle.mrc_mig_tokens.specs.Reading.{first_of, tail_of, is_sign}
use Rattle.mrc_mig_tokens.specs.Tokens.{Token}
use Rattle.mrc_mig_types.specs.Specs.{Is}
use Rattle.mrc_mig_types.specs.Table.{Known}
use Rattle.mrc_mig_types.proofs.PhraseLemmas.{front, first_is, tail_is, text_is, is_next}
use Rattle.mrc_mig_types.proofs.PhraseLemmas.{is_that_sign}
use Rattle.mrc_mig_bodies.specs.declared.kinds.Request.{Request}
use Rattle.mrc_mig_bodies.specs.declared.objections.Objection.{Objection}
use Rattle.mrc_mig_bodies.specs.Bodies.{Item}
use Rattle.mrc_mig_bodies.specs.Laws.{NothingObjects}
use Rattle.mrc_mig_bodies.specs.Listed.{objections, first_of as first_listed}
use Rattle.mrc_mig_bodies.specs.Objections.{Objects, IsFirst}
use Rattle.mrc_mig_bodies.specs.Parameters.{Parameter}
use Rattle.mrc_mig_bodies.proofs.FirstLemmas.{is_first}
use Rattle.mrc_mig_bodies.proofs.ListedLemmas.{first_told as first_is_told}
use Rattle.mrc_mig_rows.specs.declared.kinds.RowKind.{RowKind}
use Rattle.mrc_mig_rows.specs.declared.words.RowWord.{RowWord}
use Rattle.mrc_mig_rows.specs.declared.words.RowWord.TheVariants as words
use Rattle.mrc_mig_rows.specs.declared.words.Told.{Told}
use Rattle.mrc_mig_rows.specs.Carried.{Carrier}
use Rattle.mrc_mig_rows.specs.Kinds.{is_old, routine_kind}
use Rattle.mrc_mig_rows.specs.Parts.{Read, View, opening_by, opening_at, view_by, view_at}
use Rattle.mrc_mig_rows.specs.Parts.{pieces_at, read_before, unread_at, tail_stop, or_else, stop_of}
use Rattle.mrc_mig_rows.specs.Rows.{Outcome, IsRead, IsLeftOut, RowSays, Where, name_at}
use Rattle.mrc_mig_rows.specs.Rows.{told_at, name_told_by, or_told, objection_of, judged_at}
use Rattle.mrc_mig_rows.specs.Rows.{told_of}
use Rattle.mrc_mig_rows.specs.Rows.{read_of, outcome_by, outcome_at, row_at}
use Rattle.mrc_mig_rows.specs.Names.{Names}
use Rattle.mrc_mig_rows.specs.Words.{last_id, early_word, name_word, word_of, told, first_told}
use Rattle.mrc_mig_rows.proofs.FirstLemmas.{first_is as only_first}
use Rattle.mrc_mig_laws.specs.Laws.{ReadRowsAreRoutines, RoutinesAreRead, LeftOutRowsAreNone}
use Rattle.mrc_mig_laws.specs.Laws.{OthersAreLeftOut}
use Rattle.mrc_mig_laws.specs.Routines.{AreArguments, IsRoutine}
use Rattle.mrc_mig_laws.specs.RowGrammar.{IsReadRoutine, read_row, IsNoReadRow}
use Rattle.mrc_mig_laws.specs.RowGrammar.{IsLeftOutRow}
use Rattle.mrc_mig_laws.proofs.PartLemmas.{arguments_are, arguments_are_read}

-- ---- words that are told

-- neither this word is told nor what would be told behind it
both_none : (word : Option RowWord) (place : ℕ) (others : Option Told)
    → or_told (told_at word place) others ≡ None → (word ≡ None) × (others ≡ None)
both_none None place others e = (refl, e)
both_none (Some word) place others e = absurd cc

-- no more is told behind a name
name_told : (names : Names) (name : Option (List ℕ)) (place : ℕ) (others : Option Told)
    → or_told (name_told_by names name place) others ≡ None → others ≡ None
name_told names None place others e = e
name_told names (Some name) place others e =
    (both_none (name_word (names name) name) place others e).1

-- no word of three
none_of : (a b c : Bool) (x y z : RowWord)
    → (if a then Some x else if b then Some y else if c then Some z else None) ≡ None
    → (a ≡ false) × (b ≡ false) × (c ≡ false)
none_of false false false x y z e = (refl, refl, refl)
none_of true b c x y z e = absurd cc
none_of false true c x y z e = absurd cc
none_of false false true x y z e = absurd cc

none_of_two : (a b : Bool) (x y : RowWord)
    → (if a then Some x else if b then Some y else None) ≡ None → (a ≡ false) × (b ≡ false)
none_of_two false false x y e = (refl, refl)
none_of_two true b x y e = absurd cc
none_of_two false true x y e = absurd cc

-- a row for which no early word is told
abbrev IsInTime : RowKind → ℕ → ℕ → Type 0
IsInTime kind taken id =
    (is_old kind ≡ false) × (taken < limit_of_ids) × (last_id kind id ≤ limit_of_number)

in_time : (kind : RowKind) (taken id : ℕ) → early_word kind taken id ≡ None
    → IsInTime kind taken id
in_time kind taken id e =
    let (many, large, old) = none_of (nat_le limit_of_ids taken)
    (nat_lt limit_of_number (last_id kind id)) (is_old kind) _ _ _ e in (
      old,
      leb-false limit_of_ids taken many,
      ltb-false limit_of_number (last_id kind id) large,
    )

no_early : (kind : RowKind) (taken id : ℕ) → IsInTime kind taken id
    → early_word kind taken id ≡ None
no_early kind taken id is =
    rw (
      lt-leb limit_of_ids taken is.1,
      le-ltb limit_of_number (last_id kind id) is.2,
      is.0,
    ) refl

-- a name for which no word is told
name_is_good : (taken : Bool) (name : List ℕ) → name_word taken name ≡ None
    → (taken ≡ false) × (length name ≤ limit_of_name)
name_is_good taken name e =
    let (is, long) = none_of_two taken (nat_lt limit_of_name (length name)) _ _ e in
    (is, ltb-false limit_of_name (length name) long)

good_is_named : (taken : Bool) (name : List ℕ) → taken ≡ false → length name ≤ limit_of_name
    → name_word taken name ≡ None
good_is_named taken name is short =
    rw (is, le-ltb limit_of_name (length name) short) refl

-- a token and an objection tell a word
some_told : (place : ℕ) (objection : Objection)
    → is_some (first_told (Some place) (Some objection)) ≡ true
some_told place objection =
    elim (nat_le objection.at place) as (λ b. is_some (if b then Some (told words.Unexpected place)
    else Some (told (word_of objection.word) objection.at)) ≡ true) [ true ↦ refl | false ↦ refl ]

-- neither a token nor an objection
neither_first : (place : Option ℕ) (objection : Option Objection)
    → first_told place objection ≡ None → (place ≡ None) × (objection ≡ None)
neither_first None None e = (refl, refl)
neither_first None (Some objection) e = absurd cc
neither_first (Some place) None e = absurd cc
neither_first (Some place) (Some objection) e =
    absurd (false≢true (sym (ap (λ x. is_some x) e) ∙ some_told place objection))

neither_stop : (one other : Option ℕ) → or_else one other ≡ None
    → (one ≡ None) × (other ≡ None)
neither_stop None other e = (refl, e)
neither_stop (Some place) other e = absurd cc

-- nothing objects to what is seen
abbrev IsSound : Where → RowKind → View → Type 0
IsSound known kind view =
    NothingObjects (routine_kind kind) known.by.request (length view.end)
    (read_before view.pieces)

-- that is so where no objection is listed, and only there
nothing_objects : (known : Where) (kind : RowKind) (view : View)
    → objection_of kind known.by view ≡ None → IsSound known kind view
unfolding objection_of
nothing_objects known kind view e =
    let read : List Parameter = read_before view.pieces in
    let listed = objections (routine_kind kind) known.by.request (length view.end) read in
    subst (λ found. IsFirst (Objects (routine_kind kind) known.by.request (length view.end) read)
    found) e
    (first_is_told (routine_kind kind) known.by.request (length view.end) read
    (first_listed listed) (is_first listed))

none_is_listed : (known : Where) (kind : RowKind) (view : View)
    → IsSound known kind view → objection_of kind known.by view ≡ None
unfolding objection_of
none_is_listed known kind view none =
    sym (only_first (routine_kind kind) known.by.request (length view.end)
    (read_before view.pieces) None none)

-- ---- what is read stands there

-- `name (`
record Opened (tokens inside : List Token) : Type 0 where
  named : Token
  opens : Token
  splits : tokens ≡ named ∷ opens ∷ inside
  is_named : Is Name named
  is_opened : Is (Sign OpenParenthesis) opens

opened_if : (tokens inside : List Token) (b : Bool) → first_of tokens ≡ Name
    → is_sign OpenParenthesis (first_of (tail_of tokens)) ≡ b
    → let given : Result (List Token) (List Token) =
    if b then Ok (tail_of (tail_of tokens)) else Err (tail_of tokens) in
    given ≡ Ok inside → Opened tokens inside
opened_if tokens inside false is test e = absurd cc
opened_if tokens inside true is test e =
    let n = front Name tokens refl is in
    let o = front (Sign OpenParenthesis) (tail_of tokens) refl
    (is_that_sign OpenParenthesis (first_of (tail_of tokens)) test) in
    let same : tail_of (tail_of tokens) ≡ inside = cc in
    record {
      named = n.token;
      opens = o.token;
      splits = n.splits ∙ ap (λ l. n.token ∷ l) (o.splits ∙ ap (λ l. o.token ∷ l) same);
      is_named = n.is;
      is_opened = o.is;
    }

opened_by : (symbol : Symbol) (tokens inside : List Token) → first_of tokens ≡ symbol
    → opening_by symbol tokens ≡ Ok inside → Opened tokens inside
opened_by Name tokens inside is e =
    opened_if tokens inside (is_sign OpenParenthesis (first_of (tail_of tokens))) is refl e
opened_by _ tokens inside is e = absurd cc

opened : (tokens inside : List Token) → opening_at tokens ≡ Ok inside → Opened tokens inside
unfolding opening_at
opened tokens inside e = opened_by (first_of tokens) tokens inside refl e

-- `) ;`
record Closed (end : List Token) : Type 0 where
  closes : Token
  stop : Token
  behind : List Token
  splits : end ≡ closes ∷ stop ∷ behind
  is_closed : Is (Sign CloseParenthesis) closes
  is_stop : Is (Sign Semicolon) stop

closed_if : (end : List Token) (a b : Bool)
    → is_sign CloseParenthesis (first_of end) ≡ a
    → is_sign Semicolon (first_of (tail_of end)) ≡ b
    → (if a then (if b then None else Some (length (tail_of end))) else Some (length end)) ≡ None
    → Closed end
closed_if end false b one other e = absurd cc
closed_if end true false one other e = absurd cc
closed_if end true true one other e =
    let c = front (Sign CloseParenthesis) end refl
    (is_that_sign CloseParenthesis (first_of end) one) in
    let s = front (Sign Semicolon) (tail_of end) refl
    (is_that_sign Semicolon (first_of (tail_of end)) other) in
    record {
      closes = c.token;
      stop = s.token;
      behind = tail_of (tail_of end);
      splits = c.splits ∙ ap (λ l. c.token ∷ l) s.splits;
      is_closed = c.is;
      is_stop = s.is;
    }

closed : (end : List Token) → tail_stop end ≡ None → Closed end
closed end e =
    closed_if end (is_sign CloseParenthesis (first_of end))
    (is_sign Semicolon (first_of (tail_of end))) refl refl e

-- what the name and the parts of a row are, from behind its word, if no token is told
record Seen (types : Known) (tokens : List Token) (view : View) : Type 0 where
  inside : List Token
  front : Opened tokens inside
  back : Closed view.end
  are : AreArguments types view.end inside (read_before view.pieces)

seen_by : (types : Known) (tokens : List Token) (given : Result (List Token) (List Token))
    → opening_at tokens ≡ given → stop_of (view_by types given) ≡ None
    → Seen types tokens (view_by types given)
seen_by types tokens (Err end) is e = absurd cc
seen_by types tokens (Ok inside) is e =
    let (all, tail) = neither_stop (unread_at (pieces_at types inside).0)
    (tail_stop (pieces_at types inside).1) e in
    let back = closed (pieces_at types inside).1 tail in
    let ends : is_sign CloseParenthesis (first_of (pieces_at types inside).1) ≡ true =
    ap (λ l. is_sign CloseParenthesis (first_of l)) back.splits
    ∙ is_next CloseParenthesis (back.stop ∷ back.behind) back.is_closed in
    record {
      inside = inside;
      front = opened tokens inside is;
      back = back;
      are = arguments_are types inside all ends;
    }

seen : (types : Known) (tokens : List Token) → stop_of (view_at types tokens) ≡ None
    → Seen types tokens (view_at types tokens)
unfolding view_at
seen types tokens e = seen_by types tokens (opening_at tokens) refl e

-- behind a word
word_before : (tokens : List Token) (named opens : Token) (inside : List Token)
    → tail_of tokens ≡ named ∷ opens ∷ inside
    → (word : Token) × (tokens ≡ word ∷ named ∷ opens ∷ inside)
unfolding tail_of
word_before [] named opens inside e = absurd cc
word_before (word ∷ tokens) named opens inside e = (word, ap (λ l. word ∷ l) e)

-- the name there
pub name_stands : (tokens : List Token) (named : Token) (rest : List Token) → tokens ≡ named ∷ rest
    → Is Name named → name_at tokens ≡ Some named.bytes
unfolding name_at
name_stands tokens named rest e is =
    rw (e, first_is rest is, text_is named rest) refl

routine_stands : (types : Known) (tokens : List Token) (view : View)
    → Seen types (tail_of tokens) view
    → (name : List ℕ) × (behind : List Token)
    × IsRoutine types tokens name (read_before view.pieces) behind
    × (name_at (tail_of tokens) ≡ Some name) × (length view.end ≡ length behind + 2)
routine_stands types tokens view s =
    let f = s.front in
    let b = s.back in
    let (word, splits) = word_before tokens f.named f.opens s.inside f.splits in (
      f.named.bytes,
      b.behind,
      record {
        word = word;
        named = f.named;
        opens = f.opens;
        inside = s.inside;
        closes = b.closes;
        ends = b.stop;
        splits = splits;
        is_named = f.is_named;
        name_is = refl;
        is_opened = f.is_opened;
        are = subst (λ l. AreArguments types l s.inside (read_before view.pieces)) b.splits s.are;
        is_closed = b.is_closed;
        is_ended = b.is_stop;
      },
      name_stands (tail_of tokens) f.named (f.opens ∷ s.inside) f.splits f.is_named,
      omega (arith, ap length b.splits),
    )

-- a row for which no word is told
routine_is_read : (known : Where) (kind : RowKind) (tokens : List Token) (view : View)
    → view ≡ view_at known.types (tail_of tokens) → told_of known kind tokens view ≡ None
    → (name : List ℕ) × IsReadRoutine known kind tokens name (read_before view.pieces)
    × (name_at (tail_of tokens) ≡ Some name)
unfolding told_of judged_at
routine_is_read known kind tokens view is e =
    let (early, judged) = both_none (early_word kind known.taken known.id) (length tokens) _ e in
    let time = in_time kind known.taken known.id early in
    let place : ℕ = length (tail_of tokens) in
    let rest = name_told known.names (name_at (tail_of tokens)) place _ judged in
    let (stop, objection) = neither_first (stop_of view) (objection_of kind known.by view) rest in
    let there : Seen known.types (tail_of tokens) view =
    subst (λ v. Seen known.types (tail_of tokens) v) (sym is)
    (seen known.types (tail_of tokens) (ap (λ v. stop_of v) (sym is) ∙ stop)) in
    let (name, behind, routine, named, long) = routine_stands known.types tokens view there in
    let others = first_told (stop_of view) (objection_of kind known.by view) in
    let alone : or_told (told_at (name_word (known.names name) name) place) others ≡ None =
    ap (λ n. or_told (name_told_by known.names n place) others) (sym named) ∙ judged in
    let good = name_is_good (known.names name) name
    (both_none (name_word (known.names name) name) place others alone).0 in
    let none = nothing_objects known kind view objection in (
      name,
      record {
        behind = behind;
        stands = routine;
        form = time.0;
        room = time.1;
        fits = time.2;
        is_free = good.0;
        is_short = good.1;
        sound = subst (λ n. NothingObjects (routine_kind kind) known.by.request n
            (read_before view.pieces)) long none;
      },
      named,
    )

not_told : (told : Option Told) (known : Where) (kind : RowKind) (tokens : List Token)
    (view : View) (request : Request) (one other : List Item)
    → outcome_by told known kind tokens view ≡ IsRead request one other → told ≡ None
not_told None known kind tokens view request one other e = refl
not_told (Some told) known kind tokens view request one other e = absurd cc

-- and what it says
said_there : (known : Where) (kind : RowKind) (tokens : List Token) (name : List ℕ)
    → told_of known kind tokens (view_at known.types (tail_of tokens)) ≡ None
    → name_at (tail_of tokens) ≡ Some name
    → row_at known kind tokens ≡ read_row known kind tokens name
    (read_before (view_at known.types (tail_of tokens)).pieces)
unfolding row_at outcome_at read_of
said_there known kind tokens name none named = rw (none, named) refl

pub read_rows_are : ReadRowsAreRoutines
unfolding row_at outcome_at
read_rows_are known kind tokens request one other e =
    let view : View = view_at known.types (tail_of tokens) in
    let none = not_told (told_of known kind tokens view) known kind tokens view request one other e
    in
    let (name, is, named) = routine_is_read known kind tokens view refl none in
    record {
      name = name;
      arguments = read_before view.pieces;
      is = is;
      says = said_there known kind tokens name none named;
    }

-- ---- what stands there is read

all_read : (arguments : List Parameter) → unread_at (map (λ a. Read a) arguments) ≡ None
all_read [] = refl
all_read (a ∷ others) = all_read others

same_arguments : (arguments : List Parameter)
    → read_before (map (λ a. Read a) arguments) ≡ arguments
same_arguments [] = refl
same_arguments (a ∷ others) = ap (λ l. a ∷ l) (same_arguments others)

-- what is seen of a routine
abbrev view_of : List Parameter → List Token → View
view_of arguments end =
    record { pieces = map (λ a. Read a) arguments; end = end; is_opened = true }

seen_there : {types : Known} {tokens : List Token} {name : List ℕ} {arguments : List Parameter}
    {behind : List Token} (r : IsRoutine types tokens name arguments behind)
    → view_at types (tail_of tokens) ≡ view_of arguments (r.closes ∷ r.ends ∷ behind)
unfolding view_at opening_at
seen_there {types} r =
    let rest : List Token = r.opens ∷ r.inside in
    rw (
      r.splits,
      tail_is r.word (r.named ∷ rest),
      first_is rest r.is_named,
      tail_is r.named rest,
      is_next OpenParenthesis r.inside r.is_opened,
      tail_is r.opens r.inside,
      arguments_are_read r.is_closed r.are,
    ) refl

named_there : {types : Known} {tokens : List Token} {name : List ℕ} {arguments : List Parameter}
    {behind : List Token} → IsRoutine types tokens name arguments behind
    → name_at (tail_of tokens) ≡ Some name
named_there r =
    let rest : List Token = r.opens ∷ r.inside in
    name_stands _ r.named rest (ap (λ l. tail_of l) r.splits ∙ tail_is r.word (r.named ∷ rest))
    r.is_named ∙ ap (λ n. Some n) (sym r.name_is)

-- no token is told behind a routine
no_stop : (arguments : List Parameter) {closes ends : Token} (behind : List Token)
    → Is (Sign CloseParenthesis) closes → Is (Sign Semicolon) ends
    → stop_of (view_of arguments (closes ∷ ends ∷ behind)) ≡ None
no_stop arguments {closes} {ends} behind c s =
    rw (
      all_read arguments,
      is_next CloseParenthesis (ends ∷ behind) c,
      tail_is closes (ends ∷ behind),
      is_next Semicolon behind s,
    ) refl

none_told : (known : Where) (kind : RowKind) (tokens : List Token) (name : List ℕ)
    (arguments : List Parameter) (is : IsReadRoutine known kind tokens name arguments)
    → told_of known kind tokens
    (view_of arguments (is.stands.closes ∷ is.stands.ends ∷ is.behind)) ≡ None
unfolding told_of judged_at
none_told known kind tokens name arguments is =
    let r = is.stands in
    let end : List Token = r.closes ∷ r.ends ∷ is.behind in
    let time : IsInTime kind known.taken known.id = (is.form, is.room, is.fits) in
    let long : length is.behind + 2 ≡ length end = omega arith in
    let objects : NothingObjects (routine_kind kind) known.by.request (length end)
    (read_before (map (λ a. Read a) arguments)) =
    subst (λ l. NothingObjects (routine_kind kind) known.by.request (length end) l)
    (sym (same_arguments arguments))
    (subst (λ n. NothingObjects (routine_kind kind) known.by.request n arguments) long is.sound) in
    rw (
      no_early kind known.taken known.id time,
      named_there r,
      good_is_named (known.names name) name is.is_free is.is_short,
      no_stop arguments is.behind r.is_closed r.is_ended,
      none_is_listed known kind (view_of arguments end) objects,
    ) refl

pub routines_are_read : RoutinesAreRead
unfolding row_at outcome_at read_of
routines_are_read known kind tokens row r =
    let s = r.is.stands in
    let one = seen_there s in
    let none = none_told known kind tokens r.name r.arguments r.is in
    rw (one, none, named_there s, same_arguments r.arguments) (sym r.says)

-- ---- all other rows

no_read : (told : Told) (outcome : Outcome) (request : Request) (one other : List Item)
    → outcome ≡ IsRead request one other
    → (carried : List Carrier)
    → outcome ≡ IsLeftOut told carried → ⊥
no_read told outcome request one other e carried f = absurd cc

pub left_out_are_none : LeftOutRowsAreNone
left_out_are_none known kind tokens (told, carried, e) row r =
    let is = routines_are_read known kind tokens row r in
    no_read told row.outcome _ _ _ (ap (λ (x : RowSays). x.outcome) r.says) carried
    (ap (λ (x : RowSays). x.outcome) (sym is) ∙ e)

others_by : (known : Where) (kind : RowKind) (tokens : List Token) (outcome : Outcome)
    → (row_at known kind tokens).outcome ≡ outcome → IsNoReadRow known kind tokens
    → IsLeftOutRow (row_at known kind tokens)
others_by known kind tokens (IsLeftOut told carried) e none = (told, carried, e)
others_by known kind tokens (IsRead request one other) e none =
    absurd (none (row_at known kind tokens)
    (read_rows_are known kind tokens request one other e))

pub others_are_left_out : OthersAreLeftOut
others_are_left_out known kind tokens none =
    others_by known kind tokens (row_at known kind tokens).outcome refl none
