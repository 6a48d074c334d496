-- The parts of a parenthesis are read exactly where they stand.
use Rattle.std.proofs.Common.{◌≡◌, ℕ, zero, suc, ◌<◌, ◌==◌, Bool, true, false, List, [], ◌∷◌}
use Rattle.std.proofs.Common.{◌++◌, length, map, Option, Some, None, Result, Ok, Err, refl, sym, ap}
use Rattle.std.proofs.Common.{◌∙◌, subst, arith, if◌then◌else◌}
use Rattle.std.proofs.lemmas.Bool.{eqb-true, eq-eqb}
use Rattle.mrc_mig_lex.specs.declared.token.Sign.TheVariants.{CloseParenthesis, Semicolon}
use Rattle.mrc_mig_symbols.specs.declared.fault.Stop.{Stop}
use Rattle.mrc_mig_tokens.specs.declared.symbol.Symbol.{Symbol}
use Rattle.mrc_mig_tokens.specs.declared.symbol.Symbol.TheVariants.{Sign}
use Rattle.mrc_mig_tokens.specs.Reading.{first_of, text_of, tail_of, is_sign}
use Rattle.mrc_mig_tokens.specs.Tokens.{Token}
use Rattle.mrc_mig_types.specs.Specs.{Is}
use Rattle.mrc_mig_types.specs.Table.{Known}
use Rattle.mrc_mig_types.proofs.PhraseLemmas.{front, first_is, tail_is, is_next, is_that_sign}
use Rattle.mrc_mig_arguments.specs.Arguments.{IsArgument, argument, unmarked, marked}
use Rattle.mrc_mig_arguments.specs.Arguments.{belongs}
use Rattle.mrc_mig_arguments.specs.Reading.{argument_at}
use Rattle.mrc_mig_arguments.specs.Words.{Written}
use Rattle.mrc_mig_arguments.proofs.ArgumentPhrases.{read_is_argument, argument_is_read}
use Rattle.mrc_mig_bodies.specs.Parameters.{Parameter}
use Rattle.mrc_mig_rows.specs.Ends.{ends, end_from}
use Rattle.mrc_mig_rows.specs.Parts.{Piece, Read, Unread, parameter_by, piece_by, piece_at}
use Rattle.mrc_mig_rows.specs.Parts.{pieces_from, closing_from, pieces_at, read_before, unread_at}
use Rattle.mrc_mig_rows.specs.Statements.{IsInside}
use Rattle.mrc_mig_rows.proofs.PartLemmas.{last_piece, closes_here, one_piece, closes_later}
use Rattle.mrc_mig_rows.proofs.PartLemmas.{part_is_shorter}
use Rattle.mrc_mig_laws.specs.Routines.{IsPart, AreParts, last, more, AreArguments, none, some}
use Rattle.mrc_mig_laws.proofs.EndLemmas.{same_cut, Closes, part_stands, part_read}

-- ---- the signs

-- `;` and `)` end a part
sign_closes_by : (symbol : Symbol) → ((depth : ℕ) → ends depth symbol ≡ (depth == 0))
    → {end : Token} → Is symbol end → Closes end
sign_closes_by symbol closes {end} is =
    record { closes = λ depth. ap (λ s. ends depth s) is.seen ∙ closes depth }

semicolon_closes : {end : Token} → Is (Sign Semicolon) end → Closes end
semicolon_closes is = sign_closes_by (Sign Semicolon) (λ depth. refl) is

parenthesis_closes : {end : Token} → Is (Sign CloseParenthesis) end → Closes end
parenthesis_closes is = sign_closes_by (Sign CloseParenthesis) (λ depth. refl) is

-- and none of an argument's tokens follows there
semicolon_is_apart : {end : Token} (behind : List Token) → Is (Sign Semicolon) end
    → belongs (first_of (end ∷ behind)) (text_of (end ∷ behind)) ≡ false
semicolon_is_apart behind is = rw (first_is behind is) refl

parenthesis_is_apart : {end : Token} (behind : List Token) → Is (Sign CloseParenthesis) end
    → belongs (first_of (end ∷ behind)) (text_of (end ∷ behind)) ≡ false
parenthesis_is_apart behind is = rw (first_is behind is) refl

-- no parenthesis is a `;`
parenthesis_is_other : {end : Token} (behind : List Token) → Is (Sign CloseParenthesis) end
    → is_sign Semicolon (first_of (end ∷ behind)) ≡ false
parenthesis_is_other behind is = rw (first_is behind is) refl

-- ---- what is read stands there

abbrev piece_is : Piece → Option Parameter
piece_is (Read a) = Some a
piece_is (Unread place) = None

same_read : (a b : Parameter) → Read a ≡ Read b → a ≡ b
same_read a b e = cc

-- an argument that ends where the part does is the whole part
whole_part : (types : Known) (part end : List Token) (found : Written) (rest : List Token)
    → IsInside 0 part → argument_at types (part ++ end) ≡ Ok (found, rest)
    → length rest ≡ length end → IsPart types end part (parameter_by found)
whole_part types part end found rest stands e long =
    let (written, splits, is) = read_is_argument types (part ++ end) found rest e in
    let same = same_cut part end written rest splits (sym long) in
    let here : IsArgument types rest part found =
    subst (λ w. IsArgument types rest w found) (sym same.0) is in
    record {
      written = found;
      stands = stands;
      is = subst (λ r. IsArgument types r part found) (sym same.1) here;
      says = refl;
    }

part_found_if : (types : Known) (part end : List Token) (found : Written) (rest : List Token)
    (a : Parameter) (b : Bool) → (length rest == length end) ≡ b → IsInside 0 part
    → argument_at types (part ++ end) ≡ Ok (found, rest)
    → (if b then Read (parameter_by found) else Unread (length rest)) ≡ Read a
    → IsPart types end part a
part_found_if types part end found rest a true test stands e is =
    subst (λ p. IsPart types end part p) (same_read (parameter_by found) a is)
    (whole_part types part end found rest stands e
    (eqb-true (length rest) (length end) test))
part_found_if types part end found rest a false test stands e is = absurd cc

part_found_by : (types : Known) (part end : List Token) (a : Parameter)
    (r : Result (Written × List Token) Stop) → IsInside 0 part
    → argument_at types (part ++ end) ≡ r → piece_by r end ≡ Read a → IsPart types end part a
part_found_by types part end a (Err stop) stands e is = absurd cc
part_found_by types part end a (Ok found) stands e is =
    part_found_if types part end found.0 found.1 a (length found.1 == length end) refl stands e is

part_found : (types : Known) (part end : List Token) (a : Parameter) → IsInside 0 part
    → piece_at types (part ++ end) end ≡ Read a → IsPart types end part a
unfolding piece_at
part_found types part end a stands is =
    part_found_by types part end a (argument_at types (part ++ end)) stands refl is

-- the last part
last_by : (types : Known) (part : List Token) (closes : Token) (behind : List Token) (piece : Piece)
    → IsInside 0 part → piece_at types (part ++ closes ∷ behind) (closes ∷ behind) ≡ piece
    → unread_at (piece ∷ []) ≡ None
    → AreParts types (closes ∷ behind) (part ++ closes ∷ behind) (read_before (piece ∷ []))
last_by types part closes behind (Unread place) stands is all = absurd cc
last_by types part closes behind (Read a) stands is all =
    last (part_found types part (closes ∷ behind) a stands is)

-- a part before others
more_by : (types : Known) (part : List Token) (semicolon : Token) (later end : List Token)
    (piece : Piece) (pieces : List Piece) → IsInside 0 part → Is (Sign Semicolon) semicolon
    → piece_at types (part ++ semicolon ∷ later) (semicolon ∷ later) ≡ piece
    → unread_at (piece ∷ pieces) ≡ None
    → (unread_at pieces ≡ None → AreParts types end later (read_before pieces))
    → AreParts types end (part ++ semicolon ∷ later) (read_before (piece ∷ pieces))
more_by types part semicolon later end (Unread place) pieces stands ends is all others = absurd cc
more_by types part semicolon later end (Read a) pieces stands ends is all others =
    more (part_found types part (semicolon ∷ later) a stands is) ends (others all)

-- parts with a closing parenthesis behind them; so many steps are enough
parts_are : (n : ℕ) (types : Known) (tokens : List Token) → length tokens < n
    → unread_at (pieces_from types 0 tokens tokens) ≡ None
    → is_sign CloseParenthesis (first_of (closing_from 0 tokens)) ≡ true
    → AreParts types (closing_from 0 tokens) tokens
    (read_before (pieces_from types 0 tokens tokens))
parts_are zero types tokens enough all closed = absurd (omega arith)
parts_are (suc n) types tokens enough all closed =
    by (λ rest less no ends. parts_are n types rest less no ends)
    (is_sign Semicolon (first_of (end_from 0 tokens))) refl
  where
    by : ((rest : List Token) → length rest < n
        → unread_at (pieces_from types 0 rest rest) ≡ None
        → is_sign CloseParenthesis (first_of (closing_from 0 rest)) ≡ true
        → AreParts types (closing_from 0 rest) rest
        (read_before (pieces_from types 0 rest rest)))
        → (b : Bool) → is_sign Semicolon (first_of (end_from 0 tokens)) ≡ b
        → AreParts types (closing_from 0 tokens) tokens
        (read_before (pieces_from types 0 tokens tokens))
    by later false stop =
        let here = closes_here tokens stop in
        let closes : is_sign CloseParenthesis (first_of (end_from 0 tokens)) ≡ true =
        ap (λ l. is_sign CloseParenthesis (first_of l)) (sym here) ∙ closed in
        let f = front (Sign CloseParenthesis) (end_from 0 tokens) refl
        (is_that_sign CloseParenthesis (first_of (end_from 0 tokens)) closes) in
        let rest : List Token = tail_of (end_from 0 tokens) in
        let (part, splits, stands) = part_stands tokens f.token rest
        (parenthesis_closes f.is) f.splits in
        let one : pieces_from types 0 tokens tokens
        ≡ piece_at types (part ++ f.token ∷ rest) (f.token ∷ rest) ∷ [] =
        last_piece types tokens stop
        ∙ ap (λ (l : List Token). piece_at types l (end_from 0 tokens) ∷ []) splits
        ∙ ap (λ (l : List Token). piece_at types (part ++ f.token ∷ rest) l ∷ []) f.splits in
        let are = last_by types part f.token rest
        (piece_at types (part ++ f.token ∷ rest) (f.token ∷ rest)) stands refl
        (ap (λ ps. unread_at ps) (sym one) ∙ all) in
        let named = subst (λ ps. AreParts types (f.token ∷ rest) (part ++ f.token ∷ rest)
        (read_before ps)) (sym one) are in
        let placed = subst (λ l. AreParts types (f.token ∷ rest) l
        (read_before (pieces_from types 0 tokens tokens))) (sym splits) named in
        subst (λ l. AreParts types l tokens (read_before (pieces_from types 0 tokens tokens)))
        (sym (here ∙ f.splits)) placed
    by later true goes =
        let f = front (Sign Semicolon) (end_from 0 tokens) refl
        (is_that_sign Semicolon (first_of (end_from 0 tokens)) goes) in
        let rest : List Token = tail_of (end_from 0 tokens) in
        let (part, splits, stands) = part_stands tokens f.token rest
        (semicolon_closes f.is) f.splits in
        let behind = closes_later tokens goes in
        let less = part_is_shorter tokens goes in
        let others : List Piece = pieces_from types 0 rest rest in
        let one : pieces_from types 0 tokens tokens
        ≡ piece_at types (part ++ f.token ∷ rest) (f.token ∷ rest) ∷ others =
        one_piece types tokens goes
        ∙ ap (λ (l : List Token). piece_at types l (end_from 0 tokens) ∷ others) splits
        ∙ ap (λ (l : List Token). piece_at types (part ++ f.token ∷ rest) l ∷ others) f.splits in
        let are = more_by types part f.token rest (closing_from 0 rest)
        (piece_at types (part ++ f.token ∷ rest) (f.token ∷ rest)) others stands f.is refl
        (ap (λ ps. unread_at ps) (sym one) ∙ all)
        (λ no. later rest (omega arith) no
        (ap (λ l. is_sign CloseParenthesis (first_of l)) (sym behind) ∙ closed)) in
        let named = subst (λ ps. AreParts types (closing_from 0 rest) (part ++ f.token ∷ rest)
        (read_before ps)) (sym one) are in
        let placed = subst (λ l. AreParts types (closing_from 0 rest) l
        (read_before (pieces_from types 0 tokens tokens))) (sym splits) named in
        subst (λ l. AreParts types l tokens (read_before (pieces_from types 0 tokens tokens)))
        (sym behind) placed

-- all that stands in a parenthesis
arguments_by : (types : Known) (tokens : List Token) (b : Bool)
    → let pieces : List Piece × List Token = if b then ([], tokens)
    else (pieces_from types 0 tokens tokens, closing_from 0 tokens) in
    unread_at pieces.0 ≡ None
    → is_sign CloseParenthesis (first_of pieces.1) ≡ true
    → AreArguments types pieces.1 tokens (read_before pieces.0)
arguments_by types tokens true all closed = none
arguments_by types tokens false all closed =
    some (parts_are (suc (length tokens)) types tokens (omega arith) all closed)

pub arguments_are : (types : Known) (tokens : List Token)
    → unread_at (pieces_at types tokens).0 ≡ None
    → is_sign CloseParenthesis (first_of (pieces_at types tokens).1) ≡ true
    → AreArguments types (pieces_at types tokens).1 tokens
    (read_before (pieces_at types tokens).0)
unfolding pieces_at
arguments_are types tokens all closed =
    arguments_by types tokens (is_sign CloseParenthesis (first_of tokens)) all closed

-- ---- what stands there is read

part_is_read : (types : Known) (part end : List Token) (a : Parameter)
    → IsPart types end part a → belongs (first_of end) (text_of end) ≡ false
    → piece_at types (part ++ end) end ≡ Read a
unfolding piece_at
part_is_read types part end a p apart =
    ap (λ r. piece_by r end) (argument_is_read types part p.written end p.is apart)
    ∙ ap (λ b. if b then Read (parameter_by p.written) else Unread (length end))
    (eq-eqb (length end) (length end) refl)
    ∙ ap (λ x. Read x) (sym p.says)

-- what is read of parts
record PartsRead (types : Known) (end tokens : List Token) (arguments : List Parameter)
    : Type 0 where
  pieces : pieces_from types 0 tokens tokens ≡ map (λ a. Read a) arguments
  closing : closing_from 0 tokens ≡ end

last_is_read : (types : Known) (part : List Token) (closes : Token) (behind : List Token)
    (a : Parameter) → IsPart types (closes ∷ behind) part a → Is (Sign CloseParenthesis) closes
    → PartsRead types (closes ∷ behind) (part ++ closes ∷ behind) (a ∷ [])
last_is_read types part closes behind a p is =
    let tokens : List Token = part ++ closes ∷ behind in
    let end : end_from 0 tokens ≡ closes ∷ behind =
    part_read part closes behind (parenthesis_closes is) p.stands in
    let stop : is_sign Semicolon (first_of (end_from 0 tokens)) ≡ false =
    ap (λ l. is_sign Semicolon (first_of l)) end ∙ parenthesis_is_other behind is in
    record {
      pieces = last_piece types tokens stop
          ∙ ap (λ (l : List Token). piece_at types tokens l ∷ []) end
          ∙ ap (λ (x : Piece). x ∷ [])
          (part_is_read types part (closes ∷ behind) a p (parenthesis_is_apart behind is));
      closing = closes_here tokens stop ∙ end;
    }

more_is_read : (types : Known) (part : List Token) (semicolon : Token) (later end : List Token)
    (a : Parameter) (others : List Parameter) → IsPart types (semicolon ∷ later) part a
    → Is (Sign Semicolon) semicolon → PartsRead types end later others
    → PartsRead types end (part ++ semicolon ∷ later) (a ∷ others)
more_is_read types part semicolon later end a others p is read =
    let tokens : List Token = part ++ semicolon ∷ later in
    let cut : end_from 0 tokens ≡ semicolon ∷ later =
    part_read part semicolon later (semicolon_closes is) p.stands in
    let goes : is_sign Semicolon (first_of (end_from 0 tokens)) ≡ true =
    ap (λ l. is_sign Semicolon (first_of l)) cut ∙ is_next Semicolon later is in
    let tail : tail_of (end_from 0 tokens) ≡ later =
    ap (λ l. tail_of l) cut ∙ tail_is semicolon later in
    record {
      pieces = one_piece types tokens goes
          ∙ ap (λ (l : List Token). piece_at types tokens l
          ∷ pieces_from types 0 (tail_of (end_from 0 tokens)) (tail_of (end_from 0 tokens))) cut
          ∙ ap (λ (x : Piece). x
          ∷ pieces_from types 0 (tail_of (end_from 0 tokens)) (tail_of (end_from 0 tokens)))
          (part_is_read types part (semicolon ∷ later) a p (semicolon_is_apart later is))
          ∙ ap (λ (l : List Token). Read a ∷ pieces_from types 0 l l) tail
          ∙ ap (λ (ps : List Piece). Read a ∷ ps) read.pieces;
      closing = closes_later tokens goes ∙ ap (λ (l : List Token). closing_from 0 l) tail
          ∙ read.closing;
    }

parts_are_read : {types : Known} {closes : Token} {behind tokens : List Token}
    {arguments : List Parameter} → Is (Sign CloseParenthesis) closes
    → AreParts types (closes ∷ behind) tokens arguments
    → PartsRead types (closes ∷ behind) tokens arguments
parts_are_read {types} {closes} {behind} is (last {part} {a} p) =
    last_is_read types part closes behind a p is
parts_are_read {types} {closes} {behind} is (more {part} {later} {semicolon} {a} {others} p s are) =
    more_is_read types part semicolon later (closes ∷ behind) a others p s
    (parts_are_read is are)

-- parts begin with no closing parenthesis
argument_begins : {types : Known} {rest part : List Token} {written : Written} (end : List Token)
    → IsArgument types rest part written
    → is_sign CloseParenthesis (first_of (part ++ end)) ≡ false
argument_begins end (argument {typed} {flags} {name} {colon} unmarked n c t f) =
    rw (first_is (colon ∷ ((typed ++ flags) ++ end)) n) refl
argument_begins end (argument {typed} {flags} {name} {colon} (marked {token} m found) n c t f) =
    rw (first_is (name ∷ colon ∷ ((typed ++ flags) ++ end)) m) refl

parts_begin : {types : Known} {end tokens : List Token} {arguments : List Parameter}
    → AreParts types end tokens arguments
    → is_sign CloseParenthesis (first_of tokens) ≡ false
parts_begin {end} (last p) = argument_begins end p.is
parts_begin (more {later} {semicolon} p s are) = argument_begins (semicolon ∷ later) p.is

pub arguments_are_read : {types : Known} {closes : Token} {behind tokens : List Token}
    {arguments : List Parameter} → Is (Sign CloseParenthesis) closes
    → AreArguments types (closes ∷ behind) tokens arguments
    → pieces_at types tokens ≡ (map (λ a. Read a) arguments, closes ∷ behind)
unfolding pieces_at
arguments_are_read {behind} is none = rw (is_next CloseParenthesis behind is) refl
arguments_are_read {types} {tokens} is (some are) =
    let read = parts_are_read is are in
    rw (parts_begin are, read.pieces, read.closing) refl
