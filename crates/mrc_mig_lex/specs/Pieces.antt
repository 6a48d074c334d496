-- Believe. Which fault it is; for the tokens a step. What stands at the front of a MIG subsystem
-- text: the longest token there (Server Writer's Guide for MIG), a blank or a comment. Where none
-- does, which fault it is and where is this profile's own choice.
use Rattle.std.specs.Prelude.{ℕ, suc, ◌+◌, Bool, false, ◌||◌, ◌&&◌, ◌==◌, nat_le, List, [], ◌∷◌}
use Rattle.std.specs.Prelude.{Option, Some, None, option_map, option_and_then, Result, Ok, Err}
use Rattle.std.specs.Prelude.{if◌then◌else◌, drop, slice_index, codes, nat_eq, position, take_while}
use Rattle.std.specs.Prelude.{fold, ◌*◌, ◌-◌}
use Rattle.std.specs.List.{prefix_len, position_or_len, starts_with}
use Rattle.std.specs.Option.{ok_or}
use Rattle.std.specs.Char.{is_ascii_digit}
use Rattle.mrc_base.specs.Limits.{limit_of_number}
use Rattle.mrc_mig_lex.specs.declared.token.TokenKind.{TokenKind}
use Rattle.mrc_mig_lex.specs.declared.token.TokenKind.TheVariants.{Name, Number, Text, Header, Sign}
use Rattle.mrc_mig_lex.specs.declared.token.TokenKind.TheVariants.{Directive}
use Rattle.mrc_mig_lex.specs.declared.fault.LexFault.{LexFault}
use Rattle.mrc_mig_lex.specs.declared.fault.LexFault.TheVariants.{BadCharacter, OpenComment}
use Rattle.mrc_mig_lex.specs.declared.fault.LexFault.TheVariants.{NumberTooLarge}
use Rattle.mrc_mig_lex.specs.declared.piece.Piece.{Piece}
use Rattle.mrc_mig_lex.specs.Characters.{line_feed, quote, less_than, greater_than, hash, slash}
use Rattle.mrc_mig_lex.specs.Characters.{is_blank, begins_name, continues_name, sign_of}

-- a token with so many bytes after its first
abbrev pub token : TokenKind → ℕ → Piece
token kind more = record { kind = Some kind; more = more; fresh = false }

-- a blank or a comment with so many bytes after its first; fresh: only blanks stand on the line so
-- far
abbrev pub gap : ℕ → Bool → Piece
gap more fresh = record { kind = None; more = more; fresh = fresh }

-- how many bytes stand before the end of the line
abbrev pub line_len : List ℕ → ℕ
line_len rest = position_or_len (λ c. c == line_feed) rest

-- how many bytes stand up to and with the next such character, where the line has one
abbrev pub closed_len : ℕ → List ℕ → Option ℕ
closed_len close rest =
    option_and_then (λ i. if slice_index rest i == close then Some (i + 1) else None)
    (position (λ c. (c == close) || (c == line_feed)) rest)

-- how many bytes stand up to and with the next `*/`, where there is one
abbrev pub comment_len : List ℕ → Option ℕ
comment_len [] = None
comment_len (c ∷ rest) =
    if starts_with nat_eq (c ∷ rest) (codes "*/") then Some 2 else option_map suc (comment_len rest)

-- the value of decimal digits
abbrev pub decimal : List ℕ → ℕ
decimal digits = fold (λ value digit. 10 * value + (digit - 48)) 0 digits

-- the longest number of decimal digits, by its value, which has a limit
abbrev pub number_at : ℕ → ℕ → List ℕ → Result Piece LexFault
number_at at first rest =
    let value = decimal (first ∷ take_while is_ascii_digit rest) in
    if nat_le value limit_of_number then Ok (token (Number value) (prefix_len is_ascii_digit rest))
    else Err (NumberTooLarge at)

-- a string or `<..>`, up to its own close on the same line
abbrev pub closed_at : ℕ → TokenKind → ℕ → List ℕ → Result Piece LexFault
closed_at at kind close rest =
    ok_or (option_map (token kind) (closed_len close rest)) (BadCharacter at)

-- a comment, of which the rest begins with the `*` of its `/*`
abbrev pub comment_at : ℕ → List ℕ → Result Piece LexFault
comment_at at rest =
    ok_or (option_map (λ more. gap (more + 1) false) (comment_len (drop 1 rest))) (OpenComment at)

-- a sign, which is one character
abbrev pub sign_at : ℕ → ℕ → Result Piece LexFault
sign_at at first =
    ok_or (option_map (λ sign. token (Sign sign) 0) (sign_of first)) (BadCharacter at)

-- What stands at the front of a text that begins with this character. at: its place in the whole
-- text. fresh: only blanks stand before it on its line.
unfoldable pub piece_at : ℕ → Bool → ℕ → List ℕ → Result Piece LexFault
piece_at at fresh first rest =
    if is_blank first then Ok (gap 0 (fresh || (first == line_feed)))
    else (if begins_name first then Ok (token Name (prefix_len continues_name rest))
    else (if is_ascii_digit first then number_at at first rest
    else (if first == quote then closed_at at Text quote rest
    else (if first == less_than then closed_at at Header greater_than rest
    else (if (first == hash) && fresh then Ok (token Directive (line_len rest))
    else (if (first == slash) && starts_with nat_eq rest (codes "*") then comment_at at rest
    else sign_at at first))))))
