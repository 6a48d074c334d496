-- Worked. Tokens, editions and expressions of edition 2. Worked examples of texts of the second
-- edition, and of whole-number expressions.
use Rattle.std.specs.Prelude.{◌≡◌, ℕ, List, [], ◌∷◌, ◌++◌, codes, Some, None, Result, Ok, Err}
use Rattle.std.specs.Prelude.{map, refl}
use Rattle.mrc_base.specs.Reading.{◌>>=◌}
use Rattle.mrc_mig_lex.specs.Characters.{line_feed, quote}
use Rattle.mrc_mig_lex.specs.declared.fault.LexFault.{LexFault}
use Rattle.mrc_mig_lex.specs.declared.fault.LexFault.TheVariants.{OpenComment}
use Rattle.mrc_mig_lex.specs.declared.token.Sign.{Sign as TokenSign}
use Rattle.mrc_mig_lex.specs.declared.token.Sign.TheVariants.{OpenParenthesis, CloseParenthesis}
use Rattle.mrc_mig_lex.specs.declared.token.Sign.TheVariants.{CloseBracket, Star, Plus, Minus}
use Rattle.mrc_mig_lex.specs.declared.token.Sign.TheVariants.{Slash}
use Rattle.mrc_mig_lex.specs.Pieces.{piece_at}
use Rattle.mrc_mig_symbols.specs.Directives.{without_blanks, without_digits, after_bytes}
use Rattle.mrc_mig_symbols.specs.Directives.{after_digits, directive_of, is_empty_from}
use Rattle.mrc_mig_symbols.specs.Symbols.{unexpected_at}
use Rattle.mrc_mig_symbols.specs.Tables.{entry_of}
use Rattle.mrc_mig_tokens.specs.declared.edition.Edition.TheVariants.{First, Second, Received}
use Rattle.mrc_mig_tokens.specs.declared.symbol.Symbol.{Symbol}
use Rattle.mrc_mig_tokens.specs.declared.symbol.Symbol.TheVariants.{Name, Number, Sign, OpenBrace}
use Rattle.mrc_mig_tokens.specs.declared.symbol.Symbol.TheVariants.{CloseBrace, Line, Stray}
use Rattle.mrc_mig_tokens.specs.declared.tokens.LineMark.{LineMark}
use Rattle.mrc_mig_tokens.specs.Editions.{is_over, line_edition, edition_of}
use Rattle.mrc_mig_tokens.specs.Fronts.{front_at}
use Rattle.mrc_mig_tokens.specs.Lines.{line_of}
use Rattle.mrc_mig_tokens.specs.Symbols.{name_symbol, part_by}
use Rattle.mrc_mig_tokens.specs.Tokens.{Token, lex}
use Rattle.mrc_mig_tokens.specs.Sums.{step, ends, value_before, value_from, sum_at}

-- what the grammar sees of the tokens of a text
abbrev symbols_of : List ℕ → Result (List Symbol) LexFault
symbols_of text = lex text >>= λ lexed. Ok (map (λ (t : Token). t.symbol) lexed.tokens)

-- the places of its marks of lines
abbrev marks_of : List ℕ → Result (List LineMark) LexFault
marks_of text = lex text >>= λ lexed. Ok lexed.lines

-- braces are signs, and `@` is a stray
pub braces : symbols_of (codes "{x@}") ≡ Ok (OpenBrace ∷ Name ∷ Stray ∷ CloseBrace ∷ [])
unfolding front_at piece_at part_by name_symbol entry_of
braces = refl

-- a quote that is not closed, and what follows it
pub open_quote : symbols_of (quote ∷ codes "a <b") ≡ Ok (Stray ∷ Name ∷ Stray ∷ Name ∷ [])
unfolding front_at piece_at part_by name_symbol entry_of
open_quote = refl

-- a number that is too large
pub large_number : symbols_of (codes "2147483648 2147483647") ≡ Ok (Stray ∷ Number 2147483647 ∷ [])
unfolding front_at piece_at part_by name_symbol entry_of
large_number = refl

-- a `#` that is not first on its line
pub late_hash : symbols_of (codes "a # b") ≡ Ok (Name ∷ Stray ∷ Name ∷ [])
unfolding front_at piece_at part_by name_symbol entry_of
late_hash = refl

-- a character of two bytes is one stray
pub two_bytes : symbols_of (195 ∷ 188 ∷ codes "a") ≡ Ok (Stray ∷ Name ∷ [])
unfolding front_at piece_at part_by name_symbol entry_of
two_bytes = refl

-- the words of old forms are names
pub old_form : symbols_of (codes "function") ≡ Ok (Name ∷ [])
unfolding front_at piece_at part_by name_symbol entry_of
old_form = refl

-- a comment that is not closed
pub open_comment : symbols_of (codes "@ /*") ≡ Err (OpenComment 2)
unfolding front_at piece_at part_by name_symbol entry_of
open_comment = refl

-- `#pragma x` is a gap, and `#pragmas` none
pub pragma : symbols_of (codes "#pragma x" ++ line_feed ∷ codes "#pragmas") ≡ Ok (Line ∷ [])
unfolding front_at piece_at part_by name_symbol entry_of line_of directive_of without_blanks
    without_digits after_bytes after_digits
pragma = refl

-- `# 7` is a mark of lines
pub mark : marks_of (codes "x" ++ line_feed ∷ codes "# 7")
    ≡ Ok (record { at = 2; end = 5 } ∷ [])
unfolding front_at piece_at part_by name_symbol entry_of line_of directive_of without_blanks
    without_digits after_bytes after_digits
mark = refl

-- the line of the edition, with blanks between its words and without
pub second : line_edition (codes "# pragma  machcheck 2") ≡ Second
unfolding line_edition is_over after_bytes without_blanks is_empty_from
second = refl

pub no_blank : line_edition (codes "#pragmamachcheck 2") ≡ First
unfolding line_edition is_over after_bytes without_blanks is_empty_from
no_blank = refl

-- with a comment behind it
pub comment_behind : line_edition (codes "#pragma machcheck 2/* a */ ") ≡ Second
unfolding line_edition is_over after_bytes without_blanks is_empty_from
comment_behind = refl

-- as received
pub received : line_edition (codes "#pragma machcheck 2 received") ≡ Received
unfolding line_edition is_over after_bytes without_blanks is_empty_from
received = refl

pub no_blank_between : line_edition (codes "#pragma machcheck 2received") ≡ First
unfolding line_edition is_over after_bytes without_blanks is_empty_from
no_blank_between = refl

-- another number
pub third : line_edition (codes "#pragma machcheck 3") ≡ First
unfolding line_edition is_over after_bytes without_blanks is_empty_from
third = refl

-- behind a line of the preprocessor and a comment, and behind a token
pub behind_lines : edition_of
    (codes "#if 1" ++ line_feed ∷ codes "/* */" ++ line_feed ∷ codes "#pragma machcheck 2")
    ≡ Second
unfolding line_edition is_over after_bytes without_blanks is_empty_from piece_at
behind_lines = refl

pub behind_token : edition_of (codes ";" ++ line_feed ∷ codes "#pragma machcheck 2") ≡ First
unfolding line_edition is_over after_bytes without_blanks is_empty_from piece_at
behind_token = refl

-- a number and a sign, wherever they stand
abbrev number : ℕ → Token
number n = record { symbol = Number n; at = 0; bytes = [] }

abbrev sign : TokenSign → Token
sign s = record { symbol = Sign s; at = 0; bytes = [] }

-- `2*(3+1)]` is 8, before the bracket
pub product_of_a_sum : sum_at
    (number 2 ∷ sign Star ∷ sign OpenParenthesis ∷ number 3 ∷ sign Plus ∷ number 1 ∷ sign
    CloseParenthesis ∷ sign CloseBracket ∷ []) ≡ Ok (Some 8, sign CloseBracket ∷ [])
unfolding step ends value_before value_from sum_at
product_of_a_sum = refl

-- `2-3]`, `8/(1-1)]` and `(2-3)*0]` have no value
pub below_0 : sum_at (number 2 ∷ sign Minus ∷ number 3 ∷ sign CloseBracket ∷ [])
    ≡ Ok (None, sign CloseBracket ∷ [])
unfolding step ends value_before value_from sum_at
below_0 = refl

pub divided_by_0 : sum_at
    (number 8 ∷ sign Slash ∷ sign OpenParenthesis ∷ number 1 ∷ sign Minus ∷ number 1 ∷ sign
    CloseParenthesis ∷ sign CloseBracket ∷ []) ≡ Ok (None, sign CloseBracket ∷ [])
unfolding step ends value_before value_from sum_at
divided_by_0 = refl

pub part_below_0 : sum_at
    (sign OpenParenthesis ∷ number 2 ∷ sign Minus ∷ number 3 ∷ sign CloseParenthesis ∷ sign Star
    ∷ number 0 ∷ sign CloseBracket ∷ []) ≡ Ok (None, sign CloseBracket ∷ [])
unfolding step ends value_before value_from sum_at
part_below_0 = refl

-- `2 *]` stops at the bracket
pub no_operand : sum_at (number 2 ∷ sign Star ∷ sign CloseBracket ∷ []) ≡ Err (unexpected_at 1)
unfolding step ends value_before value_from sum_at
no_operand = refl
