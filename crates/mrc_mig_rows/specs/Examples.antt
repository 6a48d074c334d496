-- Worked. Statements, and the words for which rows are left out, by hand.
use Rattle.std.specs.Prelude.{◌≡◌, [], ◌∷◌, codes, Some, None, Ok, Err, refl}
use Rattle.mrc_mig_bodies.specs.declared.objections.LeftOutWord.TheVariants as found
use Rattle.mrc_mig_lex.specs.declared.token.Sign.{Sign}
use Rattle.mrc_mig_lex.specs.declared.token.Sign.TheVariants as signs
use Rattle.mrc_mig_symbols.specs.Symbols.{unexpected_at}
use Rattle.mrc_mig_symbols.specs.Tables.{entry_of}
use Rattle.mrc_mig_tokens.specs.declared.symbol.Symbol.{Symbol}
use Rattle.mrc_mig_tokens.specs.declared.symbol.Symbol.TheVariants as symbols
use Rattle.mrc_mig_tokens.specs.Reading.{first_of, tail_of, after_sign}
use Rattle.mrc_mig_tokens.specs.Tokens.{Token}
use Rattle.mrc_mig_rows.specs.declared.kinds.RowKind.TheVariants as rows
use Rattle.mrc_mig_rows.specs.declared.kinds.StatementKind.TheVariants as kinds
use Rattle.mrc_mig_rows.specs.declared.words.RowWord.TheVariants as words
use Rattle.mrc_mig_rows.specs.Ends.{end_from, statement_end}
use Rattle.mrc_mig_rows.specs.Headings.{skip_at}
use Rattle.mrc_mig_rows.specs.Kinds.{kind_of_name}
use Rattle.mrc_mig_rows.specs.Words.{early_word, first_told, told}

-- a token at the front of a text
abbrev token : Symbol → Token
token symbol = record { symbol = symbol; at = 0; bytes = [] }

abbrev sign : Sign → Token
sign s = token (symbols.Sign s)

-- `{ ; } ; x`: a statement goes up to its second semicolon
pub braces : statement_end
    (token symbols.OpenBrace ∷ sign signs.Semicolon ∷ token symbols.CloseBrace
    ∷ sign signs.Semicolon ∷ token symbols.Name ∷ [])
    ≡ Ok (token symbols.Name ∷ [])
unfolding statement_end end_from first_of tail_of
braces = refl

-- `( } ;`: signs are counted together
pub together : statement_end
    (sign signs.OpenParenthesis ∷ token symbols.CloseBrace ∷ sign signs.Semicolon ∷ [])
    ≡ Ok []
unfolding statement_end end_from first_of tail_of
together = refl

-- `x ) ;`: nothing is open at the parenthesis
pub closes_nothing : statement_end
    (token symbols.Name ∷ sign signs.CloseParenthesis ∷ sign signs.Semicolon ∷ [])
    ≡ Err (unexpected_at 2)
unfolding statement_end end_from first_of tail_of
closes_nothing = refl

-- `Function` begins a row, in any case
pub function : kind_of_name (codes "Function") ≡ Some (kinds.Row rows.Function)
unfolding kind_of_name entry_of
function = refl

-- `3;` behind `skip`, and `;`
pub skips_three : skip_at (token (symbols.Number 3) ∷ sign signs.Semicolon ∷ []) ≡ Ok 3
unfolding skip_at after_sign first_of tail_of
skips_three = refl

pub skips_one : skip_at (sign signs.Semicolon ∷ []) ≡ Ok 1
unfolding skip_at after_sign first_of tail_of
skips_one = refl

-- the id of a routine leaves room for that of its reply
pub last_routine : early_word rows.Routine 1 2147483547 ≡ None
last_routine = refl

pub out_of_range : early_word rows.Routine 1 2147483548 ≡ Some words.IdRange
out_of_range = refl

pub last_simple : early_word rows.SimpleRoutine 1 2147483647 ≡ None
last_simple = refl

-- the thousandth id is taken before, which counts before the form
pub too_many : early_word rows.Function 1000 2147483648 ≡ Some words.TooMany
too_many = refl

-- of two words the one at the first place counts: more tokens are left there
pub type_first : first_told (Some 4) (Some (record { at = 7; word = found.UnknownType }))
    ≡ Some (told words.UnknownType 7)
type_first = refl

-- at one place the token counts
pub token_first : first_told (Some 7) (Some (record { at = 7; word = found.NoRequestPort }))
    ≡ Some (told words.Unexpected 7)
token_first = refl
