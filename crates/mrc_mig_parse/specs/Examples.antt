-- Worked. Meanings of tokens. Worked examples of what tokens mean.
use Rattle.std.specs.Prelude.{◌≡◌, ℕ, List, [], ◌∷◌, false, Some, Err, refl, codes}
use Rattle.mrc_mig_lex.specs.Tokens.{Lexeme}
use Rattle.mrc_mig_lex.specs.declared.token.Sign.{Sign}
use Rattle.mrc_mig_lex.specs.declared.token.Sign.TheVariants.{Semicolon, Colon, OpenParenthesis}
use Rattle.mrc_mig_lex.specs.declared.token.Sign.TheVariants.{CloseParenthesis, OpenBracket}
use Rattle.mrc_mig_lex.specs.declared.token.Sign.TheVariants.{CloseBracket, Comma, Equals}
use Rattle.mrc_mig_lex.specs.declared.token.TokenKind.{TokenKind}
use Rattle.mrc_mig_lex.specs.declared.token.TokenKind.TheVariants as kinds
use Rattle.mrc_mig_symbols.specs.declared.fault.ParseFault.TheVariants.{Unexpected, NoRequestPort}
use Rattle.mrc_mig_symbols.specs.declared.word.Direction.TheVariants.{RequestPort}
use Rattle.mrc_mig_parse.specs.declared.types.Use.TheVariants.{Any}
use Rattle.mrc_mig_symbols.specs.Symbols.{many, symbol_of, first_of, text_of, tail_of, after_sign}
use Rattle.mrc_mig_symbols.specs.Symbols.{name_at, many_stop, name_stop}
use Rattle.mrc_mig_symbols.specs.Tables.{entry_of}
use Rattle.mrc_mig_symbols.specs.Directives.{directive_of, after_bytes, without_blanks}
use Rattle.mrc_mig_symbols.specs.Directives.{is_empty_from}
use Rattle.mrc_mig_symbols.specs.Expressions.{with_operand, value_of, next_product, step, ends}
use Rattle.mrc_mig_symbols.specs.Expressions.{whole_value, value_before, value_from, expression_at}
use Rattle.mrc_mig_parse.specs.Types.{times, dimension_at, variable_dimension_at, after_of}
use Rattle.mrc_mig_parse.specs.Types.{array_at, structure_at, layer_at, begins_layer, layers_at}
use Rattle.mrc_mig_parse.specs.Types.{flag_follows, declared_at, nested, named_at, shape_at}
use Rattle.mrc_mig_parse.specs.Types.{basic_at, sized_at}
use Rattle.mrc_mig_parse.specs.Arguments.{direction_at, argument_name_at, known_type_at}
use Rattle.mrc_mig_parse.specs.Arguments.{argument_type_at, argument_at, goes_on, next_argument}
use Rattle.mrc_mig_parse.specs.Arguments.{some_arguments_at, arguments_at, items_of}
use Rattle.mrc_mig_parse.specs.Files.{SimpleRoutine, one, declared_with_all, begins_line, line_at}
use Rattle.mrc_mig_parse.specs.Files.{lines_at, after_sides, number_at, named_number_at, heading_at}
use Rattle.mrc_mig_parse.specs.Files.{routine_at, row_at, statement_at, has_more, statements_at}
use Rattle.mrc_mig_parse.specs.Files.{meaning_of, declaration_at}
use Rattle.mrc_mig_parse.specs.Stops.{line_stop, lines_stop, named_number_stop, heading_stop}
use Rattle.mrc_mig_parse.specs.Stops.{statement_stop, statements_stop, declaration_stop}
use Rattle.mrc_mig_parse.specs.Stops.{layer_stop, layers_stop, size_part_stop, sized_stop}
use Rattle.mrc_mig_parse.specs.Stops.{shape_stop, arguments_stop, closing_stop, routine_stop}
use Rattle.mrc_mig_parse.specs.Stops.{row_stop, file_stop, meaning_or_fault}

-- a word, wherever it stands
abbrev word : List ℕ → Lexeme
word bytes = record { kind = kinds.Name; at = 0; bytes = bytes }

-- a number, wherever it stands
abbrev number : ℕ → Lexeme
number n = record { kind = kinds.Number n; at = 0; bytes = [] }

-- a sign, wherever it stands
abbrev sign : Sign → Lexeme
sign s = record { kind = kinds.Sign s; at = 0; bytes = [] }

-- a line of the preprocessor, wherever it stands
abbrev line : List ℕ → Lexeme
line bytes = record { kind = kinds.Directive; at = 0; bytes = bytes }

-- `struct[2] of array[3] of short;` has six items
pub nested_counts : shape_at ((codes "short", one 1 16) ∷ []) Any
    (word (codes "struct") ∷ sign OpenBracket ∷ number 2 ∷ sign CloseBracket ∷ word (codes "of")
    ∷ word (codes "array") ∷ sign OpenBracket ∷ number 3 ∷ sign CloseBracket ∷ word (codes "of")
    ∷ word (codes "short") ∷ sign Semicolon ∷ [])
    ≡ Some (record { name = 1; size = 16; number = 6; is_bound = false }, sign Semicolon ∷ [])
unfolding with_operand value_of next_product step ends whole_value value_before value_from
    expression_at symbol_of many first_of text_of tail_of after_sign entry_of times dimension_at
    variable_dimension_at after_of array_at structure_at layer_at begins_layer layers_at
    flag_follows declared_at nested named_at shape_at
nested_counts = refl

-- a subsystem of one simpleroutine, whose one argument is the request port
pub one_simpleroutine : meaning_of
    (word (codes "Subsystem") ∷ word (codes "ping") ∷ number 500 ∷ sign Semicolon ∷ line
    (codes "#include <mach/std_types.defs>") ∷ word (codes "simpleroutine") ∷ word (codes "ping")
    ∷ sign OpenParenthesis ∷ word (codes "server") ∷ sign Colon ∷ word (codes "mach_port_t") ∷ sign
    CloseParenthesis ∷ sign Semicolon ∷ [])
    ≡ Some (record {
      name = codes "ping";
      base = 500;
      rows =
          SimpleRoutine (codes "ping") (record {
            name = codes "server";
            direction = RequestPort;
            shape = one 19 32;
            type_name = codes "mach_port_t";
          } ∷ []) ∷ [];
    })
unfolding symbol_of many first_of text_of tail_of after_sign name_at entry_of directive_of
    after_bytes without_blanks is_empty_from flag_follows declared_at direction_at argument_name_at
    known_type_at argument_type_at argument_at goes_on next_argument some_arguments_at arguments_at
    items_of declared_with_all begins_line line_at lines_at after_sides number_at named_number_at
    heading_at routine_at row_at statement_at has_more statements_at meaning_of
one_simpleroutine = refl

-- a token of this kind at this place
abbrev token : TokenKind → ℕ → List ℕ → Lexeme
token kind at bytes = record { kind = kind; at = at; bytes = bytes }

-- `subsystem s 1;` and then `type t = (MACH_MSG_TYPE_CHAR dealloc, 8);` stops at the flag
pub flag_in_front_of_a_size : meaning_or_fault
    (token kinds.Name 0 (codes "subsystem") ∷ token kinds.Name 10 (codes "s")
    ∷ token (kinds.Number 1) 12 (codes "1") ∷ token (kinds.Sign Semicolon) 13 (codes ";")
    ∷ token kinds.Name 15 (codes "type") ∷ token kinds.Name 20 (codes "t")
    ∷ token (kinds.Sign Equals) 22 (codes "=")
    ∷ token (kinds.Sign OpenParenthesis) 24 (codes "(")
    ∷ token kinds.Name 25 (codes "MACH_MSG_TYPE_CHAR") ∷ token kinds.Name 44 (codes "dealloc")
    ∷ token (kinds.Sign Comma) 51 (codes ",") ∷ token (kinds.Number 8) 53 (codes "8")
    ∷ token (kinds.Sign CloseParenthesis) 54 (codes ")")
    ∷ token (kinds.Sign Semicolon) 55 (codes ";") ∷ []) ≡ Err (Unexpected 44)
unfolding symbol_of many many_stop first_of text_of tail_of after_sign name_at name_stop entry_of
    begins_line line_at lines_at line_stop lines_stop after_sides number_at named_number_at
    heading_at named_number_stop heading_stop has_more statement_at statement_stop statements_at
    statements_stop declaration_at declaration_stop begins_layer layer_at layers_at layer_stop
    layers_stop basic_at size_part_stop sized_at sized_stop shape_at shape_stop file_stop
    meaning_of meaning_or_fault
flag_in_front_of_a_size = refl

-- `subsystem s 1; routine r()` misses a request port at the parenthesis, and not its semicolon
pub no_request_port : meaning_or_fault
    (token kinds.Name 0 (codes "subsystem") ∷ token kinds.Name 10 (codes "s")
    ∷ token (kinds.Number 1) 12 (codes "1") ∷ token (kinds.Sign Semicolon) 13 (codes ";")
    ∷ token kinds.Name 15 (codes "routine") ∷ token kinds.Name 23 (codes "r")
    ∷ token (kinds.Sign OpenParenthesis) 24 (codes "(")
    ∷ token (kinds.Sign CloseParenthesis) 25 (codes ")") ∷ []) ≡ Err (NoRequestPort 25)
unfolding symbol_of many many_stop first_of text_of tail_of after_sign name_at name_stop entry_of
    begins_line line_at lines_at line_stop lines_stop after_sides number_at named_number_at
    heading_at named_number_stop heading_stop has_more statement_at statement_stop statements_at
    statements_stop arguments_at arguments_stop items_of closing_stop routine_at routine_stop row_at
    row_stop file_stop meaning_of meaning_or_fault
no_request_port = refl

-- `subsystem s` misses its number at the end of the last token
pub no_number : meaning_or_fault
    (token kinds.Name 0 (codes "subsystem") ∷ token kinds.Name 10 (codes "s") ∷ [])
    ≡ Err (Unexpected 11)
unfolding symbol_of many many_stop first_of text_of tail_of after_sign name_at name_stop entry_of
    begins_line line_at lines_at line_stop lines_stop after_sides number_at named_number_at
    heading_at named_number_stop heading_stop file_stop meaning_of meaning_or_fault
no_number = refl
