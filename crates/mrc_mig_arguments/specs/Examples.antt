-- Worked. Arguments of routines, as they are read. Worked examples of texts of the second edition,
-- with what each argument says and what is left behind it.
use Rattle.std.specs.Prelude.{◌≡◌, ℕ, List, [], length, codes, true, false, Some, None}
use Rattle.std.specs.Prelude.{Result, Ok, Err, refl}
use Rattle.mrc_base.specs.Reading.{◌>>=◌}
use Rattle.mrc_mig_lex.specs.declared.fault.LexFault.{LexFault}
use Rattle.mrc_mig_lex.specs.Pieces.{piece_at}
use Rattle.mrc_mig_symbols.specs.declared.fault.Stop.{Stop}
use Rattle.mrc_mig_symbols.specs.Symbols.{unexpected_at}
use Rattle.mrc_mig_symbols.specs.Tables.{entry_of}
use Rattle.mrc_mig_tokens.specs.Fronts.{front_at}
use Rattle.mrc_mig_tokens.specs.Reading.{first_of, text_of, tail_of, after_sign, any_name_at, many}
use Rattle.mrc_mig_tokens.specs.Sums.{step, ends, value_before, value_from, sum_at}
use Rattle.mrc_mig_tokens.specs.Symbols.{name_symbol, part_by}
use Rattle.mrc_mig_tokens.specs.Tokens.{Token, Lexed, lex}
use Rattle.mrc_mig_types.specs.declared.meaning.Meaning.{Meaning}
use Rattle.mrc_mig_types.specs.declared.meaning.Tag.TheVariants.{Fixed}
use Rattle.mrc_mig_types.specs.Basics.{basic_of}
use Rattle.mrc_mig_types.specs.Meanings.{item, bounded}
use Rattle.mrc_mig_types.specs.Reading.{basic_at, brackets_at}
use Rattle.mrc_mig_types.specs.Reading.{flag_at, begins_flag, flags_at, count_at, dimension_at}
use Rattle.mrc_mig_types.specs.Reading.{array_at, after_of, layer_at, layers_at, named_at, item_at}
use Rattle.mrc_mig_types.specs.Reading.{spec_at}
use Rattle.mrc_mig_types.specs.Table.{Known, nothing_known, undeclared, standard_of}
use Rattle.mrc_mig_arguments.specs.declared.argument.Role.TheVariants as marks
use Rattle.mrc_mig_arguments.specs.Words.{role_of_word, Written, says}
use Rattle.mrc_mig_arguments.specs.Reading.{name_behind, call_at, translation_at, payload_at}
use Rattle.mrc_mig_arguments.specs.Reading.{destructor_at, begins_option, option_at, options_at}
use Rattle.mrc_mig_arguments.specs.Reading.{role_at, meaning_at, flagged_at, argument_at}

-- the tokens of a text
abbrev tokens_by : Result Lexed LexFault → List Token
tokens_by (Ok lexed) = lexed.tokens
tokens_by (Err fault) = []

abbrev tokens_of : List ℕ → List Token
tokens_of text = tokens_by (lex text)

-- what the argument at the front of a text says, and how many tokens are left behind it
abbrev argument_of : Known → List ℕ → Result (Written × ℕ) Stop
argument_of types text =
    argument_at types (tokens_of text) >>= λ read. Ok (read.0, length read.1)

-- how many tokens are left behind the options at the front of a text
abbrev options_of : List ℕ → Result ℕ Stop
options_of text = options_at (tokens_of text) >>= λ rest. Ok (length rest)

-- an `int`
abbrev int : Meaning
int = item (Fixed 2) (Fixed 2) 32

-- no word stands in front of it, and its type is known
pub plain : argument_of nothing_known (codes "x : int; y : int")
    ≡ Ok (says marks.Unmarked (codes "x") (codes "int") (Some int) false 7 7 5, 4)
unfolding argument_at role_at meaning_at flagged_at flags_at begins_flag undeclared standard_of
    after_sign any_name_at first_of text_of tail_of many front_at piece_at part_by name_symbol
    entry_of role_of_word
plain = refl

-- a word in any case, and flags of which one asks for the count
pub counted : argument_of nothing_known (codes "OUT x : t, dealloc[], CountInOut)")
    ≡ Ok (says marks.Out (codes "x") (codes "t") None true 11 10 8, 1)
unfolding argument_at role_at meaning_at flagged_at flags_at flag_at begins_flag brackets_at
    undeclared standard_of after_sign any_name_at first_of text_of tail_of many front_at piece_at
    part_by name_symbol entry_of role_of_word
counted = refl

-- another flag asks for no count
pub not_counted : argument_of nothing_known (codes "ureplyport x : t, servercopy)")
    ≡ Ok (says marks.UserReplyPort (codes "x") (codes "t") None false 7 6 4, 1)
unfolding argument_at role_at meaning_at flagged_at flags_at flag_at begins_flag brackets_at
    undeclared standard_of after_sign any_name_at first_of text_of tail_of many front_at piece_at
    part_by name_symbol entry_of role_of_word
not_counted = refl

-- the type behind an equals sign counts, and not what is declared under its name
pub own_type : argument_of nothing_known (codes "a : int = array[*:4] of short ctype : b)")
    ≡ Ok (
      says marks.Unmarked (codes "a") (codes "int")
          (Some (bounded (Some 4) (item (Fixed 1) (Fixed 1) 16))) false 16 16 14,
      1,
    )
unfolding argument_at role_at meaning_at flagged_at flags_at begins_flag spec_at layers_at layer_at
    array_at dimension_at count_at after_of item_at named_at basic_at basic_of sum_at value_from
    value_before step ends options_at option_at begins_option name_behind undeclared standard_of
    after_sign any_name_at first_of text_of tail_of many front_at piece_at part_by name_symbol
    entry_of role_of_word
own_type = refl

-- a reserved word is no name, and the words of old forms are names
pub reserved : argument_of nothing_known (codes "in out : int") ≡ Err (unexpected_at 3)
unfolding argument_at role_at any_name_at first_of text_of tail_of front_at piece_at part_by
    name_symbol entry_of role_of_word
reserved = refl

pub old_form : argument_of nothing_known (codes "in function : int")
    ≡ Ok (says marks.In (codes "function") (codes "int") (Some int) false 4 3 1, 0)
unfolding argument_at role_at meaning_at flagged_at flags_at begins_flag undeclared standard_of
    after_sign any_name_at first_of text_of tail_of many front_at piece_at part_by name_symbol
    entry_of role_of_word
old_form = refl

-- no colon stands behind the name
pub no_colon : argument_of nothing_known (codes "x int; y : int") ≡ Err (unexpected_at 5)
unfolding argument_at role_at after_sign any_name_at first_of text_of tail_of front_at piece_at
    part_by name_symbol entry_of role_of_word
no_colon = refl

-- each option, and what is none
pub each_option : options_of
    (codes "intran : t f(u) InTranPayload : t g destructor : d(t) cusertype : c extra : x;")
    ≡ Ok 4
unfolding options_at option_at begins_option name_behind call_at translation_at payload_at
    destructor_at after_sign any_name_at first_of text_of tail_of many front_at piece_at part_by
    name_symbol entry_of
each_option = refl

-- a call that is not closed
pub open_call : options_of (codes "destructor : d(t;") ≡ Err (unexpected_at 1)
unfolding options_at option_at begins_option name_behind call_at destructor_at after_sign
    any_name_at first_of text_of tail_of many front_at piece_at part_by name_symbol entry_of
open_call = refl
