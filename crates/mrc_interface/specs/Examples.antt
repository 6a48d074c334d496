-- Worked. Forms and files. Worked examples of forms, and of files that are read.
use Rattle.std.specs.Prelude.{◌≡◌, ℕ, List, [], ◌∷◌, ◌++◌, Option, Some, None, Result, Ok, Err}
use Rattle.std.specs.Prelude.{refl, codes, option_map}
use Rattle.std.specs.Str.{is_utf8, chars}
use Rattle.mrc_mig_lex.specs.Pieces.{piece_at}
use Rattle.mrc_mig_lex.specs.declared.fault.LexFault.TheVariants.{BadCharacter}
use Rattle.mrc_mig_symbols.specs.Symbols.{many, symbol_of, first_of, text_of, tail_of, after_sign}
use Rattle.mrc_mig_symbols.specs.Symbols.{name_at}
use Rattle.mrc_mig_symbols.specs.Tables.{entry_of}
use Rattle.mrc_mig_symbols.specs.declared.word.Direction.{Direction}
use Rattle.mrc_mig_symbols.specs.declared.word.Direction.TheVariants.{In, Out, RequestPort}
use Rattle.mrc_mig_parse.specs.Types.{begins_layer, layers_at, flag_follows, declared_at, named_at}
use Rattle.mrc_mig_parse.specs.Types.{shape_at}
use Rattle.mrc_mig_parse.specs.Arguments.{begins_option, option_at, options_at, direction_at}
use Rattle.mrc_mig_parse.specs.Arguments.{argument_name_at, known_type_at, argument_type_at}
use Rattle.mrc_mig_parse.specs.Arguments.{argument_at, goes_on, next_argument, some_arguments_at}
use Rattle.mrc_mig_parse.specs.Arguments.{arguments_at, Item, items_of}
use Rattle.mrc_mig_parse.specs.Files.{Meaning, Routine, Skip, one, begins_line, line_at, lines_at}
use Rattle.mrc_mig_parse.specs.Files.{after_sides, number_at, named_number_at, heading_at, row_at}
use Rattle.mrc_mig_parse.specs.Files.{declaration_at, routine_at, statement_at, has_more}
use Rattle.mrc_mig_parse.specs.Files.{statements_at, meaning_of}
use Rattle.mrc_interface.specs.declared.fault.InterfaceFault.{InterfaceFault}
use Rattle.mrc_interface.specs.declared.fault.InterfaceFault.TheVariants.{IdRange}
use Rattle.mrc_model.specs.declared.RequestKind.TheVariants.{Simple}
use Rattle.mrc_forms.specs.declared.types.ItemTypes.TheVariants.{One}
use Rattle.mrc_forms.specs.Shapes.{items_of as items_of_shape}
use Rattle.mrc_forms.specs.declared.form.FormKind.TheVariants as kinds
use Rattle.mrc_forms.specs.declared.form.MessageKind.TheVariants.{Request, Reply}
use Rattle.mrc_forms.specs.Forms.{Argument, Form, return_code}
use Rattle.mrc_interface.specs.Subsystems.{table_of}
use Rattle.mrc_forms.specs.Tables.{Table, form_of}
use Rattle.mrc_interface.specs.Reading.{NoText, NoTokens, NoFile, interface_of, interfaces_of}

-- an argument of this name: one item of a type that has this number
abbrev item : List ℕ → Direction → ℕ → Item
item name direction type_number = record {
  name = name;
  direction = direction;
  shape = one type_number 32;
  type_name = codes "t";
}

-- the same in a body
abbrev argument : List ℕ → ℕ → Argument
argument name type_number = record { name = name; items = items_of_shape (one type_number 32) }

-- the routine `next`, with a request port, that takes an int and gives one, a skip, and the routine
-- `stop`, with a request port alone
abbrev two : Meaning
two = record {
  name = codes "two";
  base = 1000;
  rows =
      Routine (codes "next") (item (codes "port") RequestPort 19 ∷ item (codes "old") In 2
      ∷ item (codes "new") Out 2 ∷ []) ∷ Skip
      ∷ Routine (codes "stop") (item (codes "port") RequestPort 19 ∷ []) ∷ [];
}

-- the form that is found in a table
abbrev found_in : Result Table InterfaceFault → (Table → Option Form) → Option Form
found_in (Ok table) find = find table
found_in (Err fault) find = None

-- the request of this id
abbrev request_of : Meaning → ℕ → Option Form
request_of m id = found_in (table_of m) (λ table. form_of Request table id)

-- the reply of this id
abbrev reply_of : Meaning → ℕ → Option Form
reply_of m id = found_in (table_of m) (λ table. form_of Reply table id)

-- the request has the int that goes in
pub first_request : option_map (λ form. form.arguments) (request_of two 1000)
    ≡ Some (argument (codes "old") 2 ∷ [])
first_request = refl

-- the reply has the return code and the int that comes out
pub first_reply : option_map (λ form. form.arguments) (reply_of two 1100)
    ≡ Some (argument (codes "RetCode") 2 ∷ argument (codes "new") 2 ∷ [])
first_reply = refl

-- both have the name of their routine
pub request_named : option_map (λ form. form.name) (request_of two 1000) ≡ Some (codes "next")
request_named = refl

pub reply_named : option_map (λ form. form.name) (reply_of two 1100) ≡ Some (codes "next")
reply_named = refl

-- nothing stands at the id that is skipped
pub skipped : request_of two 1001 ≡ None
skipped = refl

-- the reply of the last routine has the return code alone
pub last_reply : option_map (λ form. form.arguments) (reply_of two 1102) ≡ Some (return_code ∷ [])
last_reply = refl

-- a port that comes out is the second argument of its reply
pub slot_of_a_reply :
    option_map (λ form. form.slots)
    (reply_of
    (record two {
      rows = Routine (codes "r") (item (codes "port") RequestPort 19
          ∷ item (codes "new") Out 19 ∷ []) ∷ [];
    }) 1100)
    ≡ Some (record { argument = 1; types = One 19; type_name = codes "t" } ∷ [])
slot_of_a_reply = refl

-- the id of a reply may be the last one
pub last_reply_fits :
    option_map (λ form. form.id)
    (reply_of (record two { base = 2147483547; rows = Routine (codes "r") [] ∷ [] }) 2147483647)
    ≡ Some 2147483647
last_reply_fits = refl

-- and no greater
pub one_id_too_many :
    table_of (record two { base = 2147483548; rows = Routine (codes "r") [] ∷ [] }) ≡ Err IdRange
one_id_too_many = refl

-- a file of one skip
pub file_of_a_skip : interface_of (codes "subsystem s 7; skip;")
    ≡ Ok (record {
      name = codes "s";
      base = 7;
      rows = record { request = None; reply = None } ∷ [];
    })
unfolding is_utf8 chars lib.Utf8.encode piece_at symbol_of many first_of text_of tail_of after_sign
    name_at entry_of begins_line line_at lines_at after_sides number_at named_number_at heading_at
    row_at statement_at has_more statements_at meaning_of
file_of_a_skip = refl

-- the names of a routine and of its arguments come from the text into the form
pub names_of_a_file : interface_of
    (codes "subsystem s 7; type t = MACH_MSG_TYPE_COPY_SEND; simpleroutine r(p : t; n : t);")
    ≡ Ok (record {
      name = codes "s";
      base = 7;
      rows =
          record {
            request = Some (record {
              name = codes "r";
              id = 7;
              kind = kinds.Request Simple;
              arguments = argument (codes "n") 19 ∷ [];
              slots =
                  record { argument = 0; types = One 19; type_name = codes "t" } ∷ [];
            });
            reply = None;
          } ∷ [];
    })
unfolding is_utf8 chars lib.Utf8.encode piece_at symbol_of many first_of text_of tail_of after_sign
    name_at entry_of begins_line line_at lines_at after_sides number_at named_number_at heading_at
    declaration_at begins_layer layers_at named_at shape_at options_at option_at begins_option
    flag_follows declared_at known_type_at argument_type_at direction_at argument_name_at
    argument_at goes_on next_argument some_arguments_at arguments_at items_of routine_at row_at
    statement_at has_more statements_at meaning_of
names_of_a_file = refl

-- no character begins with this byte, also in a comment
pub no_text : interface_of (codes "/*" ++ 255 ∷ codes "*/ @") ≡ Err NoText
unfolding is_utf8 chars
no_text = refl

-- no token begins so, and that is told before a word that cannot stand in front of it
pub no_tokens : interface_of (codes "skip; @") ≡ Err (NoTokens (BadCharacter 6))
unfolding is_utf8 chars lib.Utf8.encode piece_at
no_tokens = refl

-- the second file is the first that is refused
pub second_refused : interfaces_of
    (codes "subsystem s 7;" ∷ codes "skip;" ∷ (255 ∷ []) ∷ codes "subsystem t 8;" ∷ [])
    ≡ Err (record { file = 1; reason = NoFile })
unfolding is_utf8 chars lib.Utf8.encode piece_at symbol_of many first_of text_of tail_of after_sign
    name_at entry_of begins_line line_at lines_at after_sides number_at named_number_at heading_at
    row_at statement_at has_more statements_at meaning_of
second_refused = refl
