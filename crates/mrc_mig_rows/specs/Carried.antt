-- Step. What a row that is left out may carry: of the parts of its parenthesis, and of the result
-- of a `function`, in the order of the text.
use Rattle.std.specs.Prelude.{ℕ, List, [], ◌∷◌, ◌++◌, length, map, filter, Bool, true, false}
use Rattle.std.specs.Prelude.{Option, Result, Ok, Err}
use Rattle.mrc_base.specs.Reading.{◌>>=◌}
use Rattle.mrc_mig_arguments.specs.declared.argument.Role.TheVariants as roles
use Rattle.mrc_mig_arguments.specs.Reading.{options_at}
use Rattle.mrc_mig_bodies.specs.Carried.{carries}
use Rattle.mrc_mig_bodies.specs.Parameters.{Parameter}
use Rattle.mrc_mig_bodies.specs.Roles.{settled}
use Rattle.mrc_mig_lex.specs.declared.token.Sign.TheVariants as signs
use Rattle.mrc_mig_symbols.specs.declared.fault.Stop.{Stop}
use Rattle.mrc_mig_tokens.specs.Reading.{first_of, tail_of, is_sign, after_sign, any_name_at}
use Rattle.mrc_mig_tokens.specs.Tokens.{Token}
use Rattle.mrc_mig_types.specs.declared.meaning.Meaning.{Meaning}
use Rattle.mrc_mig_types.specs.Reading.{spec_at}
use Rattle.mrc_mig_types.specs.Table.{Known, type_of}
use Rattle.mrc_mig_rows.specs.declared.carried.Carried.{Carried}
use Rattle.mrc_mig_rows.specs.declared.carried.Judges.{Judges}
use Rattle.mrc_mig_rows.specs.declared.kinds.RowKind.{RowKind}
use Rattle.mrc_mig_rows.specs.declared.kinds.RowKind.TheVariants as rows
use Rattle.mrc_mig_rows.specs.Kinds.{routine_kind}
use Rattle.mrc_mig_rows.specs.Parts.{View, parameter_in, unknown}

-- an argument that may carry rights: its name and its type's name
pub record Carrier : Type 0 where
  pub name : List ℕ
  pub type_name : List ℕ

-- what code keeps of it
abbrev pub carrier_of : Carried → Carrier
carrier_of carried = record { name = carried.name.now; type_name = carried.type_name.now }

-- the names of an argument
abbrev pub carrier_by : Parameter → Carrier
carrier_by a = record { name = a.name; type_name = a.type_name }

-- what a type's name means, by whether an equals sign follows: the type behind that, or what is
-- declared under the name
abbrev pub result_meaning_by : Bool → Known → List ℕ → List Token
    → Result (Option Meaning × List Token) Stop
result_meaning_by false types name tokens = Ok (type_of types name, tokens)
result_meaning_by true types name tokens = do
  found ← spec_at types (tail_of tokens)
  behind ← options_at found.1
  Ok (found.0, behind)

-- the same
unfoldable pub result_meaning_at : Known → List ℕ → List Token
    → Result (Option Meaning × List Token) Stop
result_meaning_at types name tokens =
    result_meaning_by (is_sign signs.Equals (first_of tokens)) types name tokens

-- `) : name [= spec {option}];`: the result of a `function` of this name, as an argument of a reply
unfoldable pub read_result_at : Known → List ℕ → List Token → Result Parameter Stop
read_result_at types name tokens = do
  before ← after_sign signs.CloseParenthesis tokens
  type ← after_sign signs.Colon before
  type_name ← any_name_at type
  found ← result_meaning_at types type_name.0 type_name.1
  end ← after_sign signs.Semicolon found.1
  Ok (record {
    role = roles.Out;
    name = name;
    type_name = type_name.0;
    meaning = found.0;
    counts = false;
    at = length before;
    name_at = length before;
    type_at = length type;
  })

-- the result, or what stands for it where it cannot be read
abbrev pub result_by : Result Parameter Stop → Parameter
result_by (Ok a) = a
result_by (Err stop) = unknown stop.left

unfoldable pub result_at : Known → List ℕ → List Token → Parameter
result_at types name end = result_by (read_result_at types name end)

-- the results that count, behind an opened parenthesis: one of a `function`, or none
abbrev pub results_by : Bool → RowKind → Known → List ℕ → List Token → List Parameter
results_by true rows.Function types name end = result_at types name end ∷ []
results_by _ _ types name end = []

-- all that may carry: an argument for each part, and the result
abbrev pub parameters_of : Known → RowKind → List ℕ → View → List Parameter
parameters_of types kind name view =
    map parameter_in view.pieces ++ results_by view.is_opened kind types name view.end

-- those of settled arguments that may carry rights
abbrev pub carrying : RowKind → Judges → List Parameter → List Carrier
carrying kind by arguments =
    map carrier_by (filter (carries (routine_kind kind) by.request by.reply) arguments)

-- what a row that is left out may carry
unfoldable pub carried_of : Known → RowKind → Judges → List ℕ → View → List Carrier
carried_of types kind by name view =
    carrying kind by (settled (parameters_of types kind name view))
