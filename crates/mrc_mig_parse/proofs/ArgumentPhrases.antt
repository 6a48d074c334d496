-- Arguments, read and spelled.
use Rattle.std.proofs.Common.{◌≡◌, ℕ, ◌<◌, Bool, true, false, List, [], ◌∷◌, ◌++◌, length, Option}
use Rattle.std.proofs.Common.{Some, refl, sym, ap, ◌∙◌, subst, append_assoc}
use Rattle.std.proofs.lemmas.Bool.{lt-ltb}
use Rattle.std.proofs.lemmas.Option.{same_Some}
use Rattle.mrc_base.specs.Limits.{limit_of_arguments}
use Rattle.mrc_mig_lex.specs.Tokens.{Lexeme}
use Rattle.mrc_mig_lex.specs.declared.token.Sign.TheVariants.{Semicolon, Colon, Equals}
use Rattle.mrc_mig_lex.specs.declared.token.Sign.TheVariants.{CloseParenthesis}
use Rattle.mrc_mig_symbols.specs.declared.symbol.Symbol.{Symbol}
use Rattle.mrc_mig_symbols.specs.declared.symbol.Symbol.TheVariants.{Word, Name, Sign}
use Rattle.mrc_mig_symbols.specs.declared.word.Direction.{Direction as Way}
use Rattle.mrc_mig_symbols.specs.declared.word.Word.TheVariants as words
use Rattle.mrc_mig_symbols.specs.Tables.{entry_of}
use Rattle.mrc_mig_symbols.specs.Symbols.{first_of, text_of, tail_of, after_sign, name_at}
use Rattle.mrc_forms.specs.declared.shape.Shape.{Shape}
use Rattle.mrc_mig_parse.specs.declared.types.Use.{Use}
use Rattle.mrc_mig_parse.specs.Types.{fits_use, flag_by, flag_follows, declared_by, declared_at}
use Rattle.mrc_mig_parse.specs.Types.{shape_at}
use Rattle.mrc_mig_parse.specs.Arguments.{Parameter, has_name, use_of, begins_option, is_option}
use Rattle.mrc_mig_parse.specs.Arguments.{options_at, direction_by, direction_at, argument_name_at}
use Rattle.mrc_mig_parse.specs.Arguments.{known_type_at, own_type_at, type_by, argument_type_at}
use Rattle.mrc_mig_parse.specs.Arguments.{argument_at}
use Rattle.mrc_mig_parse.specs.Grammar.{AnyOf, IsName, IsOption, c_type, translation, destructor}
use Rattle.mrc_mig_parse.specs.Grammar.{IsType, IsDirection, unmarked, marked, IsArgumentType}
use Rattle.mrc_mig_parse.specs.Grammar.{known, own, IsArgument, argument}
use Rattle.mrc_mig_parse.proofs.ManyPhrases.{Leads, any_lead}
use Rattle.mrc_mig_parse.proofs.PhraseLemmas.{in_two, guarded_not, guarded_less}
use Rattle.mrc_mig_parse.proofs.PhraseLemmas.{front, first_is, sign_is, sign_read, name_is}
use Rattle.mrc_mig_parse.proofs.PhraseLemmas.{name_read}
use Rattle.mrc_mig_parse.proofs.OptionPhrases.{options_is, options_read}
use Rattle.mrc_mig_parse.proofs.InnerTypePhrases.{declared_is}
use Rattle.mrc_mig_parse.proofs.TypePhrases.{ends_type, type_is, type_read}

-- behind an argument comes another one, or the end of the arguments
abbrev pub ends_argument : Symbol → Bool
ends_argument (Sign Semicolon) = true
ends_argument (Sign CloseParenthesis) = true
ends_argument _ = false

direction_is_by : (is_simple : Bool) (seen : List Parameter) (tokens : List Lexeme)
    (found : Option Way × List Lexeme) (symbol : Symbol) → first_of tokens ≡ symbol
    → direction_by symbol seen is_simple tokens ≡ Some found
    → Leads (λ w. IsDirection is_simple seen w found.0) tokens found.1
direction_is_by is_simple seen tokens found (Word (words.Direction way)) is e =
    let alone = guarded_not _ _ found e in
    let few = guarded_less _ _ _ found alone.1 in
    let word = front (Word (words.Direction way)) tokens refl is in
    subst (λ f. Leads (λ w. IsDirection is_simple seen w f.0) tokens f.1) (same_Some _ _ few.1)
    (word.token ∷ [], word.splits, marked word.is alone.0)
direction_is_by is_simple seen tokens found _ is e =
    subst (λ f. Leads (λ w. IsDirection is_simple seen w f.0) tokens f.1) (same_Some _ _ e)
    ([], refl, unmarked)

direction_is : (is_simple : Bool) (seen : List Parameter) (tokens : List Lexeme) (found : Option Way
    × List Lexeme) → direction_at seen is_simple tokens ≡ Some found
    → Leads (λ w. IsDirection is_simple seen w found.0) tokens found.1
unfolding direction_at
direction_is is_simple seen tokens found e = direction_is_by is_simple seen tokens found
    (first_of tokens) refl e

direction_read : (is_simple : Bool) (seen : List Parameter) (written : List Lexeme)
    (way : Option Way) (name : Lexeme) (rest : List Lexeme) → IsDirection is_simple seen written way
    → IsName name → length seen < limit_of_arguments
    → direction_at seen is_simple (written ++ name ∷ rest) ≡ Some (way, name ∷ rest)
unfolding direction_at first_of tail_of
direction_read is_simple seen _ _ name rest unmarked is few = rw is.seen refl
direction_read is_simple seen _ _ name rest (marked word alone) is few = let less =
    lt-ltb (length seen) limit_of_arguments few in rw (word.seen, alone, less) refl

-- these tokens begin with an argument's type
abbrev pub ArgumentTypeIs : List (List ℕ × Shape) → Use → List Lexeme
    → (List ℕ × Shape) × List Lexeme → Type 0
ArgumentTypeIs types wanted tokens found =
    Leads (λ w. IsArgumentType types wanted w found.0.0 found.0.1) tokens found.1

own_type_is : (types : List (List ℕ × Shape)) (wanted : Use) (tokens : List Lexeme)
    (found : (List ℕ × Shape) × List Lexeme) → first_of (tail_of tokens) ≡ Sign Equals
    → own_type_at types wanted tokens ≡ Some found
    → ArgumentTypeIs types wanted tokens found
unfolding own_type_at tail_of
own_type_is types wanted tokens found is e =
    let name = in_two (name_at tokens) _ found e in
    let shape = in_two (shape_at types wanted (tail_of name.0.1)) _ found name.2 in
    let options = in_two (options_at shape.0.1) _ found shape.2 in
    let named = name_is tokens name.0 name.1 in
    let behind : tail_of tokens ≡ name.0.1 = ap tail_of named.1 in
    let equals = front (Sign Equals) name.0.1 refl (sym (ap first_of behind) ∙ is) in
    let type = type_is types wanted (tail_of name.0.1) shape.0.0 shape.0.1 shape.1 in
    let others = options_is shape.0.1 options.0 options.1 in
    let regroup = append_assoc type.0 others.0 options.0 in
    let written : List Lexeme = named.0 ∷ equals.token ∷ (type.0 ++ others.0) in
    let joined : tokens ≡ written ++ options.0 = cc in
    subst (λ f. ArgumentTypeIs types wanted tokens f) (same_Some _ _ options.2) (
      written,
      joined,
      subst (λ n. IsArgumentType types wanted written n shape.0.0) named.3
          (own named.2 equals.is type.2 others.2),
    )

known_type_is : (types : List (List ℕ × Shape)) (wanted : Use) (tokens : List Lexeme)
    (found : (List ℕ × Shape) × List Lexeme) → first_of tokens ≡ Name
    → known_type_at types wanted tokens ≡ Some found
    → ArgumentTypeIs types wanted tokens found
unfolding known_type_at declared_at text_of
known_type_is types wanted tokens found is e =
    let shape = in_two (declared_by (entry_of types (text_of tokens)) wanted tokens) _ found e in
    let flags = guarded_not _ _ found shape.2 in
    let declared = declared_is (entry_of types (text_of tokens)) wanted tokens shape.0 shape.1 in
    let name = front Name tokens refl is in
    let joined : tokens ≡ name.token ∷ shape.0.1 = name.splits
    ∙ ap (λ t. name.token ∷ t) declared.2 in
    let named = known name.is (sym (ap (λ b. entry_of types b) name.text) ∙ declared.0)
    declared.1 in
    subst (λ f. ArgumentTypeIs types wanted tokens f) (same_Some _ _ flags.1) (
      name.token ∷ [],
      joined,
      subst (λ n. IsArgumentType types wanted (name.token ∷ []) n shape.0.0)
          (sym name.text) named,
    )

argument_type_is_by : (types : List (List ℕ × Shape)) (wanted : Use) (tokens : List Lexeme)
    (found : (List ℕ × Shape) × List Lexeme) (symbol next : Symbol) → first_of tokens ≡ symbol
    → first_of (tail_of tokens) ≡ next
    → type_by symbol next types wanted tokens ≡ Some found
    → ArgumentTypeIs types wanted tokens found
argument_type_is_by types wanted tokens found Name (Sign Equals) is behind e =
    own_type_is types wanted tokens found behind e
argument_type_is_by types wanted tokens found Name _ is behind e =
    known_type_is types wanted tokens found is e
argument_type_is_by types wanted tokens found _ _ is behind e = absurd cc

argument_type_is : (types : List (List ℕ × Shape)) (wanted : Use) (tokens : List Lexeme)
    (found : (List ℕ × Shape) × List Lexeme) → argument_type_at types wanted tokens ≡ Some found
    → ArgumentTypeIs types wanted tokens found
unfolding argument_type_at
argument_type_is types wanted tokens found e = argument_type_is_by types wanted tokens found
    (first_of tokens) (first_of (tail_of tokens)) refl refl e

-- what ends an argument ends a type, and is no option and no flag
ends_all : (symbol : Symbol) (tokens : List Lexeme) → ends_argument symbol ≡ true
    → (ends_type symbol ≡ true) × (is_option symbol ≡ false) × (flag_by symbol tokens ≡ false)
ends_all (Sign Semicolon) tokens e = (refl, refl, refl)
ends_all (Sign CloseParenthesis) tokens e = (refl, refl, refl)
ends_all _ tokens e = absurd cc

-- behind an argument or a statement's last phrase there is no option
no_option_follows : (rest : List Lexeme) → ends_argument (first_of rest) ≡ true
    → begins_option rest ≡ false
unfolding begins_option
no_option_follows rest e = (ends_all (first_of rest) rest e).1

no_flag_follows : (rest : List Lexeme) → ends_argument (first_of rest) ≡ true
    → flag_follows rest ≡ false
unfolding flag_follows
no_flag_follows rest e = (ends_all (first_of rest) rest e).2

option_ends_type : (option rest : List Lexeme) → IsOption option
    → ends_type (first_of (option ++ rest)) ≡ true
unfolding first_of
option_ends_type _ rest (c_type word colon name) = rw word.seen refl
option_ends_type _ rest (translation word colon name called) = rw word.seen refl
option_ends_type _ rest (destructor word colon called) = rw word.seen refl

-- behind a type come options and then the end of what it stands in
pub options_end_type : (options rest : List Lexeme) → AnyOf IsOption options
    → ends_argument (first_of rest) ≡ true → ends_type (first_of (options ++ rest)) ≡ true
options_end_type options rest are e =
    any_lead (λ t. ends_type (first_of t) ≡ true)
    (λ a option b rest is. option_ends_type option rest is) rest are
    (ends_all (first_of rest) rest e).0

-- a type and its options
pub typed_read : (types : List (List ℕ × Shape)) (wanted : Use) (type options : List Lexeme)
    (shape : Shape) (rest : List Lexeme) → IsType types wanted type shape → AnyOf IsOption options
    → ends_argument (first_of rest) ≡ true
    → (shape_at types wanted (type ++ (options ++ rest)) ≡ Some (shape, options ++ rest))
    × (options_at (options ++ rest) ≡ Some rest)
typed_read types wanted type options shape rest is others e = (
  type_read types wanted type shape (options ++ rest) is (options_end_type options rest others e),
  options_read options rest others (no_option_follows rest e) (no_flag_follows rest e),
)

known_by : (types : List (List ℕ × Shape)) (wanted : Use) (tokens : List Lexeme) (symbol : Symbol)
    → ends_argument symbol ≡ true
    → type_by Name symbol types wanted tokens ≡ known_type_at types wanted tokens
known_by types wanted tokens (Sign Semicolon) e = refl
known_by types wanted tokens (Sign CloseParenthesis) e = refl
known_by types wanted tokens _ e = absurd cc

known_type_read : (types : List (List ℕ × Shape)) (wanted : Use) (name : Lexeme) (shape : Shape)
    (rest : List Lexeme) → entry_of types name.bytes ≡ Some shape
    → fits_use wanted shape.name ≡ true → flag_follows rest ≡ false
    → known_type_at types wanted (name ∷ rest) ≡ Some ((name.bytes, shape), rest)
unfolding known_type_at declared_at text_of tail_of
known_type_read types wanted name shape rest entry fits flag = rw (entry, fits, flag) refl

own_type_read : (types : List (List ℕ × Shape)) (wanted : Use) (name equals : Lexeme)
    (type options : List Lexeme) (shape : Shape) (rest : List Lexeme) → IsName name
    → IsType types wanted type shape → AnyOf IsOption options
    → ends_argument (first_of rest) ≡ true
    → own_type_at types wanted (name ∷ equals ∷ ((type ++ options) ++ rest))
    ≡ Some ((name.bytes, shape), rest)
unfolding own_type_at tail_of
own_type_read types wanted name equals type options shape rest is has others e =
    let named = name_read (equals ∷ ((type ++ options) ++ rest)) is in
    let regroup = append_assoc type options rest in
    let typed = typed_read types wanted type options shape rest has others e in
    let kinded = typed.0 in
    let ended = typed.1 in
    rw (named, regroup, kinded, ended) refl

argument_type_read : (types : List (List ℕ × Shape)) (wanted : Use) (written : List Lexeme)
    (name : List ℕ) (shape : Shape) (rest : List Lexeme)
    → IsArgumentType types wanted written name shape → ends_argument (first_of rest) ≡ true
    → argument_type_at types wanted (written ++ rest) ≡ Some ((name, shape), rest)
unfolding argument_type_at tail_of
argument_type_read types wanted _ _ shape rest (known {name} is entry fits) e =
    ap (λ s. type_by s (first_of rest) types wanted (name ∷ rest)) (first_is rest is)
    ∙ known_by types wanted (name ∷ rest) (first_of rest) e
    ∙ known_type_read types wanted name shape rest entry fits (no_flag_follows rest e)
argument_type_read types wanted _ _ shape rest
    (own {name} {equals} {type} {options} named is has others) e =
    let tokens : List Lexeme = equals ∷ ((type ++ options) ++ rest) in
    ap (λ s. type_by s (first_of tokens) types wanted (name ∷ tokens))
    (first_is tokens (record { seen = named.seen }))
    ∙ ap (λ s. type_by Name s types wanted (name ∷ tokens))
    (first_is ((type ++ options) ++ rest) is)
    ∙ own_type_read types wanted name equals type options shape rest named has others e

argument_name_is : (seen : List Parameter) (tokens : List Lexeme) (found : List ℕ × List Lexeme)
    → argument_name_at seen tokens ≡ Some found
    → (token : Lexeme) × (tokens ≡ token ∷ found.1) × IsName token × (token.bytes ≡ found.0)
    × (has_name token.bytes seen ≡ false) × (length seen < limit_of_arguments)
unfolding argument_name_at
argument_name_is seen tokens found e =
    let name = in_two (name_at tokens) _ found e in
    let new = guarded_not _ _ found name.2 in
    let few = guarded_less _ _ _ found new.1 in
    let same = same_Some name.0 found few.1 in
    let named = name_is tokens name.0 name.1 in (
      named.0,
      named.1 ∙ ap (λ f. named.0 ∷ f.1) same,
      named.2,
      named.3
          ∙ ap (λ f. f.0) same,
      ap (λ b. has_name b seen) named.3 ∙ new.0,
      few.0,
    )

pub argument_is : (types : List (List ℕ × Shape)) (is_simple : Bool) (seen : List Parameter)
    (tokens : List Lexeme) (found : List Parameter × List Lexeme)
    → argument_at types is_simple seen tokens ≡ Some found
    → Leads (λ w. IsArgument types is_simple seen w found.0) tokens found.1
unfolding argument_at
argument_is types is_simple seen tokens found e =
    let way = in_two (direction_at seen is_simple tokens) _ found e in
    let name = in_two (argument_name_at seen way.0.1) _ found way.2 in
    let colon = in_two (after_sign Colon name.0.1) _ found name.2 in
    let type = in_two (argument_type_at types (use_of way.0.0) colon.0) _ found colon.2 in
    let direction = direction_is is_simple seen tokens way.0 way.1 in
    let named = argument_name_is seen way.0.1 name.0 name.1 in
    let sign = sign_is Colon name.0.1 colon.0 colon.1 in
    let typed = argument_type_is types (use_of way.0.0) colon.0 type.0 type.1 in
    let written : List Lexeme = direction.0 ++ named.0 ∷ sign.0 ∷ typed.0 in
    let regroup = append_assoc direction.0 (named.0 ∷ sign.0 ∷ typed.0) type.0.1 in
    let joined : tokens ≡ written ++ type.0.1 = cc in
    let is = argument direction.2 named.2 named.4 named.5 sign.2 typed.2 in
    subst (λ f. Leads (λ w. IsArgument types is_simple seen w f.0) tokens f.1)
    (same_Some _ _ type.2) (
      written,
      joined,
      subst (λ n. IsArgument types is_simple seen written (seen ++ (record {
        name = n;
        direction = way.0.0;
        shape = type.0.0.1;
        type_name = type.0.0.0;
      }) ∷ [])) named.3 is,
    )

argument_name_read : (seen : List Parameter) (name : Lexeme) (rest : List Lexeme) → IsName name
    → has_name name.bytes seen ≡ false → length seen < limit_of_arguments
    → argument_name_at seen (name ∷ rest) ≡ Some (name.bytes, rest)
unfolding argument_name_at
argument_name_read seen name rest is new few =
    let named = name_read rest is in
    let less = lt-ltb (length seen) limit_of_arguments few in
    rw (named, new, less) refl

pub argument_read : (types : List (List ℕ × Shape)) (is_simple : Bool) (seen : List Parameter)
    (written : List Lexeme) (all : List Parameter) (rest : List Lexeme)
    → IsArgument types is_simple seen written all → ends_argument (first_of rest) ≡ true
    → argument_at types is_simple seen (written ++ rest) ≡ Some (all, rest)
unfolding argument_at
argument_read types is_simple seen _ _ rest
    (argument {direction = direction} {type} {way} {name} {colon} {shape} {type_name} marks is new
    few sign has) e =
    let regroup = append_assoc direction (name ∷ colon ∷ type) rest in
    let directed = direction_read is_simple seen direction way name (colon ∷ (type ++ rest)) marks
    is few in
    let named = argument_name_read seen name (colon ∷ (type ++ rest)) is new few in
    let signed = sign_read (type ++ rest) sign in
    let typed = argument_type_read types (use_of way) type type_name shape rest has e in
    rw (regroup, directed, named, signed, typed) refl
