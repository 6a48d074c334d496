-- Types without what is around them are read exactly where they stand.
use Rattle.std.proofs.Common.{◌≡◌, ℕ, true, false, not, List, [], ◌∷◌, ◌++◌, Option, Some, None}
use Rattle.std.proofs.Common.{refl, sym, ap, ◌∙◌, subst, append_assoc, if◌then◌else◌}
use Rattle.std.proofs.lemmas.Option.{same_Some}
use Rattle.mrc_mig_lex.specs.Tokens.{Lexeme}
use Rattle.mrc_mig_lex.specs.declared.token.Sign.TheVariants.{Comma, OpenParenthesis}
use Rattle.mrc_mig_lex.specs.declared.token.Sign.TheVariants.{CloseParenthesis}
use Rattle.mrc_mig_symbols.specs.declared.symbol.Symbol.{Symbol}
use Rattle.mrc_mig_symbols.specs.declared.symbol.Symbol.TheVariants.{Word, Name, Sign}
use Rattle.mrc_mig_symbols.specs.declared.word.Basic.{Basic}
use Rattle.mrc_mig_symbols.specs.declared.word.Basic.TheVariants.{Plain}
use Rattle.mrc_mig_symbols.specs.declared.word.Word.TheVariants as words
use Rattle.mrc_mig_symbols.specs.Tables.{entry_of}
use Rattle.mrc_mig_symbols.specs.Words.{basic_of}
use Rattle.mrc_mig_symbols.specs.Symbols.{first_of, text_of, tail_of}
use Rattle.mrc_mig_symbols.specs.Expressions.{expression_at}
use Rattle.mrc_mig_symbols.specs.ExpressionGrammar.{goes_on}
use Rattle.mrc_forms.specs.declared.shape.Shape.{Shape}
use Rattle.mrc_mig_parse.specs.declared.types.Around.{Around}
use Rattle.mrc_mig_parse.specs.declared.types.Use.{Use}
use Rattle.mrc_mig_parse.specs.Types.{fits_use, items, is_layer, flag_follows, is_bar}
use Rattle.mrc_mig_parse.specs.Types.{basic_item, size_at, basic_by, basic_at, sized_at}
use Rattle.mrc_forms.specs.Shapes.{size_fits}
use Rattle.mrc_mig_parse.specs.Types.{plain_by, declared_by, declared_at, named_by, named_at}
use Rattle.mrc_mig_parse.specs.Types.{string_at, shape_by}
use Rattle.mrc_mig_parse.specs.Grammar.{Is, IsExpression, IsInnerType, basic, sized, string}
use Rattle.mrc_mig_parse.specs.Grammar.{declared}
use Rattle.mrc_mig_parse.proofs.ManyPhrases.{Leads}
use Rattle.mrc_mig_parse.proofs.PhraseLemmas.{in_two, goes_to, behind_guard, guarded_not, guarded}
use Rattle.mrc_mig_parse.proofs.PhraseLemmas.{where_true, Front, front, first_is, tail_is, text_is}
use Rattle.mrc_mig_parse.proofs.PhraseLemmas.{sign_is, sign_read}
use Rattle.mrc_mig_parse.proofs.DimensionPhrases.{expression_is, expression_read}
use Rattle.mrc_mig_parse.proofs.DimensionPhrases.{variable_dimension_is, variable_dimension_read}

-- a type stands in front of the rest
abbrev IsInnerAt : List (List ℕ × Shape) → Use → Around → List Lexeme → Shape × List Lexeme
    → Type 0
IsInnerAt types wanted around tokens found =
    Leads (λ w. IsInnerType types wanted around w found.0) tokens found.1

plain_is : (types : List (List ℕ × Shape)) (wanted : Use) (around : Around) (tokens : List Lexeme)
    (found : Shape × List Lexeme) (type : Basic) → Front Name tokens
    → basic_of (text_of tokens) ≡ Some type
    → plain_by type around wanted tokens ≡ Some found
    → IsInnerAt types wanted around tokens found
plain_is types wanted around tokens found (Plain number size) f is e =
    let (fits, more) = behind_guard (fits_use wanted number) _ _ e in
    let (no_bar, last) = behind_guard (not (is_bar (first_of (tail_of tokens)))) _ _ more in
    let basically : basic_of f.token.bytes ≡ Some (Plain number size) =
    ap (λ t. basic_of t) (sym f.text) ∙ is in
    subst (λ r. IsInnerAt types wanted around tokens r) (same_Some _ _ last)
    (f.token ∷ [], f.splits, basic f.is basically fits)
plain_is types wanted around tokens found _ f is e = absurd cc

-- a declared type that is read
pub declared_is : (entry : Option Shape) (wanted : Use) (tokens : List Lexeme) (found : Shape
    × List Lexeme) → declared_by entry wanted tokens ≡ Some found
    → (entry ≡ Some found.0) × (fits_use wanted found.0.name ≡ true) × (tail_of tokens ≡ found.1)
declared_is None wanted tokens found e = absurd cc
declared_is (Some shape) wanted tokens found e =
    let (fits, last) = behind_guard (fits_use wanted shape.name) _ found e in
    let same = same_Some _ _ last in
    let fitting = sym (ap (λ f. fits_use wanted f.0.name) same) ∙ fits in
    (ap (λ f. Some f.0) same, fitting, ap (λ f. f.1) same)

named_is : (types : List (List ℕ × Shape)) (wanted : Use) (around : Around) (tokens : List Lexeme)
    (found : Shape × List Lexeme) (type : Option Basic) → Front Name tokens
    → basic_of (text_of tokens) ≡ type
    → named_by type types around wanted tokens ≡ Some found
    → IsInnerAt types wanted around tokens found
unfolding declared_at
named_is types wanted around tokens found (Some type) f is e =
    plain_is types wanted around tokens found type f is e
named_is types wanted around tokens found None f is e =
    let (inner, read, more) = in_two _ _ _ e in
    let (whole, nests, last) = in_two _ _ _ more in
    let d = declared_is (entry_of types (text_of tokens)) wanted tokens inner read in
    let no_basic : basic_of f.token.bytes ≡ None = ap (λ t. basic_of t) (sym f.text) ∙ is in
    let entry : entry_of types f.token.bytes ≡ Some inner.0 =
    ap (λ t. entry_of types t) (sym f.text) ∙ d.0 in
    subst (λ r. IsInnerAt types wanted around tokens r) (same_Some _ _ last)
    (f.token ∷ [], f.splits ∙ ap (λ t. f.token ∷ t) d.2, declared f.is no_basic entry d.1 nests)

basic_is_by : (symbol : Symbol) (tokens : List Lexeme) (type : Basic) → first_of tokens ≡ symbol
    → basic_by symbol tokens ≡ Some type
    → Front Name tokens × (basic_of (text_of tokens) ≡ Some type)
basic_is_by Name tokens type first e = (front Name tokens refl first, e)
basic_is_by _ tokens type first e = absurd cc

size_is : (number : ℕ) (tokens : List Lexeme) (found : ℕ × List Lexeme)
    → size_at number tokens ≡ Some found
    → (expression_at tokens ≡ Some found) × (size_fits number found.0 ≡ true)
unfolding size_at
size_is number tokens found e =
    let (read, expressed, last) = in_two _ _ _ e in
    let (fits, same) = where_true (size_fits number read.0) (Some read) found last in
    (expressed ∙ same, sym (ap (λ r. size_fits number r.0) (same_Some read found same)) ∙ fits)

-- `( name , size )`
sized_is : (types : List (List ℕ × Shape)) (wanted : Use) (around : Around) (tokens : List Lexeme)
    (found : (ℕ × ℕ) × List Lexeme) → Front (Sign OpenParenthesis) tokens
    → sized_at wanted (tail_of tokens) ≡ Some found
    → IsInnerAt types wanted around tokens (items around found.0.0 found.0.1, found.1)
unfolding sized_at basic_at
sized_is types wanted around tokens found opens e =
    let (type, named, numbering) = in_two _ _ _ e in
    let (item, numbered, barring) = in_two _ _ _ numbering in
    let (no_bar, separating) = guarded_not _ _ _ barring in
    let (before, separated, sizing) = in_two _ _ _ separating in
    let (size, sizes, flagging) = in_two _ _ _ sizing in
    let (no_flag, closing) = guarded_not _ _ _ flagging in
    let (behind, closed, last) = in_two _ _ _ closing in
    let (name, is_type) = basic_is_by (first_of (tail_of tokens)) (tail_of tokens) type refl
    named in
    let comma = sign_is Comma (tail_of (tail_of tokens)) before separated in
    let (expressed, fits) = size_is item.0 before size sizes in
    let expression = expression_is before size.0 size.1 expressed in
    let closes = sign_is CloseParenthesis size.1 behind closed in
    let inside : before ≡ (expression.0 ++ closes.0 ∷ []) ++ behind = expression.1
    ∙ ap (λ t. expression.0 ++ t) closes.1
    ∙ sym (append_assoc expression.0 (closes.0 ∷ []) behind) in
    let basically : basic_of name.token.bytes ≡ Some type = ap (λ t. basic_of t) (sym name.text)
    ∙ is_type in
    subst (λ f. IsInnerAt types wanted around tokens (items around f.0.0 f.0.1, f.1))
    (same_Some _ _ last) (
      opens.token ∷ name.token ∷ comma.0 ∷ (expression.0 ++ closes.0 ∷ []),
      opens.splits ∙ ap (λ t. opens.token ∷ t) (name.splits
          ∙ ap (λ t. name.token ∷ t) (comma.1 ∙ ap (λ t. comma.0 ∷ t) inside)),
      sized opens.is name.is basically numbered comma.2 expression.2 fits closes.2,
    )

inner_is_by : (symbol : Symbol) (types : List (List ℕ × Shape)) (wanted : Use) (around : Around)
    (tokens : List Lexeme) (found : Shape × List Lexeme) → first_of tokens ≡ symbol
    → shape_by symbol types around wanted tokens ≡ Some found
    → IsInnerAt types wanted around tokens found
unfolding named_at string_at
inner_is_by Name types wanted around tokens found first e =
    named_is types wanted around tokens found (basic_of (text_of tokens))
    (front Name tokens refl first) refl e
inner_is_by (Word words.CString) types wanted around tokens found first e =
    let (fits, more) = behind_guard (fits_use wanted 12) _ _ e in
    let (dimension, read, last) = in_two _ _ _ more in
    let f = front (Word words.CString) tokens refl first in
    let d = variable_dimension_is around (tail_of tokens) dimension.0 dimension.1 read in
    subst (λ r. IsInnerAt types wanted around tokens r) (same_Some _ _ last)
    (f.token ∷ d.0, f.splits ∙ ap (λ t. f.token ∷ t) d.1, string f.is fits d.2)
inner_is_by (Sign OpenParenthesis) types wanted around tokens found first e =
    let (read, sizes, last) = in_two _ _ _ e in
    subst (λ r. IsInnerAt types wanted around tokens r) (same_Some _ _ last)
    (sized_is types wanted around tokens read (front (Sign OpenParenthesis) tokens refl first)
    sizes)
inner_is_by _ types wanted around tokens found first e = absurd cc

-- a type that is read stands there
pub inner_type_is : (types : List (List ℕ × Shape)) (wanted : Use) (around : Around)
    (tokens : List Lexeme) (shape : Shape) (rest : List Lexeme)
    → shape_by (first_of tokens) types around wanted tokens ≡ Some (shape, rest)
    → Leads (λ w. IsInnerType types wanted around w shape) tokens rest
inner_type_is types wanted around tokens shape rest e =
    inner_is_by (first_of tokens) types wanted around tokens (shape, rest) refl e

no_flag_at_closing : (closes : Lexeme) (tokens : List Lexeme) → Is (Sign CloseParenthesis) closes
    → flag_follows (closes ∷ tokens) ≡ false
unfolding flag_follows
no_flag_at_closing closes tokens is = rw (first_is tokens is) refl

size_read : (number : ℕ) (tokens : List Lexeme) (size : ℕ) (rest : List Lexeme)
    → expression_at tokens ≡ Some (size, rest) → size_fits number size ≡ true
    → size_at number tokens ≡ Some (size, rest)
unfolding size_at
size_read number tokens size rest e fits = goes_to _ e
    ∙ ap (λ b. if b then Some (size, rest) else None) fits

-- `name , size )` is read
sized_read : (wanted : Use) (name comma closes : Lexeme) (expression : List Lexeme) (type : Basic)
    (number usual size : ℕ) (rest : List Lexeme) → Is Name name → basic_of name.bytes ≡ Some type
    → basic_item type wanted ≡ Some (number, usual)
    → Is (Sign Comma) comma → IsExpression expression size → size_fits number size ≡ true
    → Is (Sign CloseParenthesis) closes
    → sized_at wanted (name ∷ comma ∷ ((expression ++ closes ∷ []) ++ rest))
    ≡ Some ((number, size), rest)
unfolding sized_at basic_at
sized_read wanted name comma closes expression type number usual size rest naming found numbered
    separates is fits closing =
    let stops : goes_on (first_of (closes ∷ rest)) ≡ false =
    ap (λ s. goes_on s) (first_is rest closing) in
    let inside : List Lexeme = (expression ++ closes ∷ []) ++ rest in
    let read : expression_at inside ≡ Some (size, closes ∷ rest) =
    ap (λ t. expression_at t) (append_assoc expression (closes ∷ []) rest)
    ∙ expression_read expression size (closes ∷ rest) is stops in
    let is_comma = first_is inside separates in
    rw (first_is (comma ∷ inside) naming, text_is name (comma ∷ inside), found)
    (goes_to _ numbered
    ∙ rw (tail_is name (comma ∷ inside), is_comma)
    (goes_to _ (sign_read inside separates)
    ∙ goes_to _ (size_read number inside size (closes ∷ rest) read fits)
    ∙ rw (no_flag_at_closing closes rest closing) (goes_to _ (sign_read rest closing))))

-- a declared type is read
pub declared_read : (types : List (List ℕ × Shape)) (wanted : Use) (name : Lexeme) (shape : Shape)
    (rest : List Lexeme) → entry_of types name.bytes ≡ Some shape
    → fits_use wanted shape.name ≡ true
    → declared_at types wanted (name ∷ rest) ≡ Some (shape, rest)
unfolding declared_at
declared_read types wanted name shape rest entry fits =
    rw (text_is name rest, entry, tail_is name rest) (guarded (Some (shape, rest)) fits)

-- a type that stands in front of the rest is read
pub inner_type_read : (types : List (List ℕ × Shape)) (wanted : Use) (around : Around)
    (written : List Lexeme) (shape : Shape) (rest : List Lexeme)
    → IsInnerType types wanted around written shape → is_bar (first_of rest) ≡ false
    → shape_by (first_of (written ++ rest)) types around wanted (written ++ rest)
    ≡ Some (shape, rest)
unfolding named_at string_at
inner_type_read types wanted around _ _ rest
    (basic {word = name} {name = number} {size = size} is found fits) no_bar =
    rw (first_is rest is, text_is name rest, found, tail_is name rest, no_bar)
    (guarded (Some (items around number size, rest)) fits)
inner_type_read types wanted around _ _ rest
    (sized {opens = opens} {word = name} {comma = comma} {closes = closes} {expression = expression}
    {type = type} {name = number} {usual = usual} {size = size} opening is found numbered separates
    expressed fits closing) no_bar =
    let inside : List Lexeme = name ∷ comma ∷ ((expression ++ closes ∷ []) ++ rest) in
    rw (first_is inside opening, tail_is opens inside)
    (goes_to _ (sized_read wanted name comma closes expression type number usual size rest is found
    numbered separates expressed fits closing))
inner_type_read types wanted around _ _ rest
    (string {word = word} {dimension = dimension} {inner = inner} is fits dimensioned) no_bar =
    rw (first_is (dimension ++ rest) is, tail_is word (dimension ++ rest))
    (guarded _ fits ∙ goes_to _ (variable_dimension_read around dimension inner rest dimensioned))
inner_type_read types wanted around _ shape rest
    (declared {name = name} {shape = found} is no_basic entry fits nests) no_bar =
    rw (first_is rest is, text_is name rest, no_basic)
    (goes_to _ (declared_read types wanted name found rest entry fits) ∙ goes_to _ nests)

-- and it begins with no array and no struct
pub begins_no_layer : {types : List (List ℕ × Shape)} {wanted : Use} {around : Around}
    {written : List Lexeme} {shape : Shape} (rest : List Lexeme)
    → IsInnerType types wanted around written shape → is_layer (first_of (written ++ rest)) ≡ false
begins_no_layer rest (basic is found fits) = ap (λ s. is_layer s) (first_is rest is)
begins_no_layer rest
    (sized {word = name} {comma = comma} {closes = closes} {expression = expression} opening is
    found numbered separates expressed fits closing) =
    ap (λ s. is_layer s) (first_is (name ∷ comma ∷ ((expression ++ closes ∷ []) ++ rest)) opening)
begins_no_layer rest (string {dimension = dimension} is fits dimensioned) =
    ap (λ s. is_layer s) (first_is (dimension ++ rest) is)
begins_no_layer rest (declared is no_basic entry fits nests) =
    ap (λ s. is_layer s) (first_is rest is)
