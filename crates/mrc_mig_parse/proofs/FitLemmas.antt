-- Counts, sizes and arguments of what is read are in their bounds.
use Rattle.std.proofs.Common.{◌≡◌, ℕ, ◌*◌, ◌<◌, ◌≤◌, Bool, true, false, cond, List, [], ◌∷◌}
use Rattle.std.proofs.Common.{◌++◌, length, map, Some, None, refl, ◌∙◌, subst, arith}
use Rattle.std.proofs.Common.{length-append, ◌==◌, count_by, if◌then◌else◌}
use Rattle.std.specs.Prelude.{◌&&◌, ◌||◌, not, nat_le, nat_lt}
use Rattle.std.specs.List.{list_all}
use Rattle.std.specs.Str.{bytes_eq}
use Rattle.std.proofs.lemmas.List.{length-map}
use Rattle.std.proofs.lemmas.List.Folds.{list_all-append, list_all-map}
use Rattle.std.proofs.lemmas.Bool.{and_from, and_parts, le-leb, lt-ltb, eqb-false}
use Rattle.std.proofs.lemmas.Option.{same_Some, cond_some}
use Rattle.mrc_base.specs.Limits.{limit_of_items, limit_of_arguments, limit_of_first_edition_ids}
use Rattle.mrc_mig_lex.specs.Tokens.{Lexeme}
use Rattle.mrc_mig_symbols.specs.declared.word.Basic.{Basic}
use Rattle.mrc_mig_symbols.specs.declared.word.Basic.TheVariants.{Plain}
use Rattle.mrc_mig_symbols.specs.Tables.{entry_of}
use Rattle.mrc_mig_symbols.specs.Words.{basics, basic_of}
use Rattle.mrc_forms.specs.declared.shape.Shape.{Shape}
use Rattle.mrc_mig_parse.specs.declared.types.Around.{Around}
use Rattle.mrc_mig_parse.specs.declared.types.Use.{Use}
use Rattle.mrc_mig_parse.specs.Types.{times, items, nested}
use Rattle.mrc_forms.specs.Shapes.{size_fits}
use Rattle.mrc_mig_parse.specs.Arguments.{Parameter, Item, as_written, as_request_port, is_in}
use Rattle.mrc_mig_parse.specs.Arguments.{is_of_port_type, is_marked, unmarked_items, items_of}
use Rattle.mrc_mig_parse.specs.Files.{Row, Routine, SimpleRoutine, Skip, State, table, with_row}
use Rattle.mrc_mig_parse.specs.Files.{is_declared, declared_with, declared_with_all, include_by}
use Rattle.mrc_mig_parse.specs.Files.{lines_at, statements_at}
use Rattle.mrc_mig_parse.specs.Bounds.{items_fit, row_fits}
use Rattle.mrc_forms.specs.Shapes.{shape_fits}
use Rattle.mrc_mig_parse.specs.Grammar.{IsCount, count, IsDimension, fixed, IsVariableDimension}
use Rattle.mrc_mig_parse.specs.Grammar.{not_variable, IsRoutine, named}
use Rattle.mrc_mig_parse.specs.Grammar.{at_most, IsLayer, array, struct, IsInnerType, basic, sized}
use Rattle.mrc_mig_parse.specs.Grammar.{string, declared, IsType, type, IsArgumentType, known, own}
use Rattle.mrc_mig_parse.specs.Grammar.{IsArgument, argument, IsNextArgument, next_argument}
use Rattle.mrc_mig_parse.specs.Grammar.{IsArguments, no_argument, some_arguments, IsLine, marker}
use Rattle.mrc_mig_parse.specs.Grammar.{include, IsStatement, line, declaration, routine}
use Rattle.mrc_mig_parse.specs.Grammar.{simple_routine, skip, note}
use Rattle.mrc_mig_parse.proofs.ManyPhrases.{any_keep}
use Rattle.mrc_mig_parse.proofs.PhraseLemmas.{in_two, behind_guard, where_true, where_false}
use Rattle.mrc_mig_parse.proofs.LinePhrases.{lines_are}
use Rattle.mrc_mig_parse.proofs.StatementListPhrases.{all_statements_are}

-- so many items there may be
abbrev number_fits : ℕ → Bool
number_fits n = nat_lt 0 n && nat_le n limit_of_items

some_there : (n : ℕ) → (n == 0) ≡ false → nat_lt 0 n ≡ true
some_there n some = lt-ltb 0 n (let other = eqb-false n 0 some in omega (arith, other))

times_fits : (around : Around) (n m : ℕ) → times around n ≡ Some m → number_fits m ≡ true
unfolding times
times_fits around n m e =
    let product = around.number * n in
    let (some, counted) = where_false (product == 0) _ m e in
    let (few, same) = where_true (nat_le product limit_of_items) (Some product) m counted in
    subst (λ k. number_fits k ≡ true) (same_Some product m same)
    (and_from (nat_lt 0 product) (nat_le product limit_of_items) (some_there product some) few)

count_fits : {around : Around} {tokens : List Lexeme} {number : ℕ} → IsCount around tokens number
    → number_fits number ≡ true
count_fits {around} (count {n = n} {number} is within closes) = times_fits around n number within

dimension_fits : {around inner : Around} {tokens : List Lexeme} → IsDimension around tokens inner
    → number_fits inner.number ≡ true
dimension_fits (fixed opens is) = count_fits is

variable_fits : {around inner : Around} {tokens : List Lexeme}
    → IsVariableDimension around tokens inner → number_fits inner.number ≡ true
variable_fits (not_variable dimension) = dimension_fits dimension
variable_fits (at_most outer opens star colon is) = count_fits is

layer_fits : {around inner : Around} {tokens : List Lexeme} → IsLayer around tokens inner
    → number_fits inner.number ≡ true
layer_fits (array word dimension of) = variable_fits dimension
layer_fits (struct word dimension of) = dimension_fits dimension

-- what a table has passes where all of its entries do
entry_passes : {X : Type 0} (test : X → Bool) (entries : List (List ℕ × X)) (name : List ℕ) (x : X)
    → list_all (λ e. test e.1) entries ≡ true → entry_of entries name ≡ Some x → test x ≡ true
unfolding entry_of
entry_passes test [] name x all e = absurd cc
entry_passes {X} test (entry ∷ others) name x all e =
    let (first, rest) = and_parts (test entry.1) (list_all (λ e. test e.1) others) all in
    by first (entry_passes test others name x rest) (bytes_eq name entry.0) e
  where
    by : test entry.1 ≡ true → (entry_of others name ≡ Some x → test x ≡ true) → (b : Bool)
        → cond b (Some entry.1) (entry_of others name) ≡ Some x → test x ≡ true
    by first more true f = subst (λ y. test y ≡ true) (same_Some entry.1 x f) first
    by first more false f = more f

-- a basic type's own size is one
abbrev basic_fits : Basic → Bool
basic_fits (Plain name size) = size_fits name size
basic_fits _ = true

plain_fits : (bytes : List ℕ) (name size : ℕ) → basic_of bytes ≡ Some (Plain name size)
    → size_fits name size ≡ true
plain_fits bytes name size e = entry_passes basic_fits basics bytes (Plain name size) refl e

-- types that are declared
abbrev types_fit : List (List ℕ × Shape) → Bool
types_fit types = list_all (λ (e : List ℕ × Shape). shape_fits e.1) types

nested_fits : (around : Around) (shape whole : Shape) → shape_fits shape ≡ true
    → nested around shape ≡ Some whole → shape_fits whole ≡ true
unfolding nested
nested_fits around shape whole fits e =
    let (apart, more) = behind_guard (not (around.is_inside && shape.is_bound)) _ whole e in
    let (number, counted, last) = in_two (times around shape.number) _ whole more in
    let (own_size, few) =
    and_parts (size_fits shape.name shape.size) (number_fits shape.number) fits in
    subst (λ s. shape_fits s ≡ true) (same_Some _ whole last)
    (and_from (size_fits shape.name shape.size) (number_fits number) own_size
    (times_fits around shape.number number counted))

inner_fits : {types : List (List ℕ × Shape)} {wanted : Use} {around : Around}
    {tokens : List Lexeme} {shape : Shape} → IsInnerType types wanted around tokens shape
    → types_fit types ≡ true → number_fits around.number ≡ true → shape_fits shape ≡ true
inner_fits {around = around} (basic {word = word} {name} {size} is found fits) all few =
    and_from (size_fits name size) (number_fits around.number)
    (plain_fits word.bytes name size found) few
inner_fits {around = around}
    (sized {name = name} {size = size} opens word found item comma expression fits closes) all few =
    and_from (size_fits name size) (number_fits around.number) fits few
inner_fits {around = around} (string {inner = inner} word fits dimension) all few =
    and_from (size_fits 12 8) (number_fits inner.number) refl (variable_fits dimension)
inner_fits {types} {around = around}
    (declared {name = name} {shape} {whole} is other found fits nests) all few =
    nested_fits around shape whole (entry_passes shape_fits types name.bytes shape all found) nests

type_fits : {types : List (List ℕ × Shape)} {wanted : Use} {tokens : List Lexeme} {shape : Shape}
    → IsType types wanted tokens shape → types_fit types ≡ true → shape_fits shape ≡ true
type_fits (type layers inner) all =
    inner_fits inner all (any_keep (λ (around : Around). number_fits around.number ≡ true)
    (λ a written b is few. layer_fits is) layers refl)

argument_type_fits : {types : List (List ℕ × Shape)} {wanted : Use} {tokens : List Lexeme}
    {name : List ℕ} {shape : Shape} → IsArgumentType types wanted tokens name shape
    → types_fit types ≡ true → shape_fits shape ≡ true
argument_type_fits {types} (known {name = name} {shape} is found fits) all =
    entry_passes shape_fits types name.bytes shape all found
argument_type_fits (own is_name equals is options) all = type_fits is all

-- arguments that were seen
abbrev seen_fit : List Parameter → Bool
seen_fit seen = list_all (λ (p : Parameter). shape_fits p.shape) seen

-- they are no more than there may be, and have such shapes
record SeenFit (seen : List Parameter) : Type 0 where
  pub few : length seen ≤ limit_of_arguments
  pub fit : seen_fit seen ≡ true

one_more_fits : {types : List (List ℕ × Shape)} {is_simple : Bool} {seen all : List Parameter}
    {tokens : List Lexeme} → IsArgument types is_simple seen tokens all
    → types_fit types ≡ true → SeenFit seen → SeenFit all
one_more_fits
    (argument {seen = seen} {way = way} {name} {shape = shape} {type_name} direction is_name new few
    colon has) types fit =
    let p : Parameter = record {
      name = name.bytes;
      direction = way;
      shape = shape;
      type_name = type_name;
    } in
    let last : seen_fit (p ∷ []) ≡ true =
    and_from (shape_fits shape) true (argument_type_fits has types) refl in
    record {
      few = rw (length-append seen (p ∷ [])) (omega arith);
      fit = list_all-append (λ (p : Parameter). shape_fits p.shape) seen (p ∷ [])
          ∙ and_from (seen_fit seen) (seen_fit (p ∷ [])) fit.fit last;
    }

next_fits : {types : List (List ℕ × Shape)} {is_simple : Bool} {seen all : List Parameter}
    {tokens : List Lexeme} → IsNextArgument types is_simple seen tokens all
    → types_fit types ≡ true → SeenFit seen → SeenFit all
next_fits (next_argument semicolon is) types fit = one_more_fits is types fit

arguments_fit : {types : List (List ℕ × Shape)} {is_simple : Bool} {all : List Parameter}
    {tokens : List Lexeme} → IsArguments types is_simple tokens all → types_fit types ≡ true
    → SeenFit all
arguments_fit no_argument types = record { few = omega arith; fit = refl }
arguments_fit (some_arguments first others) types =
    any_keep SeenFit (λ a written b is fit. next_fits is types fit) others
    (one_more_fits first types (record { few = omega arith; fit = refl }))

written_fit : (ps : List Parameter) → SeenFit ps → items_fit (map as_written ps) ≡ true
written_fit ps seen =
    let few = seen.few in
    and_from (nat_le (length (map as_written ps)) limit_of_arguments)
    (list_all (λ (item : Item). shape_fits item.shape) (map as_written ps))
    (le-leb (length (map as_written ps)) limit_of_arguments (rw (length-map ps as_written) few))
    (list_all-map (λ (item : Item). shape_fits item.shape) as_written ps ∙ seen.fit)

unmarked_fit : (ps : List Parameter) (found : List Item) → SeenFit ps
    → unmarked_items ps ≡ Some found → items_fit found ≡ true
unmarked_fit [] found seen e = absurd cc
unmarked_fit (p ∷ ps) found seen e =
    let (may, same) = cond_some (is_in p.direction && is_of_port_type p)
    (as_request_port p ∷ map as_written ps) found e in
    subst (λ items. items_fit items ≡ true) same (written_fit (p ∷ ps) seen)

resolved_fit : (ps : List Parameter) (found : List Item) → SeenFit ps → items_of ps ≡ Some found
    → items_fit found ≡ true
unfolding items_of
resolved_fit ps found seen e = by (count_by is_marked ps == 0) e
  where
    by : (b : Bool) → (if b then unmarked_items ps
        else if count_by is_marked ps == 1
        && list_all (λ p. not (is_marked p) || is_of_port_type p) ps
        then Some (map as_written ps)
        else None) ≡ Some found → items_fit found ≡ true
    by true f = unmarked_fit ps found seen f
    by false f =
        let (one, same) = cond_some (count_by is_marked ps == 1
        && list_all (λ p. not (is_marked p) || is_of_port_type p) ps)
        (map as_written ps) found f in
        subst (λ items. items_fit items ≡ true) same (written_fit ps seen)

-- what is declared so far
pub record StateFits (s : State) : Type 0 where
  pub types : types_fit s.types ≡ true
  pub few : length s.rows ≤ limit_of_first_edition_ids
  pub rows : list_all row_fits s.rows ≡ true

with_one : (types : List (List ℕ × Shape)) (name : List ℕ) (shape : Shape)
    → types_fit types ≡ true → shape_fits shape ≡ true
    → types_fit (types ++ (name, shape) ∷ []) ≡ true
with_one types name shape all fits =
    list_all-append (λ (e : List ℕ × Shape). shape_fits e.1) types ((name, shape) ∷ [])
    ∙ and_from (types_fit types) (types_fit ((name, shape) ∷ [])) all
    (and_from (shape_fits shape) true fits refl)

declared_fits : (types more : List (List ℕ × Shape)) (name : List ℕ) (shape : Shape)
    → types_fit types ≡ true → shape_fits shape ≡ true
    → declared_with types name shape ≡ Some more → types_fit more ≡ true
declared_fits types more name shape all fits e =
    let (new, same) = where_false (is_declared name types) _ more e in
    subst (λ t. types_fit t ≡ true) (same_Some _ more same) (with_one types name shape all fits)

each_declared_fits : (types others more : List (List ℕ × Shape)) → types_fit types ≡ true
    → types_fit others ≡ true → declared_with_all types others ≡ Some more → types_fit more ≡ true
unfolding declared_with_all
each_declared_fits types [] more all fits e =
    subst (λ t. types_fit t ≡ true) (same_Some types more e) all
each_declared_fits types (entry ∷ others) more all fits e =
    let (first, rest) = and_parts (shape_fits entry.1) (types_fit others) fits in
    let (next, declares, further) = in_two (declared_with types entry.0 entry.1) _ more e in
    each_declared_fits next others more
    (declared_fits types next entry.0 entry.1 all first declares) rest further

include_fits : (has_table : Bool) (s t : State) → StateFits s → include_by has_table s ≡ Some t
    → StateFits t
include_fits true s t fits e = subst StateFits (same_Some s t e) fits
include_fits false s t fits e =
    let (types, declares, last) = in_two (declared_with_all s.types table) _ t e in
    subst StateFits (same_Some _ t last) (record {
      types = each_declared_fits s.types table types fits.types refl declares;
      few = fits.few;
      rows = fits.rows;
    })

line_fits : {s t : State} {tokens : List Lexeme} → IsLine s tokens t → StateFits s → StateFits t
line_fits (marker is) fits = fits
line_fits (include {s = s} {t = t} is declares) fits = include_fits s.has_table s t fits declares

-- with one row more, where there may be one more
one_more_row : (s : State) (row : Row) → StateFits s → length s.rows < limit_of_first_edition_ids
    → row_fits row ≡ true → StateFits (with_row s row)
one_more_row s row all room fits = record {
  types = all.types;
  few = rw (length-append s.rows (row ∷ [])) (omega (arith, room));
  rows = list_all-append row_fits s.rows (row ∷ [])
      ∙ and_from (list_all row_fits s.rows) (list_all row_fits (row ∷ [])) all.rows
      (and_from (row_fits row) true fits refl);
}

routine_fits : {is_simple : Bool} {s : State} {tokens : List Lexeme} {name : List ℕ}
    {items : List Item} → IsRoutine is_simple s tokens name items → StateFits s
    → items_fit items ≡ true
routine_fits (named {all = all} {items = items} _ _ _ are _ resolved _) fits =
    resolved_fit all items (arguments_fit are fits.types) resolved

statement_fits : {s t : State} {tokens : List Lexeme} → IsStatement s tokens t → StateFits s
    → StateFits t
statement_fits (line is) fits = line_fits is fits
statement_fits (declaration {s = s} {name = name} {shape = shape} _ _ _ _ is _ _) fits = record {
  types = with_one s.types name.bytes shape fits.types (type_fits is fits.types);
  few = fits.few;
  rows = fits.rows;
}
statement_fits (routine {s = s} {name = name} {items = items} _ room is) fits =
    one_more_row s (Routine name items) fits room (routine_fits is fits)
statement_fits (simple_routine {s = s} {name = name} {items = items} _ room is) fits =
    one_more_row s (SimpleRoutine name items) fits room (routine_fits is fits)
statement_fits (skip {s = s} _ room _) fits = one_more_row s Skip fits room refl
statement_fits (note _ _) fits = fits

-- what a file that is read declares is in its bounds
pub all_fits : (first s t : State) (tokens rest more : List Lexeme) → first.types ≡ []
    → first.rows ≡ [] → lines_at first tokens ≡ Some (s, rest) → statements_at s more ≡ Some t
    → StateFits t
all_fits first s t tokens rest more no_types no_rows lines statements =
    let begun : StateFits first = record {
      types = rw no_types refl;
      few = rw no_rows (omega arith);
      rows = rw no_rows refl;
    } in
    any_keep StateFits (λ s written t is fits. statement_fits is fits)
    (all_statements_are s more t statements)
    (any_keep StateFits (λ s written t is fits. line_fits is fits)
    (lines_are first tokens s rest lines).2 begun)
