-- Statements that are read are spelled.
use Rattle.std.proofs.Common.{◌≡◌, ℕ, ◌<◌, Bool, true, false, List, [], ◌∷◌, ◌++◌, length, Option}
use Rattle.std.proofs.Common.{Some, refl, sym, ap, ◌∙◌, subst, append_assoc}
use Rattle.std.proofs.lemmas.Option.{same_Some}
use Rattle.mrc_base.specs.Limits.{limit_of_first_edition_ids}
use Rattle.mrc_mig_lex.specs.Tokens.{Lexeme}
use Rattle.mrc_mig_lex.specs.declared.token.Sign.TheVariants.{Semicolon, Equals, OpenParenthesis}
use Rattle.mrc_mig_lex.specs.declared.token.Sign.TheVariants.{CloseParenthesis}
use Rattle.mrc_mig_symbols.specs.declared.symbol.Symbol.{Symbol}
use Rattle.mrc_mig_symbols.specs.declared.symbol.Symbol.TheVariants.{Word, Text, Directive}
use Rattle.mrc_mig_symbols.specs.declared.word.Word.{Word as Reserved}
use Rattle.mrc_mig_symbols.specs.declared.word.Word.TheVariants as words
use Rattle.mrc_mig_symbols.specs.Symbols.{symbol_of, first_of, tail_of, after_sign}
use Rattle.mrc_mig_symbols.specs.Symbols.{name_at}
use Rattle.mrc_mig_parse.specs.declared.types.Use.TheVariants.{Any}
use Rattle.mrc_mig_parse.specs.Types.{shape_at}
use Rattle.mrc_mig_parse.specs.Arguments.{Item, options_at, arguments_at, items_of}
use Rattle.mrc_mig_parse.specs.Files.{State, is_declared, declaration_at}
use Rattle.mrc_mig_parse.specs.Files.{is_routine, routine_at, row_by, row_at, is_imported}
use Rattle.mrc_mig_parse.specs.Files.{is_text, import_at, rcsid_at, prefix_at, unchanged, worded_by}
use Rattle.mrc_mig_parse.specs.Files.{statement_by, statement_at}
use Rattle.mrc_mig_parse.specs.Grammar.{Is, IsRoutine, named as routine_named, IsNote, import}
use Rattle.mrc_mig_parse.specs.Grammar.{prefix, rcsid, IsStatement, line, declaration, routine}
use Rattle.mrc_mig_parse.specs.Grammar.{simple_routine, skip, note}
use Rattle.mrc_mig_parse.proofs.PhraseLemmas.{in_two, behind_guard, guarded_not, guarded_less}
use Rattle.mrc_mig_parse.proofs.PhraseLemmas.{front, sign_is, name_is}
use Rattle.mrc_mig_parse.proofs.ManyPhrases.{Leads}
use Rattle.mrc_mig_parse.proofs.OptionPhrases.{options_is}
use Rattle.mrc_mig_parse.proofs.TypePhrases.{type_is}
use Rattle.mrc_mig_parse.proofs.StatementReadings.{regroup_declaration}
use Rattle.mrc_mig_parse.proofs.ArgumentListPhrases.{arguments_are}
use Rattle.mrc_mig_parse.proofs.LinePhrases.{directive_is}

-- these tokens begin with a statement
abbrev StatementIs : State → List Lexeme → State × List Lexeme → Type 0
StatementIs s tokens found = Leads (λ w. IsStatement s w found.0) tokens found.1

declaration_is : (s : State) (tokens : List Lexeme) (found : State × List Lexeme)
    → first_of tokens ≡ Word words.Type → declaration_at s (tail_of tokens) ≡ Some found
    → StatementIs s tokens found
unfolding declaration_at
declaration_is s tokens found is e =
    let name = in_two (name_at (tail_of tokens)) _ found e in
    let new = guarded_not _ _ found name.2 in
    let before = in_two (after_sign Equals name.0.1) _ found new.1 in
    let shape = in_two (shape_at s.types Any before.0) _ found before.2 in
    let after = in_two (options_at shape.0.1) _ found shape.2 in
    let end = in_two (after_sign Semicolon after.0) _ found after.2 in
    let word = front (Word words.Type) tokens refl is in
    let named = name_is (tail_of tokens) name.0 name.1 in
    let equals = sign_is Equals name.0.1 before.0 before.1 in
    let type = type_is s.types Any before.0 shape.0.0 shape.0.1 shape.1 in
    let options = options_is shape.0.1 after.0 after.1 in
    let semicolon = sign_is Semicolon after.0 end.0 end.1 in
    let written : List Lexeme =
    word.token ∷ named.0 ∷ equals.0 ∷ (type.0 ++ options.0 ++ semicolon.0 ∷ []) in
    let regroup = regroup_declaration type.0 options.0 semicolon.0 end.0 in
    let joined : tokens ≡ written ++ end.0 = word.splits ∙ ap (λ t. word.token ∷ t) (named.1
    ∙ ap (λ t. named.0 ∷ t) (equals.1 ∙ ap (λ t. equals.0 ∷ t) (type.1
    ∙ ap (λ t. type.0 ++ t) (options.1 ∙ ap (λ t. options.0 ++ t) semicolon.1) ∙ sym regroup))) in
    let fresh = ap (λ b. is_declared b s.types) named.3 ∙ new.0 in
    subst (λ f. StatementIs s tokens f) (same_Some _ _ end.2) (
      written,
      joined,
      subst (λ n. IsStatement s written (record s { types = s.types ++ (n, shape.0.0) ∷ [] }))
          named.3
          (declaration {semicolon = semicolon.0} {type = type.0} {options = options.0} word.is
          named.2 fresh equals.2 type.2 options.2 semicolon.2),
    )

-- what stands behind the word of a routine
routine_is : (is_simple : Bool) (s : State) (tokens : List Lexeme) (found : (List ℕ × List Item)
    × List Lexeme) → routine_at is_simple s tokens ≡ Some found
    → Leads (λ w. IsRoutine is_simple s w found.0.0 found.0.1) tokens found.1
unfolding routine_at
routine_is is_simple s tokens found e =
    let name = in_two (name_at tokens) _ found e in
    let new = guarded_not _ _ found name.2 in
    let inside = in_two (after_sign OpenParenthesis name.0.1) _ found new.1 in
    let all = in_two (arguments_at s.types is_simple inside.0) _ found inside.2 in
    let closed = in_two (after_sign CloseParenthesis all.0.1) _ found all.2 in
    let items = in_two (items_of all.0.0) _ found closed.2 in
    let end = in_two (after_sign Semicolon closed.0) _ found items.2 in
    let named = name_is tokens name.0 name.1 in
    let opens = sign_is OpenParenthesis name.0.1 inside.0 inside.1 in
    let arguments = arguments_are s.types is_simple inside.0 all.0 all.1 in
    let closes = sign_is CloseParenthesis all.0.1 closed.0 closed.1 in
    let semicolon = sign_is Semicolon closed.0 end.0 end.1 in
    let written : List Lexeme = named.0 ∷ opens.0 ∷ (arguments.0 ++ closes.0 ∷ semicolon.0 ∷ []) in
    let regroup = append_assoc arguments.0 (closes.0 ∷ semicolon.0 ∷ []) end.0 in
    let joined : tokens ≡ written ++ end.0 = named.1 ∙ ap (λ t. named.0 ∷ t) (opens.1
    ∙ ap (λ t. opens.0 ∷ t) (arguments.1 ∙ ap (λ t. arguments.0 ++ t) (closes.1
    ∙ ap (λ t. closes.0 ∷ t) semicolon.1) ∙ sym regroup)) in
    let new_name = ap (λ b. is_routine b s.rows) named.3 ∙ new.0 in
    subst (λ f. Leads (λ w. IsRoutine is_simple s w f.0.0 f.0.1) tokens f.1) (same_Some _ _ end.2) (
      written,
      joined,
      subst (λ n. IsRoutine is_simple s written n items.0) named.3
          (routine_named named.2 new_name opens.2 arguments.2 closes.2 items.1 semicolon.2),
    )

-- a statement that begins with this word, and what stands behind it
behind_word : {P : List Lexeme → Type 0} (word : Reserved) (s t : State) (tokens rest : List Lexeme)
    → first_of tokens ≡ Word word → Leads P (tail_of tokens) rest
    → ((first : Lexeme) (written : List Lexeme) → Is (Word word) first → P written
    → IsStatement s (first ∷ written) t) → StatementIs s tokens (t, rest)
behind_word word s t tokens rest is others made =
    let first = front (Word word) tokens refl is in (
      first.token ∷ others.0,
      first.splits ∙ ap (λ t. first.token ∷ t) others.1,
      made first.token others.0 first.is others.2,
    )

-- a statement that takes an id
row_is : (word : Reserved) (s : State) (tokens : List Lexeme) (found : State × List Lexeme)
    → length s.rows < limit_of_first_edition_ids → first_of tokens ≡ Word word
    → row_by word s (tail_of tokens) ≡ Some found → StatementIs s tokens found
row_is words.Routine s tokens found few is e =
    let (read, routined, last) = in_two _ _ found e in
    subst (λ f. StatementIs s tokens f) (same_Some _ _ last)
    (behind_word words.Routine s _ tokens read.1 is
    (routine_is false s (tail_of tokens) read routined)
    (λ first written begins r. routine begins few r))
row_is words.SimpleRoutine s tokens found few is e =
    let (read, routined, last) = in_two _ _ found e in
    subst (λ f. StatementIs s tokens f) (same_Some _ _ last)
    (behind_word words.SimpleRoutine s _ tokens read.1 is
    (routine_is true s (tail_of tokens) read routined)
    (λ first written begins r. simple_routine begins few r))
row_is words.Skip s tokens found few is e =
    let read = in_two (after_sign Semicolon (tail_of tokens)) _ found e in
    let word = front (Word words.Skip) tokens refl is in
    let semicolon = sign_is Semicolon (tail_of tokens) read.0 read.1 in
    subst (λ f. StatementIs s tokens f) (same_Some _ _ read.2) (
      word.token ∷ semicolon.0 ∷ [],
      word.splits
          ∙ ap (λ t. word.token ∷ t) semicolon.1,
      skip word.is few semicolon.2,
    )
row_is _ s tokens found few is e = absurd cc

counted_is : (word : Reserved) (s : State) (tokens : List Lexeme) (found : State × List Lexeme)
    → first_of tokens ≡ Word word → row_at word s tokens ≡ Some found → StatementIs s tokens found
unfolding row_at
counted_is word s tokens found is e = let few = guarded_less _ _ _ found e in
    row_is word s tokens found few.0 is few.1

import_is : (tokens rest : List Lexeme) → import_at tokens ≡ Some rest
    → Leads (IsNote words.Import) tokens rest
unfolding import_at first_of tail_of
import_is [] rest e = absurd cc
import_is (token ∷ tokens) rest e =
    let (is, ended) = behind_guard (is_imported (symbol_of token)) _ rest e in
    let semicolon = sign_is Semicolon tokens rest ended in
    (token ∷ semicolon.0 ∷ [], ap (λ t. token ∷ t) semicolon.1, import is semicolon.2)

text_of_test : (symbol : Symbol) → is_text symbol ≡ true → symbol ≡ Text
text_of_test Text e = refl
text_of_test _ e = absurd cc

rcsid_is : (tokens rest : List Lexeme) → rcsid_at tokens ≡ Some rest
    → Leads (IsNote words.Rcsid) tokens rest
unfolding rcsid_at first_of tail_of
rcsid_is [] rest e = absurd cc
rcsid_is (token ∷ tokens) rest e =
    let (is, ended) = behind_guard (is_text (symbol_of token)) _ rest e in
    let semicolon = sign_is Semicolon tokens rest ended in
    let text : Is Text token = record { seen = text_of_test (symbol_of token) is } in
    (token ∷ semicolon.0 ∷ [], ap (λ t. token ∷ t) semicolon.1, rcsid text semicolon.2)

prefix_is : (tokens rest : List Lexeme) → prefix_at tokens ≡ Some rest
    → Leads (IsNote words.Prefix) tokens rest
unfolding prefix_at
prefix_is tokens rest e =
    let (name, read, ended) = in_two (name_at tokens) _ rest e in
    let n = name_is tokens name read in
    let semicolon = sign_is Semicolon name.1 rest ended in
    (n.0 ∷ semicolon.0 ∷ [], n.1 ∙ ap (λ t. n.0 ∷ t) semicolon.1, prefix n.2 semicolon.2)

-- a statement that declares nothing
unchanged_is : (word : Reserved) (s : State) (tokens : List Lexeme) (found : State × List Lexeme)
    (read : Option (List Lexeme)) → first_of tokens ≡ Word word
    → ((rest : List Lexeme) → read ≡ Some rest → Leads (IsNote word) (tail_of tokens) rest)
    → unchanged s read ≡ Some found → StatementIs s tokens found
unchanged_is word s tokens found read is noted e =
    let (rest, ended, last) = in_two read _ found e in
    subst (λ f. StatementIs s tokens f) (same_Some _ _ last)
    (behind_word word s s tokens rest is (noted rest ended)
    (λ first written begins n. note begins n))

worded_is : (word : Reserved) (s : State) (tokens : List Lexeme) (found : State × List Lexeme)
    → first_of tokens ≡ Word word → worded_by word s tokens ≡ Some found
    → StatementIs s tokens found
worded_is words.Type s tokens found is e = declaration_is s tokens found is e
worded_is words.Routine s tokens found is e = counted_is words.Routine s tokens found is e
worded_is words.SimpleRoutine s tokens found is e = counted_is words.SimpleRoutine s tokens found is
    e
worded_is words.Skip s tokens found is e = counted_is words.Skip s tokens found is e
worded_is words.Import s tokens found is e =
    unchanged_is words.Import s tokens found _ is (import_is (tail_of tokens)) e
worded_is words.Prefix s tokens found is e =
    unchanged_is words.Prefix s tokens found _ is (prefix_is (tail_of tokens)) e
worded_is words.Rcsid s tokens found is e =
    unchanged_is words.Rcsid s tokens found _ is (rcsid_is (tail_of tokens)) e
worded_is _ s tokens found is e = absurd cc

statement_is_by : (s : State) (tokens : List Lexeme) (found : State × List Lexeme) (symbol : Symbol)
    → first_of tokens ≡ symbol → statement_by symbol s tokens ≡ Some found
    → StatementIs s tokens found
statement_is_by s tokens found (Directive directive) is e = let l =
    directive_is s tokens found directive is e in (l.0, l.1, line l.2)
statement_is_by s tokens found (Word word) is e = worded_is word s tokens found is e
statement_is_by s tokens found _ is e = absurd cc

pub statement_is : (a b : State × List Lexeme) → statement_at a ≡ Some b
    → Leads (λ w. IsStatement a.0 w b.0) a.1 b.1
unfolding statement_at
statement_is a b e = statement_is_by a.0 a.1 b (first_of a.1) refl e
