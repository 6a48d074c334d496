-- Statements that are spelled are read.
use Rattle.std.proofs.Common.{◌≡◌, ℕ, ◌<◌, Bool, true, false, List, [], ◌∷◌, ◌++◌, length, Some}
use Rattle.std.proofs.Common.{refl, ap, ◌∙◌, append_assoc}
use Rattle.std.proofs.lemmas.Bool.{lt-ltb}
use Rattle.mrc_base.specs.Limits.{limit_of_first_edition_ids}
use Rattle.mrc_mig_lex.specs.Tokens.{Lexeme}
use Rattle.mrc_mig_lex.specs.declared.token.Sign.TheVariants.{Semicolon, Equals}
use Rattle.mrc_mig_symbols.specs.declared.symbol.Symbol.TheVariants.{Word, Sign}
use Rattle.mrc_mig_symbols.specs.declared.word.Word.{Word as Reserved}
use Rattle.mrc_mig_symbols.specs.declared.word.Word.TheVariants as words
use Rattle.mrc_mig_symbols.specs.Symbols.{first_of, tail_of}
use Rattle.mrc_forms.specs.declared.shape.Shape.{Shape}
use Rattle.mrc_mig_parse.specs.declared.types.Use.TheVariants.{Any}
use Rattle.mrc_mig_parse.specs.Arguments.{Item}
use Rattle.mrc_mig_parse.specs.Files.{State, is_declared, declaration_at, routine_at}
use Rattle.mrc_mig_parse.specs.Files.{row_by, row_at, import_at, rcsid_at, prefix_at}
use Rattle.mrc_mig_parse.specs.Files.{worded_by, statement_by, statement_at}
use Rattle.mrc_mig_parse.specs.Grammar.{AnyOf, Is, IsName, IsOption, IsType, IsLine, IsRoutine}
use Rattle.mrc_mig_parse.specs.Grammar.{named, IsNote, import, prefix, rcsid, IsStatement, line}
use Rattle.mrc_mig_parse.specs.Grammar.{declaration, routine, simple_routine, skip, note}
use Rattle.mrc_mig_parse.proofs.PhraseLemmas.{first_is, sign_read, name_read}
use Rattle.mrc_mig_parse.proofs.ArgumentPhrases.{ends_argument, typed_read}
use Rattle.mrc_mig_parse.proofs.ArgumentListPhrases.{arguments_read}
use Rattle.mrc_mig_parse.proofs.LinePhrases.{directive_read}

declaration_read : (s : State) (name equals semicolon : Lexeme) (type options : List Lexeme)
    (shape : Shape) (rest : List Lexeme) → IsName name → is_declared name.bytes s.types ≡ false
    → Is (Sign Equals) equals
    → IsType s.types Any type shape → AnyOf IsOption options → Is (Sign Semicolon) semicolon
    → declaration_at s (name ∷ equals ∷ (type ++ (options ++ semicolon ∷ rest))) ≡ Some (
      record s {
        types = s.types ++ (name.bytes, shape) ∷ [];
      },
      rest,
    )
unfolding declaration_at
declaration_read s name equals semicolon type options shape rest is new sign has others ends =
    let tokens : List Lexeme = type ++ (options ++ semicolon ∷ rest) in
    let named = name_read (equals ∷ tokens) is in
    let before = sign_read tokens sign in
    let typed = typed_read s.types Any type options shape (semicolon ∷ rest) has others
    (ap ends_argument (first_is rest ends)) in
    let kinded = typed.0 in
    let after = typed.1 in
    let end = sign_read rest ends in
    rw (named, new, before, kinded, after, end) refl

routine_read : (is_simple : Bool) (s : State) (written : List Lexeme) (name : List ℕ)
    (items : List Item) (rest : List Lexeme) → IsRoutine is_simple s written name items
    → routine_at is_simple s (written ++ rest) ≡ Some ((name, items), rest)
unfolding routine_at
routine_read is_simple s _ _ items rest
    (named {opens = opens} {closes} {semicolon} {arguments} {all} is new opening are closing meant
    ends) =
    let regroup = append_assoc arguments (closes ∷ semicolon ∷ []) rest in
    let name = name_read (opens ∷ (arguments ++ closes ∷ semicolon ∷ rest)) is in
    let inside = sign_read (arguments ++ closes ∷ semicolon ∷ rest) opening in
    let read = arguments_read s.types is_simple arguments all (closes ∷ semicolon ∷ rest) are
    (first_is (semicolon ∷ rest) closing) in
    let closed = sign_read (semicolon ∷ rest) closing in
    let end = sign_read rest ends in
    rw (regroup, name, new, inside, read, closed, meant, end) refl

-- a statement that begins with this word
worded_read : (word : Reserved) (s : State) (first : Lexeme) (others : List Lexeme) (read : State
    × List Lexeme) → Is (Word word) first → worded_by word s (first ∷ others) ≡ Some read
    → statement_at (s, first ∷ others) ≡ Some read
unfolding statement_at
worded_read word s first others read is e = ap (λ symbol. statement_by symbol s (first ∷ others))
    (first_is others is) ∙ e

-- one that takes an id, where there may be one more
counted_read : (word : Reserved) (s : State) (first : Lexeme) (others : List Lexeme) (read : State
    × List Lexeme) → length s.rows < limit_of_first_edition_ids → row_by word s others ≡ Some read
    → row_at word s (first ∷ others) ≡ Some read
unfolding row_at tail_of
counted_read word s first others read few e = let less = lt-ltb (length s.rows) limit_of_first_edition_ids few in
    rw less e

pub regroup_declaration : (type options : List Lexeme) (semicolon : Lexeme) (rest : List Lexeme)
    → (type ++ options ++ semicolon ∷ []) ++ rest ≡ type ++ (options ++ semicolon ∷ rest)
regroup_declaration type options semicolon rest = append_assoc (type ++ options) (semicolon ∷ [])
    rest ∙ append_assoc type options (semicolon ∷ rest)

line_statement_read : (s : State) (written : List Lexeme) (t : State) (rest : List Lexeme)
    → IsLine s written t → statement_at (s, written ++ rest) ≡ Some (t, rest)
unfolding statement_at
line_statement_read s written t rest is =
    let read = directive_read s written t rest is in
    ap (λ symbol. statement_by symbol s (written ++ rest)) read.1 ∙ read.2

note_read : (kind : Reserved) (s : State) (first : Lexeme) (written rest : List Lexeme)
    → IsNote kind written → worded_by kind s (first ∷ (written ++ rest)) ≡ Some (s, rest)
unfolding import_at prefix_at rcsid_at first_of tail_of
note_read _ s first _ rest (import is ends) = rw (is, sign_read rest ends) refl
note_read _ s first _ rest (prefix {semicolon = semicolon} is ends) =
    rw (name_read (semicolon ∷ rest) is, sign_read rest ends) refl
note_read _ s first _ rest (rcsid is ends) = rw (is.seen, sign_read rest ends) refl

pub statement_read : (s : State) (written : List Lexeme) (t : State) (rest : List Lexeme)
    → IsStatement s written t → statement_at (s, written ++ rest) ≡ Some (t, rest)
unfolding tail_of
statement_read s written t rest (line is) = line_statement_read s written t rest is
statement_read s _ _ rest
    (declaration {word = word} {name} {equals} {semicolon} {type} {options} {shape} begins is new
    sign has others ends) =
    let regroup = regroup_declaration type options semicolon rest in
    worded_read words.Type s word (name ∷ equals ∷ ((type ++ options ++ semicolon ∷ []) ++ rest)) _
    begins
    (rw regroup (declaration_read s name equals semicolon type options shape rest is new sign has
    others ends))
statement_read s _ _ rest (routine {word = word} {others} {name} {items} begins few is) =
    let read = routine_read false s others name items rest is in
    worded_read words.Routine s word (others ++ rest) _ begins
    (counted_read words.Routine s word (others ++ rest) _ few (rw read refl))
statement_read s _ _ rest (simple_routine {word = word} {others} {name} {items} begins few is) =
    let read = routine_read true s others name items rest is in
    worded_read words.SimpleRoutine s word (others ++ rest) _ begins
    (counted_read words.SimpleRoutine s word (others ++ rest) _ few (rw read refl))
statement_read s _ _ rest (skip {word = word} {semicolon} begins few ends) =
    let end = sign_read rest ends in
    worded_read words.Skip s word (semicolon ∷ rest) _ begins
    (counted_read words.Skip s word (semicolon ∷ rest) _ few (rw end refl))
statement_read s _ _ rest (note {word = word} {kind} {others} begins is) =
    worded_read kind s word (others ++ rest) _ begins (note_read kind s word others rest is)
