-- Files, read and spelled.
use Rattle.std.proofs.Common.{◌≡◌, ℕ, Bool, true, false, List, [], ◌∷◌, ◌++◌, Some, refl, sym, ap}
use Rattle.std.proofs.Common.{◌∙◌, subst, append_assoc, if◌then◌else◌}
use Rattle.std.proofs.lemmas.Option.{same_Some}
use Rattle.mrc_mig_lex.specs.Tokens.{Lexeme}
use Rattle.mrc_mig_lex.specs.declared.token.Sign.TheVariants.{Semicolon}
use Rattle.mrc_mig_symbols.specs.declared.symbol.Symbol.{Symbol}
use Rattle.mrc_mig_symbols.specs.declared.symbol.Symbol.TheVariants.{Word, Number}
use Rattle.mrc_mig_symbols.specs.declared.word.Word.TheVariants as words
use Rattle.mrc_mig_symbols.specs.Symbols.{symbol_of, first_of, tail_of, after_sign, name_at}
use Rattle.mrc_mig_parse.specs.Files.{is_line, is_side, after_sides}
use Rattle.mrc_mig_parse.specs.Files.{number_by, number_at, named_number_at, heading_by, heading_at}
use Rattle.mrc_mig_parse.specs.Files.{nothing_declared, meaning_of}
use Rattle.mrc_mig_parse.specs.Grammar.{none, more, AnyOf, Is, IsName, IsSide, side, IsHeading}
use Rattle.mrc_mig_parse.specs.Grammar.{heading, IsFile, file, ReadIsFile, FileIsRead}
use Rattle.mrc_mig_parse.proofs.ManyPhrases.{Leads}
use Rattle.mrc_mig_parse.proofs.PhraseLemmas.{in_two, front, sign_is, sign_read, name_is}
use Rattle.mrc_mig_parse.proofs.PhraseLemmas.{name_read}
use Rattle.mrc_mig_parse.proofs.LinePhrases.{lines_are, lines_read}
use Rattle.mrc_mig_parse.proofs.StatementListPhrases.{all_statements_are, all_statements_read}

side_word : (symbol : Symbol) → is_side symbol ≡ true → symbol ≡ Word words.Side
side_word (Word words.Side) e = refl
side_word _ e = absurd cc

-- the words in front of the name
sides_are : (tokens : List Lexeme) → Leads (λ w. AnyOf IsSide w) tokens (after_sides tokens)
unfolding after_sides
sides_are [] = ([], refl, none)
sides_are (token ∷ tokens) = by (sides_are tokens) (is_side (symbol_of token)) refl
  where
    by : Leads (λ w. AnyOf IsSide w) tokens (after_sides tokens) → (is_one : Bool)
        → is_side (symbol_of token) ≡ is_one
        → Leads (λ w. AnyOf IsSide w) (token ∷ tokens)
        (if is_one then after_sides tokens else token ∷ tokens)
    by others true e = (
      token ∷ others.0,
      ap (λ t. token ∷ t) others.1,
      more (side (record { seen = side_word (symbol_of token) e })) others.2,
    )
    by others false e = ([], refl, none)

sides_read : (sides : List Lexeme) (name : Lexeme) (rest : List Lexeme) → AnyOf IsSide sides
    → IsName name → after_sides (sides ++ name ∷ rest) ≡ name ∷ rest
unfolding after_sides
sides_read _ name rest none is = rw is.seen refl
sides_read _ name rest (more {others = others} (side word) are) is =
    rw word.seen (sides_read others name rest are is)

number_is_by : (tokens : List Lexeme) (found : ℕ × List Lexeme) (symbol : Symbol)
    → first_of tokens ≡ symbol → number_by symbol tokens ≡ Some found
    → (token : Lexeme) × (tokens ≡ token ∷ found.1) × Is (Number found.0) token
number_is_by tokens found (Number n) is e =
    let first = front (Number n) tokens refl is in
    let same = same_Some _ _ e in (
      first.token,
      first.splits
          ∙ ap (λ f. first.token ∷ f.1) same,
      subst (λ f. Is (Number f.0) first.token) same first.is,
    )
number_is_by tokens found _ is e = absurd cc

number_is : (tokens : List Lexeme) (found : ℕ × List Lexeme) → number_at tokens ≡ Some found
    → (token : Lexeme) × (tokens ≡ token ∷ found.1) × Is (Number found.0) token
unfolding number_at
number_is tokens found e = number_is_by tokens found (first_of tokens) refl e

number_read : (n : ℕ) (token : Lexeme) (rest : List Lexeme) → Is (Number n) token
    → number_at (token ∷ rest) ≡ Some (n, rest)
unfolding number_at first_of tail_of
number_read n token rest is = rw is.seen refl

heading_is_by : (tokens : List Lexeme) (found : (List ℕ × ℕ) × List Lexeme) (symbol : Symbol)
    → first_of tokens ≡ symbol → heading_by symbol tokens ≡ Some found
    → Leads (λ w. IsHeading w found.0.0 found.0.1) tokens found.1
unfolding named_number_at
heading_is_by tokens found (Word words.Subsystem) is e =
    let behind : List Lexeme = after_sides (tail_of tokens) in
    let name = in_two (name_at behind) _ found e in
    let base = in_two (number_at name.0.1) _ found name.2 in
    let end = in_two (after_sign Semicolon base.0.1) _ found base.2 in
    let word = front (Word words.Subsystem) tokens refl is in
    let sides = sides_are (tail_of tokens) in
    let named = name_is behind name.0 name.1 in
    let number = number_is name.0.1 base.0 base.1 in
    let semicolon = sign_is Semicolon base.0.1 end.0 end.1 in
    let regroup = append_assoc sides.0 (named.0 ∷ number.0 ∷ semicolon.0 ∷ []) end.0 in
    let written : List Lexeme =
    word.token ∷ (sides.0 ++ named.0 ∷ number.0 ∷ semicolon.0 ∷ []) in
    subst (λ f. Leads (λ w. IsHeading w f.0.0 f.0.1) tokens f.1) (same_Some _ _ end.2) (
      written,
      cc (regroup, word.splits, sides.1, named.1, number.1, semicolon.1),
      subst (λ n. IsHeading written n base.0.0) named.3
          (heading word.is sides.2 named.2 number.2 semicolon.2),
    )
heading_is_by tokens found _ is e = absurd cc

heading_is : (tokens : List Lexeme) (found : (List ℕ × ℕ) × List Lexeme)
    → heading_at tokens ≡ Some found
    → Leads (λ w. IsHeading w found.0.0 found.0.1) tokens found.1
unfolding heading_at
heading_is tokens found e = heading_is_by tokens found (first_of tokens) refl e

heading_read : (written : List Lexeme) (name : List ℕ) (base : ℕ) (rest : List Lexeme)
    → IsHeading written name base → heading_at (written ++ rest) ≡ Some ((name, base), rest)
unfolding heading_at named_number_at first_of tail_of
heading_read _ _ base rest (heading {name = name} {number} {semicolon} {sides} opens are is numbered
    ends) =
    let regroup = append_assoc sides (name ∷ number ∷ semicolon ∷ []) rest in
    let sided = sides_read sides name (number ∷ semicolon ∷ rest) are is in
    let named = name_read (number ∷ semicolon ∷ rest) is in
    let based = number_read base number (semicolon ∷ rest) numbered in
    let ended = sign_read rest ends in
    rw (regroup, opens.seen, sided, named, based, ended) refl

pub read_is_file : ReadIsFile
unfolding meaning_of
read_is_file tokens m e =
    let (lines, lined, heading_on) = in_two _ _ m e in
    let (begun, headed, statements_on) = in_two _ _ m heading_on in
    let (s, read, last) = in_two _ _ m statements_on in
    let are = lines_are nothing_declared tokens lines.0 lines.1 lined in
    let h = heading_is lines.1 begun headed in
    let all = all_statements_are lines.0 begun.1 s read in
    let joined : tokens ≡ are.0 ++ (h.0 ++ begun.1) = are.1 ∙ ap (λ t. are.0 ++ t) h.1 in
    subst (λ w. IsFile w m) (sym joined)
    (subst (λ k. IsFile (are.0 ++ (h.0 ++ begun.1)) k) (same_Some _ _ last) (file are.2 h.2 all))

heading_is_no_line : (written : List Lexeme) (name : List ℕ) (base : ℕ) (rest : List Lexeme)
    → IsHeading written name base → is_line (first_of (written ++ rest)) ≡ false
unfolding first_of
heading_is_no_line _ _ base rest (heading opens are is numbered ends) = rw opens.seen refl

pub file_is_read : FileIsRead
unfolding meaning_of
file_is_read _ _ (file {s} {t} {lines} {headed} {statements} {name} {base} are is all) =
    let lined = lines_read nothing_declared lines s (headed ++ statements) are
    (heading_is_no_line headed name base statements is) in
    let begun = heading_read headed name base statements is in
    let read = all_statements_read s statements t all in
    rw (lined, begun, read) refl
