-- Strings of an older `mig` among tokens, one token after the other, and what texts of edition 1
-- leave out.
use Rattle.std.proofs.Common.{◌≡◌, ◌∙◌, ℕ, true, false, List, [], ◌∷◌}
use Rattle.std.proofs.Common.{refl, sym, ap}
use Rattle.std.proofs.Common.{◌++◌, ◌+◌, ◌<◌, length, take, get_or}
use Rattle.std.specs.List.{filter_map, cons_option}
use Rattle.std.proofs.lemmas.List.{take_more}
use Rattle.std.proofs.lemmas.List.Elements.{filter_map-append}
use Rattle.mrc_mig_lex.specs.Tokens.{Lexeme}
use Rattle.mrc_mig_symbols.specs.Symbols.{no_tokens, tail_of}
use Rattle.mrc_mig_forms.specs.Files.{LeftOut}
use Rattle.mrc_interface.specs.Left.{is_note, has_note}
use Rattle.mrc_interface.specs.Left.{name_if}

-- no token is left
pub none_left : (tokens : List Lexeme) → no_tokens tokens ≡ true → has_note tokens ≡ false
none_left [] none = refl
none_left (token ∷ tokens) none = absurd cc

-- the first token is such a string
pub note_here : (tokens : List Lexeme) → no_tokens tokens ≡ false → is_note tokens ≡ true
    → has_note tokens ≡ true
note_here [] some is = absurd cc
note_here (token ∷ tokens) some is = rw is refl

-- the first token is none
pub note_later : (tokens : List Lexeme) → no_tokens tokens ≡ false → is_note tokens ≡ false
    → has_note (tail_of tokens) ≡ has_note tokens
unfolding tail_of
note_later [] some is = absurd cc
note_later (token ∷ tokens) some is = rw is refl

-- one row more
pub name_more : (rows : List LeftOut) (i : ℕ) (d : LeftOut) (names new : List (List ℕ))
    → i < length rows
    → names ≡ filter_map name_if (take i rows)
    → new ≡ names ++ cons_option (name_if (get_or rows i d)) []
    → new ≡ filter_map name_if (take (i + 1) rows)
name_more rows i d names new less so added =
    added
    ∙ (ap (λ l. l ++ cons_option (name_if (get_or rows i d)) []) so
    ∙ (sym (filter_map-append name_if (take i rows) (get_or rows i d ∷ []))
    ∙ ap (filter_map name_if) (sym (take_more rows i d less))))
