-- The parts of a parenthesis, one after the other.
use Rattle.std.proofs.Common.{◌≡◌, ℕ, ◌<◌, ◌≤◌, true, false, List, [], ◌∷◌, length, refl, arith}
use Rattle.std.proofs.Common.{if◌then◌else◌, ◌++◌, map, sym, ap, ◌∙◌, subst, append_assoc}
use Rattle.std.proofs.lemmas.List.{map-append}
use Rattle.mrc_mig_lex.specs.declared.token.Sign.TheVariants as signs
use Rattle.mrc_mig_tokens.specs.Reading.{first_of, tail_of, is_sign}
use Rattle.mrc_mig_tokens.specs.Tokens.{Token}
use Rattle.mrc_mig_types.specs.Table.{Known}
use Rattle.mrc_mig_rows.specs.Ends.{ends, opened, end_from}
use Rattle.mrc_mig_rows.specs.declared.parts.Part.{Part}
use Rattle.mrc_mig_rows.specs.Parts.{Piece, piece_of, piece_at, pieces_from, closing_from}

-- the parts behind one, by the token that ends it
abbrev behind : Known → List Token → List Piece
behind types end =
    if is_sign signs.Semicolon (first_of end) then pieces_from types 0 (tail_of end) (tail_of end)
    else []

-- a part, and those behind it
pieces_by : (types : Known) (depth : ℕ) (begin tokens : List Token)
    → pieces_from types depth begin tokens
    ≡ piece_at types begin (end_from depth tokens) ∷ behind types (end_from depth tokens)
unfolding pieces_from end_from first_of tail_of
pieces_by types depth begin [] = refl
pieces_by types depth begin (token ∷ tokens) =
    elim (ends depth token.symbol) as (λ b.
    (if b then (piece_at types begin (token ∷ tokens)
    ∷ (if is_sign signs.Semicolon token.symbol then pieces_from types 0 tokens tokens
    else []))
    else pieces_from types (opened depth token.symbol) begin tokens)
    ≡ piece_at types begin
    (if b then token ∷ tokens else end_from (opened depth token.symbol) tokens)
    ∷ behind types
    (if b then token ∷ tokens else end_from (opened depth token.symbol) tokens))
    [ true ↦ refl | false ↦ pieces_by types (opened depth token.symbol) begin tokens ]

closing_by : (depth : ℕ) (tokens : List Token)
    → closing_from depth tokens
    ≡ (if is_sign signs.Semicolon (first_of (end_from depth tokens))
    then closing_from 0 (tail_of (end_from depth tokens)) else end_from depth tokens)
unfolding closing_from end_from first_of tail_of
closing_by depth [] = refl
closing_by depth (token ∷ tokens) =
    elim (ends depth token.symbol) as (λ b.
    (if b then (if is_sign signs.Semicolon token.symbol then closing_from 0 tokens
    else token ∷ tokens)
    else closing_from (opened depth token.symbol) tokens)
    ≡ (if is_sign signs.Semicolon
    (first_of (if b then token ∷ tokens else end_from (opened depth token.symbol) tokens))
    then closing_from 0
    (tail_of (if b then token ∷ tokens else end_from (opened depth token.symbol) tokens))
    else (if b then token ∷ tokens else end_from (opened depth token.symbol) tokens)))
    [ true ↦ refl | false ↦ closing_by (opened depth token.symbol) tokens ]

-- the last part
pub last_piece : (types : Known) (tokens : List Token)
    → is_sign signs.Semicolon (first_of (end_from 0 tokens)) ≡ false
    → pieces_from types 0 tokens tokens ≡ piece_at types tokens (end_from 0 tokens) ∷ []
last_piece types tokens e = rw (pieces_by types 0 tokens tokens, e) refl

pub closes_here : (tokens : List Token)
    → is_sign signs.Semicolon (first_of (end_from 0 tokens)) ≡ false
    → closing_from 0 tokens ≡ end_from 0 tokens
closes_here tokens e = rw (closing_by 0 tokens, e) refl

-- a part before others
pub one_piece : (types : Known) (tokens : List Token)
    → is_sign signs.Semicolon (first_of (end_from 0 tokens)) ≡ true
    → pieces_from types 0 tokens tokens
    ≡ piece_at types tokens (end_from 0 tokens)
    ∷ pieces_from types 0 (tail_of (end_from 0 tokens)) (tail_of (end_from 0 tokens))
one_piece types tokens e = rw (pieces_by types 0 tokens tokens, e) refl

pub closes_later : (tokens : List Token)
    → is_sign signs.Semicolon (first_of (end_from 0 tokens)) ≡ true
    → closing_from 0 tokens ≡ closing_from 0 (tail_of (end_from 0 tokens))
closes_later tokens e = rw (closing_by 0 tokens, e) refl

-- no more is left where a part ends
end_is_shorter : (depth : ℕ) (tokens : List Token)
    → length (end_from depth tokens) ≤ length tokens
unfolding end_from
end_is_shorter depth [] = omega arith
end_is_shorter depth (token ∷ tokens) =
    elim (ends depth token.symbol) as (λ b.
    length (if b then token ∷ tokens else end_from (opened depth token.symbol) tokens)
    ≤ length (token ∷ tokens)) [
      | true ↦ omega arith
      | false ↦ omega (arith, end_is_shorter (opened depth token.symbol) tokens)
    ]

sign_is_some : (tokens : List Token) → is_sign signs.Semicolon (first_of tokens) ≡ true
    → length (tail_of tokens) < length tokens
unfolding first_of tail_of
sign_is_some [] e = absurd cc
sign_is_some (token ∷ tokens) e = omega arith

-- and less behind its semicolon
pub part_is_shorter : (tokens : List Token)
    → is_sign signs.Semicolon (first_of (end_from 0 tokens)) ≡ true
    → length (tail_of (end_from 0 tokens)) < length tokens
part_is_shorter tokens e =
    let a = sign_is_some (end_from 0 tokens) e in
    let b = end_is_shorter 0 tokens in omega arith

-- what the last part is to the parts so far
pub last_of : (types : Known) (read items : List Part) (part : Part) (tokens end : List Token)
    (total : List Piece) → items ≡ read ++ part ∷ [] → piece_of part ≡ piece_at types tokens end
    → end ≡ end_from 0 tokens → is_sign signs.Semicolon (first_of end) ≡ false
    → map piece_of read ++ pieces_from types 0 tokens tokens ≡ total
    → map piece_of items ≡ total
last_of types read items part tokens end total is one ends stop so_far =
    let here : is_sign signs.Semicolon (first_of (end_from 0 tokens)) ≡ false =
    subst (λ (t : List Token). is_sign signs.Semicolon (first_of t) ≡ false) ends stop in
    let mapped : map piece_of items ≡ map piece_of read ++ piece_of part ∷ [] =
    ap (λ (xs : List Part). map piece_of xs) is ∙ map-append piece_of read (part ∷ []) in
    let found : piece_of part ≡ piece_at types tokens (end_from 0 tokens) =
    one ∙ ap (λ (t : List Token). piece_at types tokens t) ends in
    let last : piece_of part ∷ [] ≡ pieces_from types 0 tokens tokens =
    ap (λ (p : Piece). p ∷ []) found ∙ sym (last_piece types tokens here) in
    mapped ∙ (ap (λ (ps : List Piece). map piece_of read ++ ps) last ∙ so_far)

-- what another part is
pub next_of : (types : Known) (read items : List Part) (part : Part)
    (tokens end after : List Token) (total : List Piece) → items ≡ read ++ part ∷ []
    → piece_of part ≡ piece_at types tokens end → end ≡ end_from 0 tokens
    → is_sign signs.Semicolon (first_of end) ≡ true → after ≡ tail_of end
    → map piece_of read ++ pieces_from types 0 tokens tokens ≡ total
    → map piece_of items ++ pieces_from types 0 after after ≡ total
next_of types read items part tokens end after total is one ends goes behind so_far =
    let here : is_sign signs.Semicolon (first_of (end_from 0 tokens)) ≡ true =
    subst (λ (t : List Token). is_sign signs.Semicolon (first_of t) ≡ true) ends goes in
    let tail : after ≡ tail_of (end_from 0 tokens) =
    behind ∙ ap (λ (t : List Token). tail_of t) ends in
    let mapped : map piece_of items ≡ map piece_of read ++ piece_of part ∷ [] =
    ap (λ (xs : List Part). map piece_of xs) is ∙ map-append piece_of read (part ∷ []) in
    let found : piece_of part ≡ piece_at types tokens (end_from 0 tokens) =
    one ∙ ap (λ (t : List Token). piece_at types tokens t) ends in
    let all : piece_of part ∷ pieces_from types 0 after after ≡ pieces_from types 0 tokens tokens =
    ap (λ (t : List Token). piece_of part ∷ pieces_from types 0 t t) tail
    ∙ (ap (λ (p : Piece). p ∷ pieces_from types 0 (tail_of (end_from 0 tokens))
    (tail_of (end_from 0 tokens))) found ∙ sym (one_piece types tokens here)) in
    ap (λ (ps : List Piece). ps ++ pieces_from types 0 after after) mapped
    ∙ (append_assoc (map piece_of read) (piece_of part ∷ []) (pieces_from types 0 after after)
    ∙ (ap (λ (ps : List Piece). map piece_of read ++ ps) all ∙ so_far))

-- where the parenthesis closes, behind another part
pub closes_of : (tokens end after total : List Token) → end ≡ end_from 0 tokens
    → is_sign signs.Semicolon (first_of end) ≡ true → after ≡ tail_of end
    → closing_from 0 tokens ≡ total → closing_from 0 after ≡ total
closes_of tokens end after total ends goes behind so_far =
    let here : is_sign signs.Semicolon (first_of (end_from 0 tokens)) ≡ true =
    subst (λ (t : List Token). is_sign signs.Semicolon (first_of t) ≡ true) ends goes in
    let tail : after ≡ tail_of (end_from 0 tokens) =
    behind ∙ ap (λ (t : List Token). tail_of t) ends in
    ap (λ (t : List Token). closing_from 0 t) tail ∙ (sym (closes_later tokens here) ∙ so_far)
