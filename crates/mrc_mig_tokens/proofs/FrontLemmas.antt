-- What stands at the front of a text lies within it, and ends between two characters.
use Rattle.std.proofs.Common.{◌≡◌, ◌≢◌, ℕ, zero, suc, ◌+◌, ◌<◌, ◌≤◌, ◌⊎◌, Bool, true, false, cond}
use Rattle.std.proofs.Common.{List, [], ◌∷◌, length, get_or, drop, Option, Some, None, Result}
use Rattle.std.proofs.Common.{Ok, Err, IfSome, refl, sym, ap, ◌∙◌, subst, inl, inr, ⊎_elim}
use Rattle.std.proofs.Common.{arith, length-drop, IsUtf8, codes, nat_eq, eqb, option_map}
use Rattle.std.specs.Option.{ok_or}
use Rattle.std.specs.Char.{is_ascii_digit}
use Rattle.std.specs.List.{prefix_len, starts_with, take_while}
use Rattle.std.specs.Prelude.{nat_le, ◌==◌, ◌&&◌}
use Rattle.mrc_base.specs.Limits.{limit_of_number}
use Rattle.std.specs.Str.{IsCharBoundary}
use Rattle.std.proofs.lemmas.Bool.{cases_lt, cond_both, eqb-true, and_parts, false≢true}
use Rattle.std.proofs.lemmas.Bool.Decides.{nat_tests}
use Rattle.std.proofs.lemmas.List.{get_or-drop, get_or_past}
use Rattle.std.proofs.lemmas.List.Sums.{prefix_len-le-length, prefix_len_passes, prefix_len_stops}
use Rattle.std.proofs.lemmas.Option.{IfSome_then}
use Rattle.std.proofs.lemmas.Str.{IsCharBoundary-after_ascii}
use Rattle.mrc_mig_lex.specs.declared.fault.LexFault.{LexFault}
use Rattle.mrc_mig_lex.specs.declared.fault.LexFault.TheVariants.{BadCharacter, OpenComment}
use Rattle.mrc_mig_lex.specs.declared.fault.LexFault.TheVariants.{NumberTooLarge}
use Rattle.mrc_mig_lex.specs.declared.piece.Piece.{Piece}
use Rattle.mrc_mig_lex.specs.declared.token.TokenKind.{TokenKind}
use Rattle.mrc_mig_lex.specs.declared.token.TokenKind.TheVariants.{Text, Header}
use Rattle.mrc_mig_lex.specs.declared.token.TokenKind.TheVariants as kinds
use Rattle.mrc_mig_lex.specs.Characters.{is_blank, begins_name, continues_name, sign_of}
use Rattle.mrc_mig_lex.specs.Characters.{quote, less_than, hash, slash}
use Rattle.mrc_mig_lex.specs.Pieces.{token, gap, decimal, line_len, closed_len, comment_len}
use Rattle.mrc_mig_lex.specs.Pieces.{comment_at, piece_at}
use Rattle.mrc_mig_lex.proofs.PieceLaws.{Yields, yields, fails, choice, option, piece_is}
use Rattle.mrc_mig_tokens.specs.declared.piece.Front.{Front}
use Rattle.mrc_mig_tokens.specs.declared.piece.Kind.{Kind}
use Rattle.mrc_mig_tokens.specs.declared.piece.Kind.TheVariants.{Stray}
use Rattle.mrc_mig_tokens.specs.Fronts.{continues_character, stray, kept, odd_kind, front_by}
use Rattle.mrc_mig_tokens.specs.Fronts.{front_at}

-- a blank or a comment ends with an ASCII character
record EndsGap (first : ℕ) (rest : List ℕ) (piece : Piece) : Type 0 where
  last : piece.kind ≡ None → get_or (first ∷ rest) piece.more 0 < 128

blank_ascii : (c : ℕ) → is_blank c ≡ true → c < 128
blank_ascii c h = grind (arith, nat_tests)

-- a comment ends with a slash
abbrev EndsSlash : List ℕ → ℕ → Type 0
EndsSlash rest n = (k : ℕ) × (n ≡ suc k) × (get_or rest k 0 ≡ 47)

slash_here : (c : ℕ) (rest : List ℕ) → starts_with nat_eq (c ∷ rest) (codes "*/") ≡ true
    → EndsSlash (c ∷ rest) 2
slash_here c [] begins = absurd (false≢true (and_parts (eqb 42 c) _ begins).1)
slash_here c (d ∷ rest) begins =
    let p = and_parts (eqb 42 c) _ begins in
    (1, refl, sym (eqb-true 47 d (and_parts (eqb 47 d) _ p.1).0))

slash_on : (c : ℕ) (rest : List ℕ) (o : Option ℕ) → IfSome o (EndsSlash rest)
    → IfSome (option_map suc o) (EndsSlash (c ∷ rest))
slash_on c rest None _ = tt
slash_on c rest (Some n) (k, e, is) = (suc k, ap suc e, is)

slash_last : (rest : List ℕ) → IfSome (comment_len rest) (EndsSlash rest)
slash_last [] = tt
slash_last (c ∷ rest) =
    cond_both _ (Some 2) (option_map suc (comment_len rest))
    (λ o. IfSome o (EndsSlash (c ∷ rest)))
    (slash_here c rest) (λ _. slash_on c rest (comment_len rest) (slash_last rest))

some_all : {X : Type 0} (o : Option X) (P : X → Type 0) → ((x : X) → P x) → IfSome o P
some_all None P each = tt
some_all (Some x) P each = each x

token_ends : (first : ℕ) (rest : List ℕ) (kind : TokenKind) (more : ℕ)
    → EndsGap first rest (token kind more)
token_ends first rest kind more =
    record { last = λ none. absurd (let e : Some kind ≡ None = none in cc) }

at_slash : (first c : ℕ) (rest : List ℕ) (n : ℕ) → EndsSlash rest n
    → EndsGap first (c ∷ rest) (gap (n + 1) false)
at_slash first c rest n (k, e, is) =
    let place : n + 1 ≡ suc (suc k) = omega arith in
    record { last = λ _. rw place (omega arith) }

comment_ends : (at first : ℕ) (rest : List ℕ)
    → Yields (EndsGap first rest) (comment_at at rest)
comment_ends at first [] = fails _
comment_ends at first (c ∷ rest) =
    option (comment_len rest) (λ more. gap (more + 1) false) (OpenComment at)
    (IfSome_then (comment_len rest) {P = EndsSlash rest}
    {Q = λ n. EndsGap first (c ∷ rest) (gap (n + 1) false)} (slash_last rest)
    (λ n h. at_slash first c rest n h))

blank_ends : (first : ℕ) (rest : List ℕ) (fresh : Bool) → is_blank first ≡ true
    → EndsGap first rest (gap 0 fresh)
blank_ends first rest fresh e = record { last = λ _. blank_ascii first e }

gap_ends : (at : ℕ) (fresh : Bool) (first : ℕ) (rest : List ℕ)
    → Yields (EndsGap first rest) (piece_at at fresh first rest)
unfolding piece_at
gap_ends at fresh first rest =
    choice {b = is_blank first} (λ e. yields _ (blank_ends first rest _ e)) (λ _.
    choice {b = begins_name first} (λ _. yields _ (token_ends first rest kinds.Name
    (prefix_len continues_name rest))) (λ _.
    choice {b = is_ascii_digit first} (λ _. choice {b = nat_le (decimal
    (first ∷ take_while is_ascii_digit rest)) limit_of_number} (λ _. yields _
    (token_ends first rest _ (prefix_len is_ascii_digit rest)))
    (λ _. fails _)) (λ _.
    choice {b = first == quote} (λ _. option (closed_len 34 rest) (token Text) (BadCharacter at)
    (some_all (closed_len 34 rest) _ (λ n. token_ends first rest Text n))) (λ _.
    choice {b = first == less_than} (λ _. option (closed_len 62 rest) (token Header)
    (BadCharacter at)
    (some_all (closed_len 62 rest) _ (λ n. token_ends first rest Header n))) (λ _.
    choice {b = (first == hash) && fresh} (λ _. yields _ (token_ends first rest kinds.Directive
    (line_len rest))) (λ _.
    choice {b = (first == slash) && starts_with nat_eq rest (codes "*")}
    (λ _. comment_ends at first rest)
    (λ _. option (sign_of first) (λ s. token (kinds.Sign s) 0) (BadCharacter at)
    (some_all (sign_of first) _ (λ s. token_ends first rest (kinds.Sign s) 0)))))))))

-- what stands at a front lies within the text, and ends behind an ASCII character or before a byte
-- that begins one
pub record IsFrontOf (first : ℕ) (rest : List ℕ) (front : Front) : Type 0 where
  pub within : front.more ≤ length rest
  pub ends : (get_or (first ∷ rest) front.more 0 < 128)
      ⊎ (128 ≤ get_or rest front.more 0 → 192 ≤ get_or rest front.more 0)

kept_ends : (first : ℕ) (rest : List ℕ) (more : ℕ) (o : Option TokenKind)
    → (o ≡ None → get_or (first ∷ rest) more 0 < 128)
    → (o ≢ None → (get_or (first ∷ rest) more 0 < 128) ⊎ (get_or rest more 0 < 128))
    → (get_or (first ∷ rest) more 0 < 128)
    ⊎ (128 ≤ get_or rest more 0 → 192 ≤ get_or rest more 0)
kept_ends first rest more None gap some = inl (gap refl)
kept_ends first rest more (Some kind) gap some =
    ⊎_elim (λ last. inl last) (λ next. inr (λ high. absurd (omega arith)))
    (some (λ none. let e : Some kind ≡ None = none in cc))

stray_is : (first : ℕ) (rest : List ℕ) (kind : Kind)
    → IsFrontOf first rest (stray kind (prefix_len continues_character rest))
stray_is first rest kind = record {
  within = prefix_len-le-length continues_character rest;
  ends = inr (⊎_elim (λ inside. λ high. by _ high
      (prefix_len_stops continues_character rest 0 inside))
      (λ past. let e = get_or_past rest (prefix_len continues_character rest) 0 past in
      λ high. absurd (omega arith))
      (cases_lt (prefix_len continues_character rest) (length rest)));
}
  where
    by : (c : ℕ) → 128 ≤ c → continues_character c ≡ false → 192 ≤ c
    by c high e = grind (arith, nat_tests)

digits_is : (first : ℕ) (rest : List ℕ) (kind : Kind) → first < 128
    → IsFrontOf first rest (stray kind (prefix_len is_ascii_digit rest))
digits_is first rest kind begins = record {
  within = prefix_len-le-length is_ascii_digit rest;
  ends = inl (last (prefix_len is_ascii_digit rest) (omega arith));
}
  where
    digit_ascii : (c : ℕ) → is_ascii_digit c ≡ true → c < 128
    digit_ascii c h = grind (arith, nat_tests)

    last : (n : ℕ) → n ≤ prefix_len is_ascii_digit rest → get_or (first ∷ rest) n 0 < 128
    last zero _ = begins
    last (suc k) h = digit_ascii _ (prefix_len_passes is_ascii_digit rest k 0 (omega arith))

-- only a digit begins a number that is too large
record LargeBegins (first : ℕ) (read : Result Piece LexFault) : Type 0 where
  digit : (at : ℕ) → read ≡ Err (NumberTooLarge at) → first < 128

large_ok : (first : ℕ) (piece : Piece) → LargeBegins first (Ok piece)
large_ok first piece = record { digit = λ at e. absurd cc }

large_low : (first : ℕ) (fault : LexFault) → first < 128 → LargeBegins first (Err fault)
large_low first fault low = record { digit = λ at e. low }

large_choice : {first : ℕ} {b : Bool} {x y : Result Piece LexFault}
    → (b ≡ true → LargeBegins first x) → (b ≡ false → LargeBegins first y)
    → LargeBegins first (cond b x y)
large_choice {first} {b} {x} {y} = cond_both b x y (LargeBegins first)

large_option : {X : Type 0} (first at : ℕ) (o : Option X) (f : X → Piece)
    → LargeBegins first (ok_or (option_map f o) (BadCharacter at))
large_option first at None f = record { digit = λ at e. absurd cc }
large_option first at (Some x) f = large_ok first (f x)

large_comment : {X : Type 0} (first at : ℕ) (o : Option X) (f : X → Piece)
    → LargeBegins first (ok_or (option_map f o) (OpenComment at))
large_comment first at None f = record { digit = λ at e. absurd cc }
large_comment first at (Some x) f = large_ok first (f x)

digit_low : (c : ℕ) → is_ascii_digit c ≡ true → c < 128
digit_low c h = grind (arith, nat_tests)

large_begins : (at : ℕ) (fresh : Bool) (first : ℕ) (rest : List ℕ)
    → LargeBegins first (piece_at at fresh first rest)
unfolding piece_at
large_begins at fresh first rest =
    large_choice {b = is_blank first} (λ _. large_ok first _) (λ _.
    large_choice {b = begins_name first} (λ _. large_ok first _) (λ _.
    large_choice {b = is_ascii_digit first} (λ e. large_choice {b = nat_le (decimal
    (first ∷ take_while is_ascii_digit rest)) limit_of_number} (λ _. large_ok first _)
    (λ _. large_low first _ (digit_low first e))) (λ _.
    large_choice {b = first == quote} (λ _. large_option first at (closed_len 34 rest)
    (token Text)) (λ _.
    large_choice {b = first == less_than} (λ _. large_option first at (closed_len 62 rest)
    (token Header)) (λ _.
    large_choice {b = (first == hash) && fresh} (λ _. large_ok first _) (λ _.
    large_choice
    (λ _. large_comment first at (comment_len (drop 1 rest)) (λ more. gap (more + 1) false))
    (λ _. large_option first at (sign_of first) (λ s. token (kinds.Sign s) 0))))))))

front_is_by : (at : ℕ) (fresh : Bool) (first : ℕ) (rest : List ℕ) (front : Front)
    (read : Result Piece LexFault) → piece_at at fresh first rest ≡ read
    → LargeBegins first read → front_by read first rest ≡ Ok front → IsFrontOf first rest front
front_is_by at fresh first rest front (Ok piece) is large e =
    let same : kept piece ≡ front = cc in
    let lies = (piece_is at fresh first rest).ok piece is in
    subst (IsFrontOf first rest) same (record {
      within = lies.within;
      ends = kept_ends first rest piece.more piece.kind
          ((gap_ends at fresh first rest).ok piece is).last lies.ends;
    })
front_is_by at fresh first rest front (Err (BadCharacter place)) is large e =
    let same : stray (odd_kind first) (prefix_len continues_character rest) ≡ front = cc in
    subst (IsFrontOf first rest) same (stray_is first rest (odd_kind first))
front_is_by at fresh first rest front (Err (NumberTooLarge place)) is large e =
    let same : stray Stray (prefix_len is_ascii_digit rest) ≡ front = cc in
    subst (IsFrontOf first rest) same
    (digits_is first rest Stray
    (large.digit place refl))
front_is_by at fresh first rest front (Err (OpenComment place)) is large e = absurd cc

pub front_is : (at : ℕ) (fresh : Bool) (first : ℕ) (rest : List ℕ) (front : Front)
    → front_at at fresh first rest ≡ Ok front → IsFrontOf first rest front
unfolding front_at
front_is at fresh first rest front e =
    front_is_by at fresh first rest front (piece_at at fresh first rest) refl
    (large_begins at fresh first rest) e

-- what stands at a place of a text
module _ (text : List ℕ) (at first : ℕ) (rest : List ℕ) (front : Front) (within : at ≤ length text)
    (left : drop at text ≡ first ∷ rest) (is : IsFrontOf first rest front) where
  length_is : length text ≡ at + 1 + length rest
  length_is = omega (arith, within, length-drop at text, ap length left)

  byte_is : (n : ℕ) → get_or (first ∷ rest) n 0 ≡ get_or text (at + n) 0
  byte_is n = ap (λ l. get_or l n 0) (sym left) ∙ get_or-drop at text n 0

  -- lies within it
  pub ends_within : at + 1 + front.more ≤ length text
  ends_within = omega (arith, length_is, is.within)

  -- and ends between two characters
  pub ends_char : IsUtf8 text → IsCharBoundary text (at + 1 + front.more)
  ends_char utf8 =
      let end_is : at + front.more + 1 ≡ at + 1 + front.more = omega arith in
      ⊎_elim
      (λ last. subst (IsCharBoundary text) end_is
      (IsCharBoundary-after_ascii text (at + front.more) utf8
      (omega (arith, length_is, is.within)) (omega (arith, byte_is front.more))))
      (λ next. let i : at + suc front.more ≡ at + 1 + front.more = omega arith in
      let byte : get_or rest front.more 0 ≡ get_or text (at + 1 + front.more) 0 =
      byte_is (suc front.more) ∙ ap (λ n. get_or text n 0) i in
      (ends_within, λ _ high. omega (arith, byte, next (omega (arith, byte)))))
      is.ends
