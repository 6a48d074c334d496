-- What holds of each piece at the front of a text.
use Rattle.std.proofs.Common.{◌≡◌, ◌≢◌, ℕ, zero, suc, ◌+◌, ◌<◌, ◌≤◌, ◌⊎◌, Bool, true, false, cond}
use Rattle.std.proofs.Common.{◌||◌, ◌==◌, eqb, List, [], ◌∷◌, length, get_or, drop, Option, Some}
use Rattle.std.proofs.Common.{None, option_map, option_and_then, Result, Ok, Err, IfSome, nat_eq}
use Rattle.std.proofs.Common.{codes, position, refl, sym, ap, ◌∙◌, subst, lit<, inl, inr, ⊎_elim}
use Rattle.std.proofs.Common.{◌-◌, arith, length-drop}
use Rattle.std.specs.List.{prefix_len, starts_with}
use Rattle.std.specs.Prelude.{if◌then◌else◌}
use Rattle.std.specs.Option.{ok_or}
use Rattle.std.proofs.lemmas.Option.{IfSome_then}
use Rattle.std.specs.Char.{is_ascii_digit}
use Rattle.std.proofs.lemmas.Bool.{cond_both, eqb-true, and_parts, cond-false, cases_lt, false≢true}
use Rattle.std.proofs.lemmas.Bool.Decides.{nat_tests}
use Rattle.std.proofs.lemmas.List.{drop_more, get_or_past}
use Rattle.std.proofs.lemmas.List.Sums.{prefix_len_passes, prefix_len-le-length, passes_at_first}
use Rattle.std.proofs.lemmas.List.Quantifiers.{position-Some}
use Rattle.mrc_mig_lex.specs.declared.token.TokenKind.{TokenKind}
use Rattle.mrc_mig_lex.specs.declared.token.TokenKind.TheVariants.{Name, Text, Header, Sign}
use Rattle.mrc_mig_lex.specs.declared.token.TokenKind.TheVariants.{Directive}
use Rattle.mrc_mig_lex.specs.declared.token.Sign as sign
use Rattle.mrc_mig_lex.specs.declared.fault.LexFault.{LexFault}
use Rattle.mrc_mig_lex.specs.declared.fault.LexFault.TheVariants.{BadCharacter, OpenComment}
use Rattle.mrc_mig_lex.specs.declared.piece.Piece.{Piece}
use Rattle.mrc_mig_lex.specs.Characters.{line_feed, is_blank, begins_name, continues_name, sign_of}
use Rattle.mrc_mig_lex.specs.Pieces.{token, gap, line_len, closed_len, comment_len, number_at}
use Rattle.mrc_mig_lex.specs.Pieces.{closed_at, comment_at, sign_at, piece_at}

-- a piece lies within its text, and a token begins and ends beside an ASCII character; behind it
-- the line is not blank
pub record IsPieceOf (first : ℕ) (rest : List ℕ) (piece : Piece) : Type 0 where
  pub within : piece.more ≤ length rest
  pub stale : piece.kind ≢ None → piece.fresh ≡ false
  pub begins : piece.kind ≢ None → first < 128
  pub ends : piece.kind ≢ None → (get_or (first ∷ rest) piece.more 0 < 128)
      ⊎ (get_or rest piece.more 0 < 128)

begin_ascii : (c : ℕ) → begins_name c ≡ true → c < 128
begin_ascii c h = grind (arith, nat_tests)

digit_ascii : (c : ℕ) → is_ascii_digit c ≡ true → c < 128
digit_ascii c h = grind (arith, nat_tests)

-- an ASCII character with which no other token begins
pub record IsOther (c : ℕ) : Type 0 where
  pub ascii : c < 128
  pub blank : is_blank c ≡ false
  pub name : begins_name c ≡ false
  pub digit : is_ascii_digit c ≡ false
  pub quote : eqb c 34 ≡ false
  pub less : eqb c 60 ≡ false
  pub hash : eqb c 35 ≡ false

other : (k : ℕ) → k < 128 → is_blank k ≡ false → begins_name k ≡ false → is_ascii_digit k ≡ false
    → eqb k 34 ≡ false → eqb k 60 ≡ false → eqb k 35 ≡ false → IsOther k
other k low a b c d e f =
    record { ascii = low; blank = a; name = b; digit = c; quote = d; less = e; hash = f }

sign_case : (c k : ℕ) (s : sign.Sign) (more : Option sign.Sign) → IsOther k
    → IfSome more (λ _. IsOther c) → IfSome (cond (eqb c k) (Some s) more) (λ _. IsOther c)
sign_case c k s more here others =
    cond_both (eqb c k) (Some s) more (λ o. IfSome o (λ _. IsOther c))
    (λ e. subst IsOther (sym (eqb-true c k e)) here) (λ _. others)

pub sign_other : (c : ℕ) → IfSome (sign_of c) (λ _. IsOther c)
sign_other c =
    sign_case c 59 _ _ (other 59 (lit< tt) refl refl refl refl refl refl) (
    sign_case c 58 _ _ (other 58 (lit< tt) refl refl refl refl refl refl) (
    sign_case c 44 _ _ (other 44 (lit< tt) refl refl refl refl refl refl) (
    sign_case c 61 _ _ (other 61 (lit< tt) refl refl refl refl refl refl) (
    sign_case c 40 _ _ (other 40 (lit< tt) refl refl refl refl refl refl) (
    sign_case c 41 _ _ (other 41 (lit< tt) refl refl refl refl refl refl) (
    sign_case c 91 _ _ (other 91 (lit< tt) refl refl refl refl refl refl) (
    sign_case c 93 _ _ (other 93 (lit< tt) refl refl refl refl refl refl) (
    sign_case c 42 _ _ (other 42 (lit< tt) refl refl refl refl refl refl) (
    sign_case c 43 _ _ (other 43 (lit< tt) refl refl refl refl refl refl) (
    sign_case c 45 _ _ (other 45 (lit< tt) refl refl refl refl refl refl) (
    sign_case c 47 _ _ (other 47 (lit< tt) refl refl refl refl refl refl) (
    sign_case c 94 _ _ (other 94 (lit< tt) refl refl refl refl refl refl) (
    sign_case c 124 _ _ (other 124 (lit< tt) refl refl refl refl refl refl) tt)))))))))))))

gap_is : (first : ℕ) (rest : List ℕ) (more : ℕ) (fresh : Bool) → more ≤ length rest
    → IsPieceOf first rest (gap more fresh)
gap_is first rest more fresh within =
    record {
      within = within;
      stale = λ some. absurd (some refl);
      begins = λ some. absurd (some refl);
      ends = λ some. absurd (some refl);
    }

token_is : (kind : TokenKind) (first : ℕ) (rest : List ℕ) (more : ℕ) → more ≤ length rest
    → first < 128 → get_or (first ∷ rest) more 0 < 128 → IsPieceOf first rest (token kind more)
token_is kind first rest more within begins ends =
    record {
      within = within;
      stale = λ _. refl;
      begins = λ _. begins;
      ends = λ _. inl ends;
    }

-- a run of ASCII characters of one kind
run_is : (p : ℕ → Bool) (kind : TokenKind) (first : ℕ) (rest : List ℕ)
    → ((c : ℕ) → p c ≡ true → c < 128) → first < 128
    → IsPieceOf first rest (token kind (prefix_len p rest))
run_is p kind first rest ascii begins =
    token_is kind first rest (prefix_len p rest) (prefix_len-le-length p rest) begins
    (last (prefix_len p rest) (omega arith))
  where
    last : (n : ℕ) → n ≤ prefix_len p rest → get_or (first ∷ rest) n 0 < 128
    last zero _ = begins
    last (suc k) h = ascii _ (prefix_len_passes p rest k 0 (omega arith))

-- whatever piece is read has this property
pub record Yields (P : Piece → Type 0) (read : Result Piece LexFault) : Type 0 where
  pub ok : (piece : Piece) → read ≡ Ok piece → P piece

module _ {P : Piece → Type 0} where
  pub yields : (piece : Piece) → P piece → Yields P (Ok piece)
  yields piece holds = record { ok = λ other same. let e : piece ≡ other = cc in subst P e holds }

  pub fails : (fault : LexFault) → Yields P (Err fault)
  fails fault = record { ok = λ other same. cc }

  pub choice : {b : Bool} {x y : Result Piece LexFault} → (b ≡ true → Yields P x)
      → (b ≡ false → Yields P y) → Yields P (cond b x y)
  choice {b} {x} {y} = cond_both b x y (Yields P)

  pub option : {X : Type 0} (o : Option X) (f : X → Piece) (fault : LexFault)
      → IfSome o (λ x. P (f x)) → Yields P (ok_or (option_map f o) fault)
  option None f fault _ = fails fault
  option (Some x) f fault holds = yields (f x) holds

number_is : (at first : ℕ) (rest : List ℕ) → first < 128
    → Yields (IsPieceOf first rest) (number_at at first rest)
number_is at first rest begins =
    choice (λ _. yields _ (run_is is_ascii_digit _ first rest digit_ascii begins)) (λ _. fails _)

directive_is : (first : ℕ) (rest : List ℕ) → first < 128
    → IsPieceOf first rest (token Directive (line_len rest))
directive_is first rest begins =
    record {
      within = prefix_len-le-length _ rest;
      stale = λ _. refl;
      begins = λ _. begins;
      ends = λ _. inr
          (⊎_elim (λ inside. let e = eqb-true (get_or rest (line_len rest) 0) 10
          (passes_at_first (λ c. c == line_feed) rest 0 inside) in
          omega arith) (λ past. let e = get_or_past rest (line_len rest) 0 past in
          omega arith) (cases_lt (line_len rest) (length rest)));
    }

-- where a string or `<..>` ends
closed_len_is : (close : ℕ) (rest : List ℕ)
    → IfSome (closed_len close rest) (λ n. (0 < n) × (n ≤ length rest)
    × (get_or rest (n - 1) 0 ≡ close))
closed_len_is close rest = at_close (position (λ c. (c == close) || (c == line_feed)) rest) refl
  where
    at_close : (o : Option ℕ) → position (λ c. (c == close) || (c == line_feed)) rest ≡ o
        → IfSome (option_and_then (λ i. if get_or rest i 0 == close then Some (i + 1) else None) o)
        (λ n. (0 < n) × (n ≤ length rest) × (get_or rest (n - 1) 0 ≡ close))
    at_close None _ = tt
    at_close (Some i) found =
        cond_both (get_or rest i 0 == close) (Some (i + 1)) None
        (λ o. IfSome o (λ n. (0 < n) × (n ≤ length rest) × (get_or rest (n - 1) 0 ≡ close)))
        (λ same. let inside = (position-Some _ rest i 0 found).0 in let back : i + 1 - 1
        ≡ i = omega arith in (omega arith, omega arith, rw back (eqb-true _ _ same))) (λ _. tt)

closed_is : (at : ℕ) (kind : TokenKind) (close first : ℕ) (rest : List ℕ) → close < 128
    → first < 128 → Yields (IsPieceOf first rest) (closed_at at kind close rest)
closed_is at kind close first rest small begins =
    option (closed_len close rest) (token kind) (BadCharacter at)
    (IfSome_then _ (closed_len_is close rest)
    (λ n h. token_is kind first rest n h.1 begins (at_end n h.0 h.2)))
  where
    at_end : (n : ℕ) → 0 < n → get_or rest (n - 1) 0 ≡ close → get_or (first ∷ rest) n 0 < 128
    at_end zero positive _ = absurd (omega arith)
    at_end (suc k) _ same = let back : suc k - 1 ≡ k = omega arith in
        let e : get_or rest k 0 ≡ close = rw back at same in omega arith

-- a text that begins with `*` has a character, and one that begins with `*/` has two
star_len : (rest : List ℕ) → starts_with nat_eq rest (codes "*") ≡ true → 0 < length rest
star_len [] e = absurd (false≢true e)
star_len (c ∷ rest) e = omega arith

close_len : (c : ℕ) (rest : List ℕ) → starts_with nat_eq (c ∷ rest) (codes "*/") ≡ true
    → 2 ≤ suc (length rest)
close_len c [] e = absurd (false≢true (and_parts (eqb 42 c) _ e).1)
close_len c (d ∷ rest) e = omega arith

-- a comment ends within the text
comment_within : (rest : List ℕ) → IfSome (comment_len rest) (λ n. n ≤ length rest)
comment_within [] = tt
comment_within (c ∷ rest) =
    cond_both _ (Some 2) (option_map suc (comment_len rest))
    (λ o. IfSome o (λ n. n ≤ suc (length rest)))
    (close_len c rest) (λ _. one_on (comment_len rest) (comment_within rest))
  where
    one_on : (o : Option ℕ) → IfSome o (λ n. n ≤ length rest)
        → IfSome (option_map suc o) (λ n. n ≤ suc (length rest))
    one_on None _ = tt
    one_on (Some n) h = omega arith

pub comment_len-le : (rest : List ℕ) (n : ℕ) → Some n ≡ comment_len rest → n ≤ length rest
comment_len-le rest n found = subst (λ (o : Option ℕ). IfSome o (λ m. m ≤ length rest)) (sym found)
    (comment_within rest)

comment_is : (at first : ℕ) (rest : List ℕ) → 0 < length rest
    → Yields (IsPieceOf first rest) (comment_at at rest)
comment_is at first rest some =
    option (comment_len (drop 1 rest)) (λ more. gap (more + 1) false) (OpenComment at)
    (IfSome_then _ (comment_within (drop 1 rest))
    (λ n h. gap_is first rest (n + 1) false (omega (arith, length-drop 1 rest))))

sign_is : (at first : ℕ) (rest : List ℕ) → Yields (IsPieceOf first rest) (sign_at at first)
sign_is at first rest =
    option (sign_of first) (λ s. token (Sign s) 0) (BadCharacter at)
    (IfSome_then _ (sign_other first)
    (λ s is. token_is (Sign s) first rest 0 (omega arith) is.ascii is.ascii))

small_is : (c k : ℕ) → k < 128 → eqb c k ≡ true → c < 128
small_is c k small same = omega (arith, eqb-true c k same)

pub piece_is : (at : ℕ) (fresh : Bool) (first : ℕ) (rest : List ℕ)
    → Yields (IsPieceOf first rest) (piece_at at fresh first rest)
unfolding piece_at
piece_is at fresh first rest =
    choice {b = is_blank first} (λ _. yields _ (gap_is first rest 0 _ (omega arith))) (λ _.
    choice (λ e. yields _ (run_is continues_name Name first rest (λ c h. grind (arith, nat_tests))
    (begin_ascii first e))) (λ _.
    choice (λ e. number_is at first rest (digit_ascii first e)) (λ _.
    choice (λ e. closed_is at Text 34 first rest (lit< tt) (small_is first 34 (lit< tt) e)) (λ _.
    choice (λ e. closed_is at Header 62 first rest (lit< tt) (small_is first 60 (lit< tt) e)) (λ _.
    choice (λ e. yields _
    (directive_is first rest (small_is first 35 (lit< tt) (and_parts _ _ e).0))) (λ _.
    choice (λ e. comment_is at first rest (star_len rest (and_parts (first == 47) _ e).1))
    (λ _. sign_is at first rest)))))))

-- the end of a comment, one character on
pub comment_len_step : (rest : List ℕ) (i : ℕ) → i < length rest
    → starts_with nat_eq (drop i rest) (codes "*/") ≡ false
    → option_map (λ n. i + 1 + n) (comment_len (drop (i + 1) rest)) ≡ option_map (λ n. i + n)
    (comment_len (drop i rest))
comment_len_step rest i lt other =
    after (get_or rest i 0) (drop (i + 1) rest)
    (subst (λ (l : List ℕ). starts_with nat_eq l (codes "*/") ≡ false) (drop_more rest i 0 lt)
    other) ∙ ap (λ l. option_map (λ n. i + n) (comment_len l)) (sym (drop_more rest i 0 lt))
  where
    one_on : (o : Option ℕ)
        → option_map (λ n. i + 1 + n) o ≡ option_map (λ n. i + n) (option_map suc o)
    one_on None = refl
    one_on (Some n) = ap Some (omega arith)

    after : (c : ℕ) (cs : List ℕ) → starts_with nat_eq (c ∷ cs) (codes "*/") ≡ false
        → option_map (λ n. i + 1 + n) (comment_len cs) ≡ option_map (λ n. i + n)
        (comment_len (c ∷ cs))
    after c cs other = one_on (comment_len cs)
        ∙ ap (option_map (λ n. i + n)) (sym (cond-false _ _ _ other))
