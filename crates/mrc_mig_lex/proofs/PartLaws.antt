-- A text has the tokens that it is read as, and no others.
use Rattle.std.proofs.Common.{◌≡◌, ℕ, zero, suc, ◌+◌, ◌-◌, ◌<◌, ◌≤◌, Bool, true, false, cond}
use Rattle.std.proofs.Common.{not, ◌||◌, ◌&&◌, ◌==◌, eqb, ltb, leb, List, [], ◌∷◌, ◌++◌, length}
use Rattle.std.proofs.Common.{get_or, take, drop, Option, Some, None, option_map, option_and_then}
use Rattle.std.proofs.Common.{option_to_list, Ok, nat_eq, codes, fold, IfSome}
use Rattle.std.proofs.Common.{position, refl, sym, ap, ◌∙◌, subst, inl, inr, ⊎_elim, arith}
use Rattle.std.proofs.Common.{append_assoc, length-drop, length-append, take-append-drop}
use Rattle.std.specs.Prelude.{if◌then◌else◌}
use Rattle.std.specs.List.{list_all, after_last, starts_with, prefix_len, suffix_len, take_while}
use Rattle.std.specs.Option.{ok_or}
use Rattle.std.specs.Char.{is_ascii_digit}
use Rattle.std.proofs.lemmas.Bool.{eqb-true, not-true, and_parts, and_from, and_right}
use Rattle.std.proofs.lemmas.Bool.{or_parts, cond-true, cond-false, cases_Bool, false≢true}
use Rattle.std.proofs.lemmas.Bool.{ltb-true, lt-ltb, le-leb, leb-true, eq-eqb, or_left, and_left}
use Rattle.std.proofs.lemmas.Bool.Decides.{nat_tests}
use Rattle.std.proofs.lemmas.List.{append-nil, reverse-append, take_at, drop_at, get_or_at}
use Rattle.std.proofs.lemmas.List.{drop-append-le, drop_all, drop_more, length-take-le, length_push}
use Rattle.std.proofs.lemmas.List.Folds.{list_all-append}
use Rattle.std.proofs.lemmas.List.Sums.{suffix_len-le-length}
use Rattle.mrc_base.specs.Limits.{limit_of_number}
use Rattle.mrc_base.specs.Reading.{◌>>=◌}
use Rattle.mrc_base.proofs.Steps.{bind_ok}
use Rattle.mrc_mig_lex.specs.declared.token.TokenKind.{TokenKind}
use Rattle.mrc_mig_lex.specs.declared.token.TokenKind.TheVariants.{Name, Number, Text, Header, Sign}
use Rattle.mrc_mig_lex.specs.declared.token.TokenKind.TheVariants.{Directive}
use Rattle.mrc_mig_lex.specs.declared.token.Sign as sign
use Rattle.mrc_mig_lex.specs.declared.fault.LexFault.TheVariants.{BadCharacter, OpenComment}
use Rattle.mrc_mig_lex.specs.declared.piece.Piece.{Piece}
use Rattle.mrc_mig_lex.specs.Characters.{line_feed, is_blank, begins_name, continues_name, sign_of}
use Rattle.mrc_mig_lex.specs.Pieces.{token, gap, decimal, line_len, closed_len, comment_len}
use Rattle.mrc_mig_lex.specs.Pieces.{number_at, closed_at, comment_at, sign_at, piece_at}
use Rattle.mrc_mig_lex.specs.Tokens.{Lexeme}
use Rattle.mrc_mig_lex.specs.Lexing.{lexeme_of, tokens_from, tokens_of}
use Rattle.mrc_mig_lex.proofs.LexingLaws.{passed_over}
use Rattle.mrc_mig_lex.proofs.PieceLaws.{Yields, yields, fails, choice, option, piece_is, IsOther}
use Rattle.mrc_mig_lex.proofs.PieceLaws.{sign_other}
use Rattle.mrc_mig_lex.specs.Parts.{Part, Ends, is_fresh, NoClose, stays_open, IsClosed}
use Rattle.mrc_mig_lex.specs.Parts.{IsToken, IsPart, AreParts, tokens_among, HasTokens}

-- whether only blanks stand on the line, after one more character
abbrev pub fresh_after : Bool → ℕ → Bool
fresh_after fresh c = cond (c == line_feed) true (fresh && is_blank c)

-- ---- lines

suffix_len_push : (test : ℕ → Bool) (xs : List ℕ) (c : ℕ)
    → suffix_len test (xs ++ c ∷ []) ≡ cond (test c) (1 + suffix_len test xs) 0
suffix_len_push test xs c = ap (prefix_len test) (reverse-append xs (c ∷ []))

after_line_feed : (xs : List ℕ) (c : ℕ) → (c == line_feed) ≡ true
    → after_last (λ d. d == line_feed) (xs ++ c ∷ []) ≡ []
after_line_feed xs c e =
    let none : suffix_len (λ d. not (d == line_feed)) (xs ++ c ∷ []) ≡ 0 =
    suffix_len_push (λ d. not (d == line_feed)) xs c ∙ cond-false _ _ _ (ap not e) in
    drop_all _ (xs ++ c ∷ []) (omega (arith, none))

after_other : (xs : List ℕ) (c : ℕ) → (c == line_feed) ≡ false
    → after_last (λ d. d == line_feed) (xs ++ c ∷ []) ≡ after_last (λ d. d == line_feed) xs
    ++ c ∷ []
after_other xs c e =
    let test : ℕ → Bool = λ d. not (d == line_feed) in
    let one_more : suffix_len test (xs ++ c ∷ []) ≡ 1 + suffix_len test xs =
    suffix_len_push test xs c ∙ cond-true _ _ _ (ap not e) in
    let size : length (xs ++ c ∷ []) - suffix_len test (xs ++ c ∷ []) ≡ length xs - suffix_len test
    xs = omega (arith, one_more, length-append xs (c ∷ []), suffix_len-le-length test xs) in
    ap (λ n. drop n (xs ++ c ∷ [])) size
    ∙ drop-append-le (length xs - suffix_len test xs) xs (c ∷ []) (omega arith)

and_one : (a b : Bool) → (a && (b && true)) ≡ (a && b)
and_one true true = refl
and_one true false = refl
and_one false b = refl

fresh_push : (xs : List ℕ) (c : ℕ) → is_fresh (xs ++ c ∷ []) ≡ fresh_after (is_fresh xs) c
fresh_push xs c =
    ⊎_elim
    (λ yes. ap (list_all is_blank) (after_line_feed xs c yes)
    ∙ sym (cond-true (c == line_feed) true (is_fresh xs && is_blank c) yes))
    (λ no_feed. ap (list_all is_blank) (after_other xs c no_feed)
    ∙ list_all-append is_blank (after_last (λ d. d == line_feed) xs) (c ∷ [])
    ∙ and_one (is_fresh xs) (is_blank c)
    ∙ sym (cond-false (c == line_feed) true (is_fresh xs && is_blank c) no_feed))
    (cases_Bool (c == line_feed))

pub fresh-append : (xs ys : List ℕ) → is_fresh (xs ++ ys) ≡ fold fresh_after (is_fresh xs) ys
fresh-append xs [] = ap is_fresh (append-nil xs)
fresh-append xs (c ∷ ys) =
    ap is_fresh (sym (append_assoc xs (c ∷ []) ys)) ∙ fresh-append (xs ++ c ∷ []) ys
    ∙ ap (λ b. fold fresh_after b ys) (fresh_push xs c)

-- on a line with something else than a blank nothing is fresh any more
stays_stale : (ys : List ℕ) → list_all (λ c. not (c == line_feed)) ys ≡ true
    → fold fresh_after false ys ≡ false
stays_stale [] _ = refl
stays_stale (c ∷ ys) pass =
    let parts = and_parts _ _ pass in
    ap (λ b. fold fresh_after b ys) (cond-false (c == line_feed) true false (not-true _ parts.0))
    ∙ stays_stale ys parts.1

pub stale : (fresh : Bool) (c : ℕ) (ys : List ℕ) → is_blank c ≡ false
    → list_all (λ d. not (d == line_feed)) ys ≡ true → fold fresh_after fresh (c ∷ ys) ≡ false
stale fresh c ys other pass =
    let not_feed : (c == line_feed) ≡ false = (or_parts _ (c == line_feed) other).1 in
    let first : fresh_after fresh c ≡ false = cond-false _ _ _ not_feed
    ∙ and_right fresh (is_blank c) other in
    ap (λ b. fold fresh_after b ys) first ∙ stays_stale ys pass

-- ---- runs

run_goes_on : (test : ℕ → Bool) (c : ℕ) (rest : List ℕ) → test c ≡ true
    → prefix_len test (c ∷ rest) ≡ suc (prefix_len test rest)
run_goes_on test c rest passes =
    let one : 1 + prefix_len test rest ≡ suc (prefix_len test rest) = omega arith in
    cond-true (test c) (1 + prefix_len test rest) 0 passes ∙ one

run_stops : (test : ℕ → Bool) (c : ℕ) (rest : List ℕ) → test c ≡ false
    → prefix_len test (c ∷ rest) ≡ 0
run_stops test c rest stop = cond-false (test c) (1 + prefix_len test rest) 0 stop

-- a run of characters that pass, and then one that doesn't
pub prefix_len_run : (test : ℕ → Bool) (body after : List ℕ) → list_all test body ≡ true
    → Ends test after → prefix_len test (body ++ after) ≡ length body
prefix_len_run test [] [] _ _ = refl
prefix_len_run test [] (c ∷ after) _ ends = run_stops test c after ends
prefix_len_run test (c ∷ body) after pass ends =
    let parts = and_parts (test c) (list_all test body) pass in
    run_goes_on test c (body ++ after) parts.0
    ∙ ap suc (prefix_len_run test body after parts.1 ends)

pub run_passes : (test : ℕ → Bool) (rest : List ℕ)
    → list_all test (take (prefix_len test rest) rest) ≡ true
run_passes test [] = refl
run_passes test (c ∷ rest) =
    ⊎_elim
    (λ yes. ap (λ n. list_all test (take n (c ∷ rest))) (run_goes_on test c rest yes)
    ∙ and_from (test c) _ yes (run_passes test rest))
    (λ stop. ap (λ n. list_all test (take n (c ∷ rest))) (run_stops test c rest stop))
    (cases_Bool (test c))

pub run_ends : (test : ℕ → Bool) (rest : List ℕ) → Ends test (drop (prefix_len test rest) rest)
run_ends test [] = tt
run_ends test (c ∷ rest) =
    ⊎_elim
    (λ yes. subst (λ (n : ℕ). Ends test (drop n (c ∷ rest))) (sym (run_goes_on test c rest yes))
    (run_ends test rest))
    (λ stop. subst (λ (n : ℕ). Ends test (drop n (c ∷ rest))) (sym (run_stops test c rest stop))
    stop)
    (cases_Bool (test c))

-- what passes one test passes another
list_all-weaker : (p q : ℕ → Bool) (xs : List ℕ) → ((c : ℕ) → p c ≡ true → q c ≡ true)
    → list_all p xs ≡ true → list_all q xs ≡ true
list_all-weaker p q [] weaker _ = refl
list_all-weaker p q (c ∷ xs) weaker pass =
    let parts = and_parts _ _ pass in
    and_from _ _ (weaker c parts.0) (list_all-weaker p q xs weaker parts.1)

name_not_blank : (c : ℕ) → begins_name c ≡ true → is_blank c ≡ false
name_not_blank c h = grind (arith, nat_tests)

pub digit_not_blank : (c : ℕ) → is_ascii_digit c ≡ true → is_blank c ≡ false
digit_not_blank c h = grind (arith, nat_tests)

-- ---- what is read is a part

-- the piece is a part of this kind, behind what stands before
pub record Stands (before : List ℕ) (first : ℕ) (rest : List ℕ) (piece : Piece) : Type 0 where
  pub part : IsPart piece.kind before (first ∷ take piece.more rest) (drop piece.more rest)
  pub fresh : piece.fresh ≡ fold fresh_after (is_fresh before) (first ∷ take piece.more rest)

blank_fresh : (fresh feed blank : Bool) → blank ≡ true
    → (fresh || feed) ≡ cond feed true (fresh && blank)
blank_fresh true true true _ = refl
blank_fresh true false true _ = refl
blank_fresh false true true _ = refl
blank_fresh false false true _ = refl
blank_fresh fresh feed false e = absurd (false≢true e)

blank_stands : (before : List ℕ) (first : ℕ) (rest : List ℕ) → is_blank first ≡ true
    → Stands before first rest (gap 0 (is_fresh before || (first == line_feed)))
blank_stands before first rest blank =
    record {
      part = inl (first, refl, blank);
      fresh = blank_fresh (is_fresh before)
          (first == line_feed) (is_blank first) blank;
    }

name_stands : (before : List ℕ) (first : ℕ) (rest : List ℕ) → begins_name first ≡ true
    → Stands before first rest (token Name (prefix_len continues_name rest))
name_stands before first rest begins =
    let body = take (prefix_len continues_name rest) rest in
    let pass = run_passes continues_name rest in
    record {
      part = (first, body, refl, begins, pass, run_ends continues_name rest);
      fresh = sym (stale (is_fresh before) first body (name_not_blank first begins)
          (list_all-weaker _ _ body (λ c h. grind (arith, nat_tests)) pass));
    }

number_stands : (at : ℕ) (before : List ℕ) (first : ℕ) (rest : List ℕ) → is_ascii_digit first ≡ true
    → Yields (Stands before first rest) (number_at at first rest)
number_stands at before first rest digit =
    let body = take (prefix_len is_ascii_digit rest) rest in
    let pass = run_passes is_ascii_digit rest in
    choice
    (λ small. yields _ (record {
      part = (
        first,
        body,
        refl,
        and_from _ _ digit pass,
        run_ends is_ascii_digit rest,
        refl,
        leb-true _ _ small,
      );
      fresh = sym (stale (is_fresh before) first body (digit_not_blank first digit)
          (list_all-weaker _ _ body (λ c h. grind (arith, nat_tests)) pass));
    }))
    (λ _. fails _)

directive_stands : (before : List ℕ) (rest : List ℕ) → is_fresh before ≡ true
    → Stands before 35 rest (token Directive (line_len rest))
directive_stands before rest fresh =
    let line = take (line_len rest) rest in
    let pass = run_passes (λ c. not (c == line_feed)) rest in
    record {
      part = (line, refl, fresh, pass, run_ends (λ c. not (c == line_feed)) rest);
      fresh = sym (stale (is_fresh before) 35 line refl pass);
    }

sign_stands : (at : ℕ) (before : List ℕ) (first : ℕ) (rest : List ℕ) → is_blank first ≡ false
    → ((first == 47) && starts_with nat_eq rest (codes "*")) ≡ false
    → Yields (Stands before first rest) (sign_at at first)
sign_stands at before first rest other no_comment = option (sign_of first) (λ s. token (Sign s) 0)
    (BadCharacter at) (each (sign_of first) refl)
  where
    each : (o : Option sign.Sign) → sign_of first ≡ o
        → IfSome o (λ s. Stands before first rest (token (Sign s) 0))
    each None _ = tt
    each (Some s) is_sign = record {
      part = (first, refl, is_sign, no_comment);
      fresh =
          sym (stale (is_fresh before) first [] other refl);
    }

-- a string or `<..>`, and what is left of the text
record Closed (close : ℕ) (rest : List ℕ) (n : ℕ) : Type 0 where
  inner : List ℕ
  after : List ℕ
  split : rest ≡ inner ++ close ∷ after
  size : n ≡ length inner + 1
  inside : list_all (stays_open close) inner ≡ true

cond_some : (b : Bool) (x n : ℕ) → cond b (Some x) None ≡ Some n → (b ≡ true) × (x ≡ n)
cond_some true x n e = (refl, cc)
cond_some false x n e = absurd cc

closed_parts : (close : ℕ) (rest : List ℕ) (n : ℕ) → closed_len close rest ≡ Some n
    → Closed close rest n
closed_parts close rest n found = at_place (position (λ c. (c == close) || (c == line_feed)) rest)
    refl found
  where
    at_place : (o : Option ℕ) → position (λ c. (c == close) || (c == line_feed)) rest ≡ o
        → option_and_then (λ i. if get_or rest i 0 == close then Some (i + 1) else None) o ≡ Some n
        → Closed close rest n
    at_place None _ e = absurd cc
    at_place (Some i) place e =
        let first = cond_some (ltb (prefix_len (stays_open close) rest) (length rest))
        (prefix_len (stays_open close) rest) i place in
        let lt : i < length rest = omega (arith, ltb-true _ _ first.0) in
        let ends = cond_some (get_or rest i 0 == close) (i + 1) n e in
        record {
          inner = take i rest;
          after = drop (i + 1) rest;
          split = sym (take-append-drop i rest)
              ∙ ap (λ l. take i rest ++ l) (drop_more rest i 0 lt
              ∙ ap (λ c. c ∷ drop (i + 1) rest) (eqb-true _ _ ends.0));
          size = omega (arith, length-take-le i rest (omega arith), ends.1);
          inside = ap (λ m. list_all (stays_open close) (take m rest)) (sym first.1)
              ∙ run_passes (stays_open close) rest;
        }

-- what is cut off up to the close
cut_closed : (inner after : List ℕ) (close n : ℕ) (rest : List ℕ) → rest ≡ inner ++ close ∷ after
    → n ≡ length inner + 1 → take n rest ≡ inner ++ close ∷ []
cut_closed inner after close n rest split size =
    ap (take n) (split ∙ sym (append_assoc inner (close ∷ []) after))
    ∙ take_at (inner ++ close ∷ []) after n (omega (arith, length-append inner (close ∷ [])))

no_feed_inside : (close c : ℕ) → stays_open close c ≡ true → not (c == line_feed) ≡ true
no_feed_inside close c open_still = ap not (or_parts _ _ (not-true _ open_still)).1

closed_stands : (at : ℕ) (kind : TokenKind) (close : ℕ) (before : List ℕ) (first : ℕ)
    (rest : List ℕ) → is_blank first ≡ false → (close == line_feed) ≡ false
    → ((bytes after : List ℕ) → IsClosed first close bytes → IsToken kind before bytes after)
    → Yields (Stands before first rest) (closed_at at kind close rest)
closed_stands at kind close before first rest other not_feed is_token =
    option (closed_len close rest) (token kind) (BadCharacter at)
    (each (closed_len close rest) refl)
  where
    each : (o : Option ℕ) → closed_len close rest ≡ o
        → IfSome o (λ n. Stands before first rest (token kind n))
    each None _ = tt
    each (Some n) found =
        let p = closed_parts close rest n found in
        let cut = cut_closed p.inner p.after close n rest p.split p.size in
        let pass : list_all (λ c. not (c == line_feed)) (p.inner ++ close ∷ []) ≡ true =
        list_all-append _ p.inner (close ∷ [])
        ∙ and_from _ _ (list_all-weaker _ _ p.inner (no_feed_inside close) p.inside)
        (and_from _ _ (ap not not_feed) refl) in
        record {
          part = is_token _ _ (p.inner, ap (λ l. first ∷ l) cut, p.inside);
          fresh = sym (stale (is_fresh before) first (take n rest) other
              (ap (list_all (λ c. not (c == line_feed))) cut ∙ pass));
        }

-- the end of a comment, and what is left of the text
record Commented (rest : List ℕ) (n : ℕ) : Type 0 where
  inner : List ℕ
  after : List ℕ
  split : rest ≡ inner ++ (codes "*/" ++ after)
  size : n ≡ length inner + 2
  inside : NoClose (inner ++ codes "*")

-- whether `*/` begins at a place can be seen from what stands before the `/` of a later one
same_close : (c : ℕ) (inner after : List ℕ)
    → starts_with nat_eq (c ∷ (inner ++ codes "*")) (codes "*/") ≡ starts_with nat_eq
    (c ∷ (inner ++ (codes "*/" ++ after))) (codes "*/")
same_close c [] after = refl
same_close c (d ∷ inner) after = refl

closes_here : (c : ℕ) (rest : List ℕ) (n : ℕ) → starts_with nat_eq (c ∷ rest) (codes "*/") ≡ true
    → n ≡ 2 → Commented (c ∷ rest) n
closes_here c [] n begins two = absurd (false≢true (and_parts (eqb 42 c) _ begins).1)
closes_here c (d ∷ rest) n begins two =
    let p = and_parts (eqb 42 c) _ begins in
    let star : c ≡ 42 = sym (eqb-true 42 c p.0) in
    let slash : d ≡ 47 = sym (eqb-true 47 d (and_parts (eqb 47 d) _ p.1).0) in
    record {
      inner = [];
      after = rest;
      split = ap (λ l. c ∷ l) (ap (λ e. e ∷ rest) slash)
          ∙ ap (λ e. e ∷ 47 ∷ rest) star;
      size = two;
      inside = (refl, tt);
    }

comment_parts : (rest : List ℕ) (n : ℕ) → comment_len rest ≡ Some n → Commented rest n
comment_parts [] n found = absurd cc
comment_parts (c ∷ rest) n found =
    ⊎_elim
    (λ here. let two : Some 2 ≡ Some n = sym (cond-true _ _ _ here)
    ∙ found in closes_here c rest n here cc)
    (λ later. further (λ m e. comment_parts rest m e) (comment_len rest) refl later
    (sym (cond-false _ _ _ later) ∙ found))
    (cases_Bool (starts_with nat_eq (c ∷ rest) (codes "*/")))
  where
    further : ((m : ℕ) → comment_len rest ≡ Some m → Commented rest m) → (o : Option ℕ)
        → comment_len rest ≡ o → starts_with nat_eq (c ∷ rest) (codes "*/") ≡ false
        → option_map suc o ≡ Some n → Commented (c ∷ rest) n
    further onward None _ _ e = absurd cc
    further onward (Some m) found later e =
        let p = onward m found in
        let next : suc m ≡ n = cc in
        record {
          inner = c ∷ p.inner;
          after = p.after;
          split = ap (λ l. c ∷ l) p.split;
          size = omega (arith, p.size);
          inside = (
            same_close c p.inner p.after
                ∙ ap (λ l. starts_with nat_eq (c ∷ l) (codes "*/")) (sym p.split) ∙ later,
            p.inside,
          );
        }

-- nothing is fresh behind a comment
comment_stale : (fresh : Bool) (inner : List ℕ)
    → fold fresh_after fresh (inner ++ codes "*/") ≡ false
comment_stale true [] = refl
comment_stale false [] = refl
comment_stale fresh (c ∷ inner) = comment_stale (fresh_after fresh c) inner

comment_stands : (at : ℕ) (before : List ℕ) (rest : List ℕ)
    → Yields (Stands before 47 (42 ∷ rest)) (comment_at at (42 ∷ rest))
comment_stands at before rest = option (comment_len rest) (λ more. gap (more + 1) false)
    (OpenComment at) (each (comment_len rest) refl)
  where
    each : (o : Option ℕ) → comment_len rest ≡ o
        → IfSome o (λ n. Stands before 47 (42 ∷ rest) (gap (n + 1) false))
    each None _ = tt
    each (Some n) found =
        let p = comment_parts rest n found in
        let next : n + 1 ≡ suc n = omega arith in
        let cut : take n rest ≡ p.inner
        ++ codes "*/" = ap (take n) (p.split ∙ sym (append_assoc p.inner (codes "*/") p.after))
        ∙ take_at (p.inner ++ codes "*/") p.after n
        (omega (arith, length-append p.inner (codes "*/"), p.size)) in
        let bytes : 47 ∷ take (n + 1) (42 ∷ rest) ≡ 47 ∷ 42 ∷ (p.inner ++ codes "*/") =
        ap (λ m. 47 ∷ take m (42 ∷ rest)) next ∙ ap (λ l. 47 ∷ 42 ∷ l) cut in
        record {
          part = inr (p.inner, bytes, p.inside);
          fresh = sym (ap (fold fresh_after (is_fresh before)) bytes
              ∙ comment_stale (is_fresh before) (47 ∷ 42 ∷ p.inner));
        }

comment_begins : (at : ℕ) (before : List ℕ) (first : ℕ) (rest : List ℕ) → first ≡ 47
    → starts_with nat_eq rest (codes "*") ≡ true
    → Yields (Stands before first rest) (comment_at at rest)
comment_begins at before first [] slash star = absurd (false≢true star)
comment_begins at before first (c ∷ rest) slash star =
    let e : c ≡ 42 = sym (eqb-true 42 c (and_parts (eqb 42 c) _ star).0) in
    subst (λ (d : ℕ). Yields (Stands before first (d ∷ rest)) (comment_at at (d ∷ rest))) (sym e)
    (subst (λ (d : ℕ). Yields (Stands before d (42 ∷ rest)) (comment_at at (42 ∷ rest))) (sym slash)
    (comment_stands at before rest))

-- a piece that is read is a part
pub piece_stands : (at : ℕ) (before : List ℕ) (first : ℕ) (rest : List ℕ)
    → Yields (Stands before first rest) (piece_at at (is_fresh before) first rest)
unfolding piece_at
piece_stands at before first rest =
    choice {b = is_blank first} (λ e. yields _ (blank_stands before first rest e)) (λ other.
    choice (λ e. yields _ (name_stands before first rest e)) (λ _.
    choice (λ e. number_stands at before first rest e) (λ _.
    choice (λ e. closed_stands at Text 34 before first rest other refl
    (λ bytes after h. subst (λ (c : ℕ). IsClosed c 34 bytes) (eqb-true first 34 e) h)) (λ _.
    choice (λ e. closed_stands at Header 62 before first rest other refl
    (λ bytes after h. subst (λ (c : ℕ). IsClosed c 62 bytes) (eqb-true first 60 e) h)) (λ _.
    choice (λ e. yields _
    (subst (λ (c : ℕ). Stands before c rest (token Directive (line_len rest)))
    (sym (eqb-true first 35 (and_parts (first == 35) _ e).0))
    (directive_stands before rest (and_parts (first == 35) _ e).1))) (λ _.
    choice (λ e. comment_begins at before first rest
    (eqb-true first 47 (and_parts (first == 47) _ e).0) (and_parts (first == 47) _ e).1)
    (λ no_comment.
    sign_stands at before first rest other no_comment)))))))

-- ---- a part is what is read

-- a part, behind what stands before, is the piece that is read
pub record IsRead (at : ℕ) (fresh : Bool) (kind : Option TokenKind) (bytes after : List ℕ) : Type 0
  where
    pub first : ℕ
    pub body : List ℕ
    pub split : bytes ≡ first ∷ body
    pub then_fresh : Bool
    pub read : piece_at at fresh first (body ++ after) ≡ Ok (record {
      kind = kind;
      more = length body;
      fresh = then_fresh;
    })

name_read : (at : ℕ) (fresh : Bool) (first : ℕ) (body after : List ℕ) → begins_name first ≡ true
    → list_all continues_name body ≡ true → Ends continues_name after
    → piece_at at fresh first (body ++ after) ≡ Ok (token Name (length body))
unfolding piece_at
name_read at fresh first body after begins pass ends =
    cond-false (is_blank first) _ _ (name_not_blank first begins)
    ∙ cond-true (begins_name first) _ _ begins
    ∙ ap (λ n. Ok (token Name n)) (prefix_len_run continues_name body after pass ends)

number_read : (at : ℕ) (fresh : Bool) (first : ℕ) (body after : List ℕ)
    → list_all is_ascii_digit (first ∷ body) ≡ true → Ends is_ascii_digit after
    → decimal (first ∷ body) ≤ limit_of_number
    → piece_at at fresh first (body ++ after)
    ≡ Ok (token (Number (decimal (first ∷ body))) (length body))
unfolding piece_at
number_read at fresh first body after pass ends small =
    let p = and_parts (is_ascii_digit first) _ pass in
    let run = prefix_len_run is_ascii_digit body after p.1 ends in
    let digits : take_while is_ascii_digit (body ++ after) ≡ body =
    ap (λ n. take n (body ++ after)) run ∙ take_at body after (length body) refl in
    let value : decimal (first ∷ take_while is_ascii_digit (body ++ after)) ≡ decimal (first ∷ body)
    = ap (λ l. decimal (first ∷ l)) digits in
    cond-false (is_blank first) _ _ (digit_not_blank first p.0)
    ∙ cond-false (begins_name first) _ _ (let h = p.0 in grind (arith, nat_tests))
    ∙ cond-true (is_ascii_digit first) _ _ p.0
    ∙ cond-true (leb (decimal (first ∷ take_while is_ascii_digit (body ++ after)))
    limit_of_number) _ _ (le-leb _ _ (omega (arith, value)))
    ∙ ap (λ v. Ok (token (Number v) (prefix_len is_ascii_digit (body ++ after)))) value
    ∙ ap (λ n. Ok (token (Number (decimal (first ∷ body))) n)) run

closed_len_is : (close : ℕ) (inner after : List ℕ) → list_all (stays_open close) inner ≡ true
    → closed_len close (inner ++ close ∷ after) ≡ Some (length inner + 1)
closed_len_is close inner after pass =
    let same : (close == close) ≡ true = eq-eqb close close refl in
    let run : prefix_len (stays_open close) (inner ++ close ∷ after) ≡ length inner =
    prefix_len_run (stays_open close) inner (close ∷ after) pass (ap not (or_left _ _ same)) in
    let place : position (λ c. (c == close) || (c == line_feed)) (inner ++ close ∷ after)
    ≡ Some (length inner) =
    cond-true (ltb (prefix_len (stays_open close) (inner ++ close ∷ after))
    (length (inner ++ close ∷ after))) _ _
    (lt-ltb _ _ (omega (arith, run, length-append inner (close ∷ after)))) ∙ ap Some run in
    ap (option_and_then (λ i. if get_or (inner ++ close ∷ after) i 0 == close then Some (i + 1)
    else None)) place
    ∙ cond-true (get_or (inner ++ close ∷ after) (length inner) 0 == close) _ _
    (ap (λ c. c == close) (get_or_at inner close after 0 (length inner) refl) ∙ same)

closed_at_is : (at : ℕ) (kind : TokenKind) (close : ℕ) (inner after : List ℕ)
    → list_all (stays_open close) inner ≡ true
    → closed_at at kind close ((inner ++ close ∷ []) ++ after)
    ≡ Ok (token kind (length (inner ++ close ∷ [])))
closed_at_is at kind close inner after pass =
    let size : length inner + 1 ≡ length (inner ++ close ∷ []) = sym (length_push inner close) in
    ap (closed_at at kind close) (append_assoc inner (close ∷ []) after)
    ∙ ap (λ o. ok_or (option_map (token kind) o) (BadCharacter at))
    (closed_len_is close inner after pass ∙ ap Some size)

sign_read : (at : ℕ) (fresh : Bool) (c : ℕ) (s : sign.Sign) (after : List ℕ) → sign_of c ≡ Some s
    → ((c == 47) && starts_with nat_eq after (codes "*")) ≡ false
    → piece_at at fresh c after ≡ Ok (token (Sign s) 0)
unfolding piece_at
sign_read at fresh c s after is_sign no_comment =
    let o : IsOther c = subst (λ (o : Option sign.Sign). IfSome o (λ _. IsOther c)) is_sign
    (sign_other c) in
    cond-false (is_blank c) _ _ o.blank ∙ cond-false (begins_name c) _ _ o.name
    ∙ cond-false (is_ascii_digit c) _ _ o.digit ∙ cond-false (eqb c 34) _ _ o.quote
    ∙ cond-false (eqb c 60) _ _ o.less
    ∙ cond-false ((c == 35) && fresh) _ _ (and_left _ _ o.hash)
    ∙ cond-false ((c == 47) && starts_with nat_eq after (codes "*")) _ _ no_comment
    ∙ ap (λ x. ok_or (option_map (λ t. token (Sign t) 0) x) (BadCharacter at)) is_sign

comment_len_is : (inner after : List ℕ) → NoClose (inner ++ codes "*")
    → comment_len (inner ++ (codes "*/" ++ after)) ≡ Some (length inner + 2)
comment_len_is [] after _ = refl
comment_len_is (c ∷ inner) after inside =
    let next : suc (length inner + 2) ≡ suc (length inner) + 2 = omega arith in
    cond-false (starts_with nat_eq (c ∷ (inner ++ (codes "*/" ++ after))) (codes "*/")) _ _
    (sym (same_close c inner after) ∙ inside.0)
    ∙ ap (option_map suc) (comment_len_is inner after inside.1) ∙ ap Some next

comment_read : (at : ℕ) (fresh : Bool) (inner after : List ℕ) → NoClose (inner ++ codes "*")
    → piece_at at fresh 47 ((42 ∷ (inner ++ codes "*/")) ++ after)
    ≡ Ok (gap (length (42 ∷ (inner ++ codes "*/"))) false)
unfolding piece_at
comment_read at fresh inner after inside =
    let size : length inner + 2 + 1 ≡ suc (length (inner ++ codes "*/")) =
    omega (arith, length-append inner (codes "*/")) in
    ap (λ o. ok_or (option_map (λ more. gap (more + 1) false) o) (OpenComment at))
    (ap comment_len (append_assoc inner (codes "*/") after) ∙ comment_len_is inner after inside)
    ∙ ap (λ n. Ok (gap n false)) size

-- a piece of these bytes behind which nothing is fresh
stale_read : {at : ℕ} {fresh : Bool} {kind : Option TokenKind} {bytes after : List ℕ} (first : ℕ)
    (body : List ℕ) → bytes ≡ first ∷ body
    → piece_at at fresh first (body ++ after)
    ≡ Ok (record { kind = kind; more = length body; fresh = false })
    → IsRead at fresh kind bytes after
stale_read first body split read =
    record { first = first; body = body; split = split; then_fresh = false; read = read }

token_read : (at : ℕ) (before : List ℕ) (kind : TokenKind) (bytes after : List ℕ)
    → IsToken kind before bytes after → IsRead at (is_fresh before) (Some kind) bytes after
unfolding piece_at
token_read at before Name bytes after (first, body, split, begins, pass, ends) =
    stale_read first body split (name_read at (is_fresh before) first body after begins pass ends)
token_read at before (Number n) bytes after (first, body, split, pass, ends, value, small) =
    let value_is : decimal (first ∷ body) ≡ n = sym (ap decimal split) ∙ value in
    stale_read first body split (number_read at (is_fresh before) first body after
    (ap (list_all is_ascii_digit) (sym split) ∙ pass) ends (omega (arith, value_is))
    ∙ ap (λ v. Ok (token (Number v) (length body))) value_is)
token_read at before Text bytes after (inner, split, pass) =
    stale_read 34 (inner ++ 34 ∷ []) split (closed_at_is at Text 34 inner after pass)
token_read at before Header bytes after (inner, split, pass) =
    stale_read 60 (inner ++ 62 ∷ []) split (closed_at_is at Header 62 inner after pass)
token_read at before (Sign s) bytes after (c, split, is_sign, no_comment) =
    stale_read c [] split (sign_read at (is_fresh before) c s after is_sign no_comment)
token_read at before Directive bytes after (line, split, fresh, pass, ends) =
    stale_read 35 line split
    (ap (λ f. piece_at at f 35 (line ++ after)) fresh ∙ ap (λ n. Ok (token Directive n))
    (prefix_len_run (λ c. not (c == line_feed)) line after pass ends))

pub part_read : (at : ℕ) (before : List ℕ) (kind : Option TokenKind) (bytes after : List ℕ)
    → IsPart kind before bytes after → IsRead at (is_fresh before) kind bytes after
unfolding piece_at
part_read at before (Some kind) bytes after is_token =
    token_read at before kind bytes after is_token
part_read at before None bytes after (inl (c, split, blank)) =
    record {
      first = c;
      body = [];
      split = split;
      then_fresh = is_fresh before || (c == line_feed);
      read = cond-true (is_blank c) _ _ blank;
    }
part_read at before None bytes after (inr (inner, split, inside)) =
    stale_read 47 (42 ∷ (inner ++ codes "*/")) split
    (comment_read at (is_fresh before) inner after inside)

-- ---- whole texts

-- what is left behind a piece
behind : (more : ℕ) (fresh fresh' : Bool) (at at' : ℕ) (rest after : List ℕ) → fresh ≡ fresh'
    → at + more ≡ at' → drop more rest ≡ after
    → tokens_from more fresh at rest ≡ tokens_from 0 fresh' at' after
behind more fresh fresh' at at' rest after same_fresh same_at same_rest =
    passed_over more fresh at rest
    ∙ ap (λ f. tokens_from 0 f (at + more) (drop more rest)) same_fresh
    ∙ ap (λ i. tokens_from 0 fresh' i (drop more rest)) same_at
    ∙ ap (tokens_from 0 fresh' at') same_rest

-- these parts, with these tokens among them
record Parted (before rest : List ℕ) (tokens : List Lexeme) : Type 0 where
  parts : List Part
  are_parts : AreParts before rest parts
  tokens_are : tokens ≡ tokens_among (length before) parts

parted : (n : ℕ) (before rest : List ℕ) (tokens : List Lexeme) → length rest ≤ n
    → tokens_from 0 (is_fresh before) (length before) rest ≡ Ok tokens → Parted before rest tokens
parted n before [] tokens _ read = record { parts = []; are_parts = refl; tokens_are = cc }
parted zero before (c ∷ rest) tokens le read = absurd (omega arith)
parted (suc n) before (c ∷ rest) tokens le read =
    let one = bind_ok (piece_at (length before) (is_fresh before) c rest) _ _ read in
    let piece = one.0 in
    let stands = (piece_stands (length before) before c rest).ok piece one.1 in
    let within = ((piece_is (length before) (is_fresh before) c rest).ok piece one.1).within in
    let two = bind_ok (tokens_from piece.more piece.fresh (length before + 1) rest) _ _ one.2 in
    let bytes = c ∷ take piece.more rest in
    let after = drop piece.more rest in
    let here : length before + 1 + piece.more ≡ length (before ++ bytes) =
    omega (arith, length-append before bytes, length-take-le piece.more rest within) in
    let fresh : piece.fresh ≡ is_fresh (before ++ bytes) = stands.fresh
    ∙ sym (fresh-append before bytes) in
    let onward : tokens_from 0 (is_fresh (before ++ bytes)) (length (before ++ bytes)) after
    ≡ Ok two.0 =
    sym (behind piece.more piece.fresh _ (length before + 1) _ rest after fresh here refl)
    ∙ two.1 in
    let later = parted n (before ++ bytes) after two.0 (omega (arith, length-drop piece.more rest))
    onward in
    let whole : lexeme_of piece (length before) c rest ++ two.0 ≡ tokens = cc in
    record {
      parts = record { kind = piece.kind; bytes = bytes } ∷ later.parts;
      are_parts = (
        after,
        ap (λ l. c ∷ l) (sym (take-append-drop piece.more rest)),
        stands.part,
        later.are_parts,
      );
      tokens_are = sym whole
          ∙ ap (λ ts. lexeme_of piece (length before) c rest ++ ts) (later.tokens_are
          ∙ ap (λ i. tokens_among i later.parts) (length-append before bytes));
    }

read_parts : (before rest : List ℕ) (parts : List Part) → AreParts before rest parts
    → tokens_from 0 (is_fresh before) (length before) rest ≡ Ok (tokens_among (length before) parts)
read_parts before rest [] none = ap (tokens_from 0 (is_fresh before) (length before)) none
read_parts before rest (part ∷ parts) (after, split, is_part, are_parts) =
    let r = part_read (length before) before part.kind part.bytes after is_part in
    let piece : Piece = record { kind = part.kind; more = length r.body; fresh = r.then_fresh } in
    let stands = (piece_stands (length before) before r.first (r.body ++ after)).ok piece r.read in
    let whole : rest ≡ r.first ∷ (r.body ++ after) = split ∙ ap (λ l. l ++ after) r.split in
    let cut : take (length r.body) (r.body ++ after) ≡ r.body =
    take_at r.body after (length r.body) refl in
    let bytes : r.first ∷ take (length r.body) (r.body ++ after) ≡ part.bytes =
    ap (λ l. r.first ∷ l) cut ∙ sym r.split in
    let fresh : r.then_fresh ≡ is_fresh (before ++ part.bytes) = stands.fresh
    ∙ ap (fold fresh_after (is_fresh before)) bytes ∙ sym (fresh-append before part.bytes) in
    let here : length before + 1 + length r.body ≡ length (before ++ part.bytes) =
    omega (arith, length-append before part.bytes, ap length r.split) in
    let onward : tokens_from (length r.body) r.then_fresh (length before + 1) (r.body ++ after)
    ≡ Ok (tokens_among (length before + length part.bytes) parts) =
    behind (length r.body) r.then_fresh _ (length before + 1) _ (r.body ++ after) after fresh here
    (drop_at r.body after (length r.body) refl)
    ∙ read_parts (before ++ part.bytes) after parts are_parts
    ∙ ap (λ i. Ok (tokens_among i parts)) (length-append before part.bytes) in
    ap (tokens_from 0 (is_fresh before) (length before)) whole
    ∙ ap (λ p. p >>= (λ q. tokens_from q.more q.fresh (length before + 1) (r.body ++ after)
    >>= (λ later. Ok (lexeme_of q (length before) r.first (r.body ++ after) ++ later)))) r.read
    ∙ ap (λ ts. ts
    >>= (λ later. Ok (lexeme_of piece (length before) r.first (r.body ++ after) ++ later)))
    onward ∙ ap (λ l. Ok
    (option_to_list {X = Lexeme}
    (option_map (λ kind. record { kind = kind; at = length before; bytes = l }) part.kind)
    ++ tokens_among (length before + length part.bytes) parts)) bytes

-- a text has the tokens that it is read as
pub has_tokens : (text : List ℕ) (tokens : List Lexeme) → tokens_of text ≡ Ok tokens
    → HasTokens text tokens
has_tokens text tokens read =
    let p = parted (length text) [] text tokens (omega arith) read in
    (p.parts, p.are_parts, p.tokens_are)

-- and is read as the tokens that it has
pub only_tokens : (text : List ℕ) (tokens : List Lexeme) → HasTokens text tokens
    → tokens_of text ≡ Ok tokens
only_tokens text tokens (parts, are_parts, tokens_are) = read_parts [] text parts are_parts
    ∙ ap Ok (sym tokens_are)
