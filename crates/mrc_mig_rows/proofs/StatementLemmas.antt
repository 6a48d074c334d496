-- Where a statement ends by how it is read is where it ends by its signs.
use Rattle.std.proofs.Common.{◌≡◌, ℕ, zero, suc, ◌==◌, Bool, true, false, List, [], ◌∷◌}
use Rattle.std.proofs.Common.{◌++◌, Ok, refl, sym, ap, ◌∙◌, arith, subst}
use Rattle.std.proofs.Common.{if◌then◌else◌}
use Rattle.std.proofs.lemmas.Bool.Decides.{nat_tests}
use Rattle.mrc_mig_lex.specs.declared.token.Sign.{Sign}
use Rattle.mrc_mig_lex.specs.declared.token.Sign.TheVariants as signs
use Rattle.mrc_mig_tokens.specs.declared.symbol.Symbol.{Symbol}
use Rattle.mrc_mig_tokens.specs.declared.symbol.Symbol.TheVariants as symbols
use Rattle.mrc_mig_tokens.specs.Reading.{first_of, tail_of}
use Rattle.mrc_mig_tokens.specs.Tokens.{Token}
use Rattle.mrc_mig_rows.specs.Ends.{ends, opened, end_from, behind_end, statement_end}
use Rattle.mrc_mig_rows.specs.Statements.{is_opening, is_closing, is_semicolon, is_other, IsInside}
use Rattle.mrc_mig_rows.specs.Statements.{nothing, opening, closing, inner, other, IsStatement}

-- what a symbol is: it ends a part, or where it ends none
data Turn (depth : ℕ) (symbol : Symbol) : Type 0 where
  opens : is_opening symbol ≡ true → opened depth symbol ≡ suc depth → Turn depth symbol
  closes : is_closing symbol ≡ true → (under : ℕ) → depth ≡ suc under
      → opened depth symbol ≡ under → Turn depth symbol
  parts : is_semicolon symbol ≡ true → (under : ℕ) → depth ≡ suc under
      → opened depth symbol ≡ depth → Turn depth symbol
  stays : is_other symbol ≡ true → opened depth symbol ≡ depth → Turn depth symbol

sign_turns : (depth : ℕ) (sign : Sign) → ends depth (symbols.Sign sign) ≡ false
    → Turn depth (symbols.Sign sign)
sign_turns depth signs.OpenParenthesis e = opens refl (omega arith)
sign_turns zero signs.CloseParenthesis e = absurd cc
sign_turns (suc under) signs.CloseParenthesis e = closes refl under refl (omega arith)
sign_turns zero signs.Semicolon e = absurd cc
sign_turns (suc under) signs.Semicolon e = parts refl under refl refl
sign_turns depth _ e = stays refl refl

turns : (depth : ℕ) (symbol : Symbol) → ends depth symbol ≡ false → Turn depth symbol
turns depth (symbols.Sign sign) e = sign_turns depth sign e
turns depth symbols.OpenBrace e = opens refl (omega arith)
turns zero symbols.CloseBrace e = absurd cc
turns (suc under) symbols.CloseBrace e = closes refl under refl (omega arith)
turns depth symbols.Include e = absurd cc
turns depth symbols.Line e = absurd cc
turns depth symbols.End e = absurd cc
turns depth _ e = stays refl refl

-- the part that ends here
record Inside (depth : ℕ) (tokens : List Token) (end : Token) (behind : List Token) : Type 0 where
  inside : List Token
  splits : tokens ≡ inside ++ end ∷ behind
  stands : IsInside depth inside

-- one token more in front
before : (depth : ℕ) (token : Token) (tokens : List Token) (end : Token) (behind : List Token)
    → Turn depth token.symbol → Inside (opened depth token.symbol) tokens end behind
    → Inside depth (token ∷ tokens) end behind
before depth token tokens end behind (opens is next) found = record {
  inside = token ∷ found.inside;
  splits = ap (λ ts. token ∷ ts) found.splits;
  stands = opening depth token found.inside is
      (subst (λ d. IsInside d found.inside) next found.stands);
}
before depth token tokens end behind (closes is under above next) found = record {
  inside = token ∷ found.inside;
  splits = ap (λ ts. token ∷ ts) found.splits;
  stands = subst (λ d. IsInside d (token ∷ found.inside)) (sym above)
      (closing under token found.inside is
      (subst (λ d. IsInside d found.inside) next found.stands));
}
before depth token tokens end behind (parts is under above next) found = record {
  inside = token ∷ found.inside;
  splits = ap (λ ts. token ∷ ts) found.splits;
  stands = subst (λ d. IsInside d (token ∷ found.inside)) (sym above)
      (inner under token found.inside is
      (subst (λ d. IsInside d found.inside) (next ∙ above) found.stands));
}
before depth token tokens end behind (stays is next) found = record {
  inside = token ∷ found.inside;
  splits = ap (λ ts. token ∷ ts) found.splits;
  stands = other depth token found.inside is
      (subst (λ d. IsInside d found.inside) next found.stands);
}

suc_is_some : (n : ℕ) → (suc n == 0) ≡ false
suc_is_some n = grind (arith, nat_tests)

semicolon_ends : (depth : ℕ) (symbol : Symbol) → is_semicolon symbol ≡ true
    → ends depth symbol ≡ (depth == 0)
semicolon_ends depth (symbols.Sign signs.Semicolon) e = refl
semicolon_ends depth _ e = absurd cc

-- what ends a part in which none is open
ended : (depth : ℕ) (token : Token) (tokens : List Token) (end : Token) (behind : List Token)
    → ends depth token.symbol ≡ true → is_semicolon end.symbol ≡ true
    → token ∷ tokens ≡ end ∷ behind → Inside depth (token ∷ tokens) end behind
ended zero token tokens end behind e is same =
    record { inside = []; splits = same; stands = nothing }
ended (suc depth) token tokens end behind e is same =
    let head : token ≡ end = cc in
    let no = semicolon_ends (suc depth) end.symbol is in
    let some = suc_is_some depth in
    let yes : ends (suc depth) end.symbol ≡ true = subst (λ t. ends (suc depth) t.symbol ≡ true)
    head e in absurd cc

found_by : (depth : ℕ) (token : Token) (tokens : List Token) (end : Token) (behind : List Token)
    (b : Bool) → ends depth token.symbol ≡ b
    → (if b then token ∷ tokens else end_from (opened depth token.symbol) tokens)
    ≡ end ∷ behind
    → is_semicolon end.symbol ≡ true
    → (end_from (opened depth token.symbol) tokens ≡ end ∷ behind
    → Inside (opened depth token.symbol) tokens end behind)
    → Inside depth (token ∷ tokens) end behind
found_by depth token tokens end behind true e same is later =
    ended depth token tokens end behind e is same
found_by depth token tokens end behind false e same is later =
    before depth token tokens end behind (turns depth token.symbol e) (later same)

found_in : (depth : ℕ) (tokens : List Token) (end : Token) (behind : List Token)
    → end_from depth tokens ≡ end ∷ behind → is_semicolon end.symbol ≡ true
    → Inside depth tokens end behind
unfolding end_from
found_in depth [] end behind same is = absurd cc
found_in depth (token ∷ tokens) end behind same is =
    found_by depth token tokens end behind (ends depth token.symbol) refl same is
    (λ next. found_in (opened depth token.symbol) tokens end behind next is)

-- how it goes on behind each sort of token
opening_goes : (depth : ℕ) (symbol : Symbol) → is_opening symbol ≡ true
    → (ends depth symbol ≡ false) × (opened depth symbol ≡ suc depth)
opening_goes depth (symbols.Sign signs.OpenParenthesis) e = (refl, omega arith)
opening_goes depth symbols.OpenBrace e = (refl, omega arith)
opening_goes depth _ e = absurd cc

closing_goes : (depth : ℕ) (symbol : Symbol) → is_closing symbol ≡ true
    → (ends (suc depth) symbol ≡ false) × (opened (suc depth) symbol ≡ depth)
closing_goes depth (symbols.Sign signs.CloseParenthesis) e = (suc_is_some depth, omega arith)
closing_goes depth symbols.CloseBrace e = (suc_is_some depth, omega arith)
closing_goes depth _ e = absurd cc

inner_goes : (depth : ℕ) (symbol : Symbol) → is_semicolon symbol ≡ true
    → (ends (suc depth) symbol ≡ false) × (opened (suc depth) symbol ≡ suc depth)
inner_goes depth (symbols.Sign signs.Semicolon) e = (suc_is_some depth, refl)
inner_goes depth _ e = absurd cc

other_sign_goes : (depth : ℕ) (sign : Sign) → is_other (symbols.Sign sign) ≡ true
    → (ends depth (symbols.Sign sign) ≡ false) × (opened depth (symbols.Sign sign) ≡ depth)
other_sign_goes depth signs.OpenParenthesis e = absurd cc
other_sign_goes depth signs.CloseParenthesis e = absurd cc
other_sign_goes depth signs.Semicolon e = absurd cc
other_sign_goes depth _ e = (refl, refl)

other_goes : (depth : ℕ) (symbol : Symbol) → is_other symbol ≡ true
    → (ends depth symbol ≡ false) × (opened depth symbol ≡ depth)
other_goes depth (symbols.Sign sign) e = other_sign_goes depth sign e
other_goes depth symbols.OpenBrace e = absurd cc
other_goes depth symbols.CloseBrace e = absurd cc
other_goes depth symbols.Include e = absurd cc
other_goes depth symbols.Line e = absurd cc
other_goes depth symbols.End e = absurd cc
other_goes depth _ e = (refl, refl)

read_inside : {depth : ℕ} {inside : List Token} (end : Token) (behind : List Token)
    → is_semicolon end.symbol ≡ true → IsInside depth inside
    → end_from depth (inside ++ end ∷ behind) ≡ end ∷ behind
unfolding end_from
read_inside end behind is nothing = rw (semicolon_ends 0 end.symbol is) refl
read_inside end behind is (opening depth token later o stands) =
    let g = opening_goes depth token.symbol o in
    rw (g.0, g.1) (read_inside end behind is stands)
read_inside end behind is (closing depth token later o stands) =
    let g = closing_goes depth token.symbol o in
    rw (g.0, g.1) (read_inside end behind is stands)
read_inside end behind is (inner depth token later o stands) =
    let g = inner_goes depth token.symbol o in
    rw (g.0, g.1) (read_inside end behind is stands)
read_inside end behind is (other depth token later o stands) =
    let g = other_goes depth token.symbol o in
    rw (g.0, g.1) (read_inside end behind is stands)

split_end : (symbol : Symbol) (end : Token) (later behind : List Token)
    → behind_end symbol (end ∷ later) ≡ Ok behind
    → (is_semicolon symbol ≡ true) × (later ≡ behind)
unfolding tail_of
split_end (symbols.Sign signs.Semicolon) end later behind e = (refl, cc)
split_end _ end later behind e = absurd cc

by_end : (tokens behind found : List Token) → end_from 0 tokens ≡ found
    → behind_end (first_of found) found ≡ Ok behind → IsStatement tokens behind
unfolding first_of
by_end tokens behind [] same e = absurd cc
by_end tokens behind (end ∷ later) same e =
    let s = split_end end.symbol end later behind e in
    let f = found_in 0 tokens end later same s.0 in record {
      inside = f.inside;
      end = end;
      splits = f.splits ∙ ap (λ b. f.inside ++ end ∷ b) s.1;
      ends = s.0;
      stands = f.stands;
    }

-- what is read is a statement
pub read_is : (tokens behind : List Token) → statement_end tokens ≡ Ok behind
    → IsStatement tokens behind
unfolding statement_end
read_is tokens behind e = by_end tokens behind (end_from 0 tokens) refl e

by_symbol : (symbol : Symbol) (end : Token) (behind : List Token) → is_semicolon symbol ≡ true
    → behind_end symbol (end ∷ behind) ≡ Ok behind
unfolding tail_of
by_symbol (symbols.Sign signs.Semicolon) end behind e = refl
by_symbol _ end behind e = absurd cc

end_read : (found : List Token) (end : Token) (behind : List Token) → found ≡ end ∷ behind
    → is_semicolon end.symbol ≡ true → behind_end (first_of found) found ≡ Ok behind
unfolding first_of
end_read found end behind e is = rw e (by_symbol end.symbol end behind is)

-- a statement is read
pub is_read : (tokens behind : List Token) → IsStatement tokens behind
    → statement_end tokens ≡ Ok behind
unfolding statement_end
is_read tokens behind s =
    end_read (end_from 0 tokens) s.end behind
    (ap (λ ts. end_from 0 ts) s.splits ∙ read_inside s.end behind s.ends s.stands) s.ends
