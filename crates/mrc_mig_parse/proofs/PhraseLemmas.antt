-- Steps of reading, and tokens at the front: what the phrases of the grammar share.
use Rattle.std.proofs.Common.{◌≡◌, ℕ, zero, suc, ◌-◌, ◌<◌, ◌≤◌, Bool, true, false, not, List, []}
use Rattle.std.proofs.Common.{◌∷◌, length, Option, Some, None, refl, sym, ap, ◌∙◌, subst, arith}
use Rattle.std.proofs.Common.{◌==◌, if◌then◌else◌}
use Rattle.std.specs.Prelude.{slice_get, nat_le, nat_lt}
use Rattle.std.proofs.lemmas.Bool.{leb-true, le-leb, ltb-true, eqb-true, eq-eqb}
use Rattle.std.proofs.lemmas.Option.{same_Some}
use Rattle.mrc_base.specs.Limits.{limit_of_name}
use Rattle.mrc_mig_lex.specs.Tokens.{Lexeme}
use Rattle.mrc_mig_lex.specs.declared.token.Sign.{Sign as TokenSign}
use Rattle.mrc_mig_lex.specs.declared.token.Sign.TheVariants as signs
use Rattle.mrc_mig_symbols.specs.declared.symbol.Symbol.{Symbol}
use Rattle.mrc_mig_symbols.specs.declared.symbol.Symbol.TheVariants.{Name, Sign, End}
use Rattle.mrc_mig_symbols.specs.Symbols.{◌>>=◌, guard, many, first_of, text_of, tail_of}
use Rattle.mrc_mig_symbols.specs.Symbols.{sign_number, is_sign, after_sign, name_by, name_at}
use Rattle.mrc_mig_parse.specs.Grammar.{Is, IsName}

-- what is read in two steps is read in the first and then in the second
pub in_two : {A B : Type 0} (o : Option A) (f : A → Option B) (b : B) → (o >>= f) ≡ Some b
    → (a : A) × (o ≡ Some a) × (f a ≡ Some b)
in_two None f b e = absurd cc
in_two (Some a) f b e = (a, refl, e)

-- a step that reads, and what is read behind it
pub goes_to : {A B : Type 0} {o : Option A} {a : A} (f : A → Option B) → o ≡ Some a
    → (o >>= f) ≡ f a
goes_to f e = ap (λ o. o >>= f) e

-- what is read behind a test
pub behind_guard : {B : Type 0} (b : Bool) (o : Option B) (x : B) → (guard b >>= λ _. o) ≡ Some x
    → (b ≡ true) × (o ≡ Some x)
behind_guard true o x e = (refl, e)
behind_guard false o x e = absurd cc

-- behind a test that fails
pub guarded_not : {B : Type 0} (test : Bool) (next : Option B) (b : B)
    → (guard (not test) >>= λ _. next) ≡ Some b → (test ≡ false) × (next ≡ Some b)
guarded_not true next b e = absurd cc
guarded_not false next b e = (refl, e)

-- behind a comparison
pub guarded_less : {B : Type 0} (m n : ℕ) (next : Option B) (b : B)
    → (guard (nat_lt m n) >>= λ _. next) ≡ Some b → (m < n) × (next ≡ Some b)
guarded_less m n next b e = let both = behind_guard (nat_lt m n) next b e in
    (ltb-true m n both.0, both.1)

pub guarded : {B : Type 0} {b : Bool} (o : Option B) → b ≡ true → (guard b >>= λ _. o) ≡ o
guarded o e = ap (λ b. guard b >>= λ _. o) e

-- what is read where a test holds
pub where_true : {A : Type 0} (b : Bool) (o : Option A) (a : A) → (if b then o else None) ≡ Some a
    → (b ≡ true) × (o ≡ Some a)
where_true true o a e = (refl, e)
where_true false o a e = absurd cc

-- what is read where a test fails
pub where_false : {A : Type 0} (b : Bool) (o : Option A) (a : A) → (if b then None else o) ≡ Some a
    → (b ≡ false) × (o ≡ Some a)
where_false true o a e = absurd cc
where_false false o a e = (refl, e)

-- one step of many, where fuel is left
pub many_step : {A : Type 0} (goes : A → Bool) (step : A → Option A) (n m : ℕ) (a b : A) → m < n
    → goes a ≡ true → step a ≡ Some b → many goes step n a ≡ many goes step (n - 1) b
unfolding many
many_step goes step zero m a b some test stepped = absurd (omega arith)
many_step goes step (suc n) m a b some test stepped = rw (test, stepped) let same : suc n - 1 ≡ n =
    omega arith in ap (λ k. many goes step k b) (sym same)

-- what holds of no step, and of one step more, holds of many
pub many_holds : {A : Type 0} (goes : A → Bool) (step : A → Option A) (P : A → A → Type 0)
    → ((a : A) → P a a) → ((a b c : A) → goes a ≡ true → step a ≡ Some b → P b c → P a c)
    → (n : ℕ) (a c : A) → many goes step n a ≡ Some c → P a c
unfolding many
many_holds goes step P none more zero a c e = subst (λ x. P a x) (same_Some a c e) (none a)
many_holds {A} goes step P none more (suc n) a c e =
    by (λ x others. many_holds goes step P none more n x c others) (goes a) refl e
  where
    by : ((x : A) → many goes step n x ≡ Some c → P x c) → (b : Bool) → goes a ≡ b
        → (if b then (step a >>= λ x. many goes step n x) else Some a) ≡ Some c → P a c
    by on true test f = let (x, stepped, others) = in_two (step a) (λ x. many goes step n x) c f in
        more a x c test stepped (on x others)
    by on false test f = subst (λ x. P a x) (same_Some a c f) (none a)

-- any symbol but the end
abbrev pub is_token : Symbol → Bool
is_token End = false
is_token _ = true

-- a token with this symbol comes first
pub record Front (symbol : Symbol) (tokens : List Lexeme) : Type 0 where
  pub token : Lexeme
  pub is : Is symbol token
  pub splits : tokens ≡ token ∷ tail_of tokens
  pub text : text_of tokens ≡ token.bytes

pub front : (symbol : Symbol) (tokens : List Lexeme) → is_token symbol ≡ true
    → first_of tokens ≡ symbol → Front symbol tokens
unfolding first_of text_of tail_of
front symbol [] some e = absurd (let no : true ≡ false = sym some
    ∙ ap (λ s. is_token s) (sym e) in cc)
front symbol (token ∷ tokens) some e = record {
  token = token;
  is = record { seen = e };
  splits = refl;
  text = refl;
}

pub first_is : {symbol : Symbol} {token : Lexeme} (tokens : List Lexeme) → Is symbol token
    → first_of (token ∷ tokens) ≡ symbol
unfolding first_of
first_is tokens is = is.seen

pub tail_is : (token : Lexeme) (tokens : List Lexeme) → tail_of (token ∷ tokens) ≡ tokens
unfolding tail_of
tail_is token tokens = refl

pub text_is : (token : Lexeme) (tokens : List Lexeme) → text_of (token ∷ tokens) ≡ token.bytes
unfolding text_of
text_is token tokens = refl

all_signs : List TokenSign
all_signs = signs.Semicolon ∷ signs.Colon ∷ signs.Comma ∷ signs.Equals ∷ signs.OpenParenthesis
    ∷ signs.CloseParenthesis ∷ signs.OpenBracket ∷ signs.CloseBracket ∷ signs.Star ∷ signs.Plus
    ∷ signs.Minus ∷ signs.Slash ∷ signs.Caret ∷ signs.Bar ∷ []

by_number : (sign : TokenSign) → slice_get all_signs (sign_number sign) ≡ Some sign
unfolding all_signs
by_number signs.Semicolon = refl
by_number signs.Colon = refl
by_number signs.Comma = refl
by_number signs.Equals = refl
by_number signs.OpenParenthesis = refl
by_number signs.CloseParenthesis = refl
by_number signs.OpenBracket = refl
by_number signs.CloseBracket = refl
by_number signs.Star = refl
by_number signs.Plus = refl
by_number signs.Minus = refl
by_number signs.Slash = refl
by_number signs.Caret = refl
by_number signs.Bar = refl

-- signs with the same number are the same
same_sign : (wanted found : TokenSign) → (sign_number found == sign_number wanted) ≡ true
    → found ≡ wanted
same_sign wanted found e =
    same_Some found wanted (sym (by_number found)
    ∙ ap (λ n. slice_get all_signs n) (eqb-true (sign_number found) (sign_number wanted) e)
    ∙ by_number wanted)

is_that_sign : (wanted : TokenSign) (symbol : Symbol) → is_sign wanted symbol ≡ true
    → symbol ≡ Sign wanted
is_that_sign wanted (Sign found) e = ap (λ s. Sign s) (same_sign wanted found e)
is_that_sign wanted _ e = absurd cc

-- what is read behind a sign stands behind it
pub sign_is : (wanted : TokenSign) (tokens rest : List Lexeme)
    → after_sign wanted tokens ≡ Some rest → (token : Lexeme) × (tokens ≡ token ∷ rest)
    × Is (Sign wanted) token
unfolding after_sign
sign_is wanted tokens rest e =
    let (test, same) = where_true (is_sign wanted (first_of tokens)) (Some (tail_of tokens)) rest
    e in
    let f = front (Sign wanted) tokens refl (is_that_sign wanted (first_of tokens) test) in
    (f.token, f.splits ∙ ap (λ t. f.token ∷ t) (same_Some (tail_of tokens) rest same), f.is)

pub sign_read : {wanted : TokenSign} {token : Lexeme} (rest : List Lexeme)
    → Is (Sign wanted) token → after_sign wanted (token ∷ rest) ≡ Some rest
unfolding after_sign first_of tail_of
sign_read {wanted} rest is =
    rw (is.seen, eq-eqb (sign_number wanted) (sign_number wanted) refl) refl

-- a name that is read stands there
name_is_by : (symbol : Symbol) (tokens : List Lexeme) (found : List ℕ × List Lexeme)
    → first_of tokens ≡ symbol → name_by symbol tokens ≡ Some found
    → (token : Lexeme) × (tokens ≡ token ∷ found.1) × IsName token × (token.bytes ≡ found.0)
name_is_by Name tokens found is e =
    let (test, last) = where_true (nat_le (length (text_of tokens)) limit_of_name)
    (Some (text_of tokens, tail_of tokens)) found e in
    let f = front Name tokens refl is in
    let same = same_Some (text_of tokens, tail_of tokens) found last in (
      f.token,
      f.splits ∙ ap (λ r. f.token ∷ r.1) same,
      record {
        seen = f.is.seen;
        few = subst (λ t. length t ≤ limit_of_name) f.text
            (leb-true (length (text_of tokens)) limit_of_name test);
      },
      sym f.text ∙ ap (λ r. r.0) same,
    )
name_is_by _ tokens found is e = absurd cc

pub name_is : (tokens : List Lexeme) (found : List ℕ × List Lexeme) → name_at tokens ≡ Some found
    → (token : Lexeme) × (tokens ≡ token ∷ found.1) × IsName token × (token.bytes ≡ found.0)
unfolding name_at
name_is tokens found e = name_is_by (first_of tokens) tokens found refl e

pub name_read : {token : Lexeme} (rest : List Lexeme) → IsName token
    → name_at (token ∷ rest) ≡ Some (token.bytes, rest)
unfolding name_at first_of text_of tail_of
name_read {token} rest is = rw (is.seen, le-leb (length token.bytes) limit_of_name is.few) refl
