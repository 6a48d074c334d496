-- Steps of reading, and tokens at the front: what the phrases of types share.
use Rattle.std.proofs.Common.{◌≡◌, ℕ, zero, suc, ◌-◌, ◌<◌, Bool, true, false, List, [], ◌∷◌, ◌++◌}
use Rattle.std.proofs.Common.{Option, Some, None, Result, Ok, Err, refl, sym, ap, ◌∙◌}
use Rattle.std.proofs.Common.{subst}
use Rattle.std.proofs.Common.{arith, ◌==◌, if◌then◌else◌}
use Rattle.std.specs.Option.{ok_or}
use Rattle.std.specs.Prelude.{slice_get}
use Rattle.std.proofs.lemmas.Bool.{eqb-true, eq-eqb}
use Rattle.std.proofs.lemmas.Option.{same_Some}
use Rattle.mrc_base.specs.Reading.{◌>>=◌}
use Rattle.mrc_base.proofs.Steps.{ok_is}
use Rattle.mrc_mig_lex.specs.declared.token.Sign.{Sign as TokenSign}
use Rattle.mrc_mig_lex.specs.declared.token.Sign.TheVariants as signs
use Rattle.mrc_mig_symbols.specs.declared.fault.Stop.{Stop}
use Rattle.mrc_mig_symbols.specs.Symbols.{sign_number}
use Rattle.mrc_mig_tokens.specs.declared.symbol.Symbol.{Symbol}
use Rattle.mrc_mig_tokens.specs.declared.symbol.Symbol.TheVariants.{Name, Sign, End}
use Rattle.mrc_mig_tokens.specs.Tokens.{Token}
use Rattle.mrc_mig_tokens.specs.Reading.{first_of, text_of, tail_of, unexpected, is_sign}
use Rattle.mrc_mig_tokens.specs.Reading.{after_sign, any_name_by, any_name_at, many}
use Rattle.mrc_mig_types.specs.Specs.{Is}

-- these tokens lead to the rest by a phrase
abbrev pub Leads : (List Token → Type 0) → List Token → List Token → Type 0
Leads Phrase tokens rest = (written : List Token) × (tokens ≡ written ++ rest) × Phrase written

-- a step that reads, and what is read behind it
pub goes_to : {A B : Type 0} {r : Result A Stop} {a : A} (f : A → Result B Stop) → r ≡ Ok a
    → (r >>= f) ≡ f a
goes_to f e = ap (λ r. r >>= f) e

-- what is read of two steps is read of the first and then of the second
pub in_two : {A B : Type 0} (r : Result A Stop) (f : A → Result B Stop) (b : B)
    → (r >>= f) ≡ Ok b → (a : A) × (r ≡ Ok a) × (f a ≡ Ok b)
in_two (Err stop) f b e = absurd cc
in_two (Ok a) f b e = (a, refl, e)

-- a value that is read
abbrev pub read_is : {A : Type 0} → A → Result A Stop
read_is x = Ok x

pub same_Ok : {A : Type 0} (x y : A) → read_is x ≡ read_is y → x ≡ y
same_Ok x y e = ok_is {F = Stop} x y e

-- what there is, where its absence would have been a stop
pub some_is : {A : Type 0} (o : Option A) (stop : Stop) (a : A) → ok_or o stop ≡ Ok a → o ≡ Some a
some_is None stop a e = absurd cc
some_is (Some x) stop a e = ap Some (same_Ok x a e)

-- what is read where a test holds
pub where_true : {A : Type 0} (b : Bool) (r : Result A Stop) (stop : Stop) (a : A)
    → (if b then r else Err stop) ≡ Ok a → (b ≡ true) × (r ≡ Ok a)
where_true true r stop a e = (refl, e)
where_true false r stop a e = absurd cc

-- one step of many, where fuel is left
pub many_step : {A : Type 0} (goes : A → Bool) (step : A → Result A Stop) (n m : ℕ) (a b : A)
    → m < n → goes a ≡ true → step a ≡ Ok b → many goes step n a ≡ many goes step (n - 1) b
unfolding many
many_step goes step zero m a b some test stepped = absurd (omega arith)
many_step goes step (suc n) m a b some test stepped = rw (test, stepped) let same : suc n - 1 ≡ n =
    omega arith in ap (λ k. many goes step k b) (sym same)

-- what holds of no step, and of one step more, holds of many
pub many_holds : {A : Type 0} (goes : A → Bool) (step : A → Result A Stop) (P : A → A → Type 0)
    → ((a : A) → P a a) → ((a b c : A) → goes a ≡ true → step a ≡ Ok b → P b c → P a c)
    → (n : ℕ) (a c : A) → many goes step n a ≡ Ok c → P a c
unfolding many
many_holds goes step P none more zero a c e = subst (λ x. P a x) (same_Ok a c e) (none a)
many_holds {A} goes step P none more (suc n) a c e =
    by (λ x others. many_holds goes step P none more n x c others) (goes a) refl e
  where
    by : ((x : A) → many goes step n x ≡ Ok c → P x c) → (b : Bool) → goes a ≡ b
        → (if b then (step a >>= λ x. many goes step n x) else Ok a) ≡ Ok c → P a c
    by on true test f = let (x, stepped, others) = in_two (step a) (λ x. many goes step n x) c f in
        more a x c test stepped (on x others)
    by on false test f = subst (λ x. P a x) (same_Ok a c f) (none a)

-- any symbol but the end
abbrev pub is_token : Symbol → Bool
is_token End = false
is_token _ = true

-- a token with this symbol comes first
pub record Front (symbol : Symbol) (tokens : List Token) : Type 0 where
  pub token : Token
  pub is : Is symbol token
  pub splits : tokens ≡ token ∷ tail_of tokens
  pub text : text_of tokens ≡ token.bytes

pub front : (symbol : Symbol) (tokens : List Token) → is_token symbol ≡ true
    → first_of tokens ≡ symbol → Front symbol tokens
unfolding first_of text_of tail_of
front symbol [] some e = absurd (let no : true ≡ false = sym some
    ∙ ap (λ s. is_token s) (sym e) in cc)
front symbol (token ∷ tokens) some e = record {
  token = token;
  is = record { seen = e };
  splits = refl;
  text = refl;
}

pub first_is : {symbol : Symbol} {token : Token} (tokens : List Token) → Is symbol token
    → first_of (token ∷ tokens) ≡ symbol
unfolding first_of
first_is tokens is = is.seen

pub tail_is : (token : Token) (tokens : List Token) → tail_of (token ∷ tokens) ≡ tokens
unfolding tail_of
tail_is token tokens = refl

pub text_is : (token : Token) (tokens : List Token) → text_of (token ∷ tokens) ≡ token.bytes
unfolding text_of
text_is token tokens = refl

all_signs : List TokenSign
all_signs = signs.Semicolon ∷ signs.Colon ∷ signs.Comma ∷ signs.Equals ∷ signs.OpenParenthesis
    ∷ signs.CloseParenthesis ∷ signs.OpenBracket ∷ signs.CloseBracket ∷ signs.Star ∷ signs.Plus
    ∷ signs.Minus ∷ signs.Slash ∷ signs.Caret ∷ signs.Bar ∷ []

by_number : (sign : TokenSign) → slice_get all_signs (sign_number sign) ≡ Some sign
unfolding all_signs
by_number signs.Semicolon = refl
by_number signs.Colon = refl
by_number signs.Comma = refl
by_number signs.Equals = refl
by_number signs.OpenParenthesis = refl
by_number signs.CloseParenthesis = refl
by_number signs.OpenBracket = refl
by_number signs.CloseBracket = refl
by_number signs.Star = refl
by_number signs.Plus = refl
by_number signs.Minus = refl
by_number signs.Slash = refl
by_number signs.Caret = refl
by_number signs.Bar = refl

-- signs with the same number are the same
same_sign : (wanted found : TokenSign) → (sign_number found == sign_number wanted) ≡ true
    → found ≡ wanted
same_sign wanted found e =
    same_Some found wanted (sym (by_number found)
    ∙ ap (λ n. slice_get all_signs n) (eqb-true (sign_number found) (sign_number wanted) e)
    ∙ by_number wanted)

pub is_that_sign : (wanted : TokenSign) (symbol : Symbol) → is_sign wanted symbol ≡ true
    → symbol ≡ Sign wanted
is_that_sign wanted (Sign found) e = ap (λ s. Sign s) (same_sign wanted found e)
is_that_sign wanted _ e = absurd cc

-- this sign comes first
pub is_next : (wanted : TokenSign) {token : Token} (tokens : List Token) → Is (Sign wanted) token
    → is_sign wanted (first_of (token ∷ tokens)) ≡ true
unfolding first_of
is_next wanted tokens is = rw (is.seen, eq-eqb (sign_number wanted) (sign_number wanted) refl) refl

-- what is read behind a sign stands behind it
pub sign_is : (wanted : TokenSign) (tokens rest : List Token)
    → after_sign wanted tokens ≡ Ok rest → (token : Token) × (tokens ≡ token ∷ rest)
    × Is (Sign wanted) token
unfolding after_sign
sign_is wanted tokens rest e =
    let (test, same) = where_true (is_sign wanted (first_of tokens)) (Ok (tail_of tokens))
    (unexpected tokens) rest e in
    let f = front (Sign wanted) tokens refl (is_that_sign wanted (first_of tokens) test) in
    (f.token, f.splits ∙ ap (λ t. f.token ∷ t) (same_Ok (tail_of tokens) rest same), f.is)

pub sign_read : {wanted : TokenSign} {token : Token} (rest : List Token)
    → Is (Sign wanted) token → after_sign wanted (token ∷ rest) ≡ Ok rest
unfolding after_sign first_of tail_of
sign_read {wanted} rest is =
    rw (is.seen, eq-eqb (sign_number wanted) (sign_number wanted) refl) refl

-- a name that is read stands there
name_is_by : (symbol : Symbol) (tokens : List Token) (found : List ℕ × List Token)
    → first_of tokens ≡ symbol → any_name_by symbol tokens ≡ Ok found
    → (token : Token) × (tokens ≡ token ∷ found.1) × Is Name token × (token.bytes ≡ found.0)
name_is_by Name tokens found is e =
    let f = front Name tokens refl is in
    let same = same_Ok (text_of tokens, tail_of tokens) found e in (
      f.token,
      f.splits ∙ ap (λ (r : List ℕ × List Token). f.token ∷ r.1) same,
      f.is,
      sym f.text ∙ ap (λ (r : List ℕ × List Token). r.0) same,
    )
name_is_by _ tokens found is e = absurd cc

pub name_is : (tokens : List Token) (found : List ℕ × List Token) → any_name_at tokens ≡ Ok found
    → (token : Token) × (tokens ≡ token ∷ found.1) × Is Name token × (token.bytes ≡ found.0)
unfolding any_name_at
name_is tokens found e = name_is_by (first_of tokens) tokens found refl e

pub name_read : {token : Token} (rest : List Token) → Is Name token
    → any_name_at (token ∷ rest) ≡ Ok (token.bytes, rest)
unfolding any_name_at first_of text_of tail_of
name_read {token} rest is = rw is.seen refl
