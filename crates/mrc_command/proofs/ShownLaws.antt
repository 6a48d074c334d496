-- What is shown of a name can be read back, and has no control character.
use Rattle.std.proofs.Common.{◌≡◌, ◌<◌, ◌+◌, ◌*◌, ◌/◌, ◌%◌, ◌∙◌, ℕ, true, false, List, [], ◌∷◌}
use Rattle.std.proofs.Common.{◌++◌, ap, sym, arith, refl, if◌then◌else◌}
use Rattle.std.specs.Prelude.{◌==◌, codes, encode_utf8_all, flat_map, All}
use Rattle.std.specs.Char.{digit_char, digit_value, is_control}
use Rattle.std.specs.Str.{chars}
use Rattle.std.proofs.lemmas.Bool.{eqb-true}
use Rattle.std.proofs.lemmas.Bool.Decides.{nat_tests}
use Rattle.std.proofs.lemmas.List.Elements.{All-append, All-cons, All-nil}
use Rattle.std.proofs.lemmas.Str.{digit_value-digit_char, encodes_same, encodes-chars}
use Rattle.mrc_command.specs.Lines.{NamesAreShownPlain, NamesAreToldApart, hex_digits, shown_char}

-- how far an escape is read
data Reading : Type 0 where
  Plain : Reading
  Escape : Reading
  High : Reading
  Low : ℕ → Reading

-- the characters of which these are shown
abbrev unshown : Reading → List ℕ → List ℕ
unshown at [] = []
unshown Plain (c ∷ cs) = if c == 92 then unshown Escape cs else c ∷ unshown Plain cs
unshown Escape (c ∷ cs) =
    if c == 92 then 92 ∷ unshown Plain cs
    else if c == 110 then 10 ∷ unshown Plain cs
    else if c == 116 then 9 ∷ unshown Plain cs
    else if c == 114 then 13 ∷ unshown Plain cs
    else unshown High cs
unshown High (c ∷ cs) = unshown (Low (digit_value c)) cs
unshown (Low high) (c ∷ cs) = (high * 16 + digit_value c) ∷ unshown Plain cs

-- what the character is shown as, where it is none of those before

abbrev from_control : ℕ → List ℕ
from_control c = if is_control c then codes "\\x" ++ hex_digits c else c ∷ []

abbrev from_return : ℕ → List ℕ
from_return c = if c == 13 then codes "\\r" else from_control c

abbrev from_tab : ℕ → List ℕ
from_tab c = if c == 9 then codes "\\t" else from_return c

abbrev from_line_feed : ℕ → List ℕ
from_line_feed c = if c == 10 then codes "\\n" else from_tab c

-- a control character is its two digits
two_digits : (c : ℕ) → is_control c ≡ true
    → digit_value (digit_char (c / 16)) * 16 + digit_value (digit_char (c % 16)) ≡ c
two_digits c control =
    let low : c < 256 = grind (arith, nat_tests) in
    let a = digit_value-digit_char (c / 16) (omega arith) in
    let b = digit_value-digit_char (c % 16) (omega arith) in
    omega arith

-- each character is read back, and what follows it

undone_control : (c : ℕ) (cs : List ℕ) → c == 92 ≡ false
    → unshown Plain (from_control c ++ cs) ≡ c ∷ unshown Plain cs
undone_control c cs other =
    elim (is_control c) as (λ b. is_control c ≡ b
    → unshown Plain ((if b then codes "\\x" ++ hex_digits c else c ∷ []) ++ cs)
    ≡ c ∷ unshown Plain cs) [
      | true ↦ λ is. ap (λ x. x ∷ unshown Plain cs) (two_digits c is)
      | false ↦ λ not. ap (λ b. if b then unshown Escape cs else c ∷ unshown Plain cs) other
    ] refl

undone_return : (c : ℕ) (cs : List ℕ) → c == 92 ≡ false
    → unshown Plain (from_return c ++ cs) ≡ c ∷ unshown Plain cs
undone_return c cs other =
    elim (c == 13) as (λ b. c == 13 ≡ b
    → unshown Plain ((if b then codes "\\r" else from_control c) ++ cs) ≡ c ∷ unshown Plain cs) [
      | true ↦ λ is. ap (λ x. x ∷ unshown Plain cs) (sym (eqb-true c 13 is))
      | false ↦ λ not. undone_control c cs other
    ] refl

undone_tab : (c : ℕ) (cs : List ℕ) → c == 92 ≡ false
    → unshown Plain (from_tab c ++ cs) ≡ c ∷ unshown Plain cs
undone_tab c cs other =
    elim (c == 9) as (λ b. c == 9 ≡ b
    → unshown Plain ((if b then codes "\\t" else from_return c) ++ cs) ≡ c ∷ unshown Plain cs) [
      | true ↦ λ is. ap (λ x. x ∷ unshown Plain cs) (sym (eqb-true c 9 is))
      | false ↦ λ not. undone_return c cs other
    ] refl

undone_line_feed : (c : ℕ) (cs : List ℕ) → c == 92 ≡ false
    → unshown Plain (from_line_feed c ++ cs) ≡ c ∷ unshown Plain cs
undone_line_feed c cs other =
    elim (c == 10) as (λ b. c == 10 ≡ b
    → unshown Plain ((if b then codes "\\n" else from_tab c) ++ cs) ≡ c ∷ unshown Plain cs) [
      | true ↦ λ is. ap (λ x. x ∷ unshown Plain cs) (sym (eqb-true c 10 is))
      | false ↦ λ not. undone_tab c cs other
    ] refl

undone : (c : ℕ) (cs : List ℕ) → unshown Plain (shown_char c ++ cs) ≡ c ∷ unshown Plain cs
undone c cs =
    elim (c == 92) as (λ b. c == 92 ≡ b
    → unshown Plain ((if b then codes "\\\\" else from_line_feed c) ++ cs)
    ≡ c ∷ unshown Plain cs) [
      | true ↦ λ is. ap (λ x. x ∷ unshown Plain cs) (sym (eqb-true c 92 is))
      | false ↦ λ not. undone_line_feed c cs not
    ] refl

all_undone : (cs : List ℕ) → unshown Plain (flat_map shown_char cs) ≡ cs
all_undone [] = refl
all_undone (c ∷ cs) =
    undone c (flat_map shown_char cs) ∙ ap (λ rest. c ∷ rest) (all_undone cs)

pub names_apart : NamesAreToldApart
names_apart one other is_one is_other same =
    let shown_same = encodes_same (flat_map shown_char (chars one))
    (flat_map shown_char (chars other)) same in
    let chars_same : chars one ≡ chars other =
    sym (all_undone (chars one)) ∙ ap (unshown Plain) shown_same ∙ all_undone (chars other) in
    sym (encodes-chars one is_one) ∙ ap encode_utf8_all chars_same ∙ encodes-chars other is_other

-- no control character
abbrev IsPlain : ℕ → Type 0
IsPlain c = is_control c ≡ false

digit_plain : (d : ℕ) → d < 16 → IsPlain (digit_char d)
digit_plain d low = grind (arith, nat_tests)

hex_plain : (c : ℕ) → is_control c ≡ true → All IsPlain (codes "\\x" ++ hex_digits c)
hex_plain c control =
    let low : c < 256 = grind (arith, nat_tests) in
    All-cons IsPlain 92 (120 ∷ hex_digits c) refl
    (All-cons IsPlain 120 (hex_digits c) refl
    (All-cons IsPlain (digit_char (c / 16)) (digit_char (c % 16) ∷ [])
    (digit_plain (c / 16) (omega arith))
    (All-cons IsPlain (digit_char (c % 16)) [] (digit_plain (c % 16) (omega arith))
    (All-nil IsPlain))))

two_plain : (a b : ℕ) → IsPlain a → IsPlain b → All IsPlain (a ∷ b ∷ [])
two_plain a b p q = All-cons IsPlain a (b ∷ []) p (All-cons IsPlain b [] q (All-nil IsPlain))

plain_control : (c : ℕ) → All IsPlain (from_control c)
plain_control c =
    elim (is_control c) as (λ b. is_control c ≡ b
    → All IsPlain (if b then codes "\\x" ++ hex_digits c else c ∷ [])) [
      | true ↦ λ is. hex_plain c is
      | false ↦ λ not. All-cons IsPlain c [] not (All-nil IsPlain)
    ] refl

plain_tab : (c : ℕ) → All IsPlain (from_tab c)
plain_tab c =
    elim (c == 9) as (λ b. All IsPlain (if b then codes "\\t" else from_return c)) [
      | true ↦ two_plain 92 116 refl refl
      | false ↦ elim (c == 13) as (λ b. All IsPlain (if b then codes "\\r" else from_control c)) [
        | true ↦ two_plain 92 114 refl refl
        | false ↦ plain_control c
      ]
    ]

char_plain : (c : ℕ) → All IsPlain (shown_char c)
char_plain c =
    elim (c == 92) as (λ b. All IsPlain (if b then codes "\\\\" else from_line_feed c)) [
      | true ↦ two_plain 92 92 refl refl
      | false ↦ elim (c == 10) as (λ b. All IsPlain (if b then codes "\\n" else from_tab c)) [
        | true ↦ two_plain 92 110 refl refl
        | false ↦ plain_tab c
      ]
    ]

all_plain : (cs : List ℕ) → All IsPlain (flat_map shown_char cs)
all_plain [] = All-nil IsPlain
all_plain (c ∷ cs) =
    All-append IsPlain (shown_char c) (flat_map shown_char cs) (char_plain c) (all_plain cs)

pub names_plain : NamesAreShownPlain
names_plain name = all_plain (chars name)
