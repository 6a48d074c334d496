-- What a name that is shown spells.
use Rattle.std.proofs.Common.{◌≡◌, ◌<◌, ◌≤◌, ◌+◌, ◌/◌, ◌%◌, ◌∙◌, ℕ, List, [], ◌∷◌, ◌++◌, ap, sym}
use Rattle.std.proofs.Common.{arith, length, take, drop, get_or}
use Rattle.std.specs.Prelude.{codes, encode_utf8_all, flat_map}
use Rattle.std.specs.Char.{digit_char}
use Rattle.std.proofs.lemmas.Grind.{flat_map-append}
use Rattle.std.proofs.lemmas.List.{append-nil, append_assoc, length-append, length_push, take_all}
use Rattle.std.proofs.lemmas.List.{take-append-drop, take_more}
use Rattle.std.proofs.lemmas.Str.Ascii.{IsAscii-cons, IsAscii-nil}
use Rattle.std.proofs.lemmas.Str.{encodes-append, encodes-IsAscii}
use Rattle.std.proofs.lemmas.Bool.Decides.{nat_tests}
use Rattle.mrc_command.specs.Lines.{hex_digits, shown_bytes, shown_char}

-- a digit is a byte of its own
pub digit_small : (d : ℕ) → d < 16 → digit_char d < 128
digit_small d low = grind (arith, nat_tests)

-- and so is each character of an escape
pub hex_spelled : (n : ℕ) → n < 256
    → encode_utf8_all (codes "\\x" ++ hex_digits n) ≡ codes "\\x" ++ hex_digits n
hex_spelled n low =
    let a = digit_char (n / 16) in
    let b = digit_char (n % 16) in
    let high = digit_small (n / 16) (omega arith) in
    let rest = digit_small (n % 16) (omega arith) in
    encodes-IsAscii (codes "\\x" ++ hex_digits n)
    (IsAscii-cons 92 (120 ∷ a ∷ b ∷ []) (omega arith)
    (IsAscii-cons 120 (a ∷ b ∷ []) (omega arith)
    (IsAscii-cons a (b ∷ []) high (IsAscii-cons b [] rest IsAscii-nil))))

-- one character more
shown_push : (cs : List ℕ) (c : ℕ)
    → shown_bytes (cs ++ c ∷ []) ≡ shown_bytes cs ++ encode_utf8_all (shown_char c)
shown_push cs c =
    ap encode_utf8_all (flat_map-append shown_char cs (c ∷ []))
    ∙ ap (λ x. encode_utf8_all (flat_map shown_char cs ++ x)) (append-nil (shown_char c))
    ∙ encodes-append (flat_map shown_char cs) (shown_char c)

-- the next of a text's characters
pub shown_more : (cs : List ℕ) (n c : ℕ) → (n < length cs) × (c ≡ get_or cs n c)
    → shown_bytes (take (n + 1) cs) ≡ shown_bytes (take n cs) ++ encode_utf8_all (shown_char c)
shown_more cs n c at =
    ap shown_bytes (take_more cs n c at.0 ∙ ap (λ x. take n cs ++ x ∷ []) (sym at.1))
    ∙ shown_push (take n cs) c

-- what begins a text is shown in no more bytes than the text
pub shown_within : (cs : List ℕ) (n : ℕ)
    → length (shown_bytes (take n cs)) ≤ length (shown_bytes cs)
shown_within cs n =
    let parts = ap shown_bytes (sym (take-append-drop n cs))
    ∙ ap encode_utf8_all (flat_map-append shown_char (take n cs) (drop n cs))
    ∙ encodes-append (flat_map shown_char (take n cs)) (flat_map shown_char (drop n cs)) in
    let len = ap length parts
    ∙ length-append (shown_bytes (take n cs)) (shown_bytes (drop n cs)) in
    omega arith

-- The steps of a loop over a text's characters: these of them are behind it, and the next one is c.

pub bytes_grow : (base old new cs ys : List ℕ) (c : ℕ)
    → (length ys < length cs) × (c ≡ get_or cs (length ys) c)
    → old ≡ base ++ shown_bytes (take (length ys) cs)
    → new ≡ old ++ encode_utf8_all (shown_char c)
    → new ≡ base ++ shown_bytes (take (length (ys ++ c ∷ [])) cs)
bytes_grow base old new cs ys c at before after =
    let more = shown_more cs (length ys) c at in
    let here = ap (λ k. shown_bytes (take k cs)) (length_push ys c) in
    after ∙ ap (λ x. x ++ encode_utf8_all (shown_char c)) before
    ∙ append_assoc base (shown_bytes (take (length ys) cs)) (encode_utf8_all (shown_char c))
    ∙ ap (λ x. base ++ x) (sym more ∙ sym here)

pub len_grows : (base old new : ℕ) (cs ys : List ℕ) (c : ℕ)
    → (length ys < length cs) × (c ≡ get_or cs (length ys) c)
    → old ≡ base + length (shown_bytes (take (length ys) cs))
    → new ≡ old + length (encode_utf8_all (shown_char c))
    → new ≡ base + length (shown_bytes (take (length (ys ++ c ∷ [])) cs))
len_grows base old new cs ys c at before after =
    let more = ap length (shown_more cs (length ys) c at)
    ∙ length-append (shown_bytes (take (length ys) cs)) (encode_utf8_all (shown_char c)) in
    let here = ap (λ k. length (shown_bytes (take k cs))) (length_push ys c) in
    omega arith

pub next_fits : (base old least room : ℕ) (cs ys : List ℕ) (c : ℕ)
    → (length ys < length cs) × (c ≡ get_or cs (length ys) c)
    → old ≡ base + length (shown_bytes (take (length ys) cs))
    → base + length (shown_bytes cs) ≤ least → least ≤ room
    → old + length (encode_utf8_all (shown_char c)) ≤ room
next_fits base old least room cs ys c at before fits kept =
    let more = ap length (shown_more cs (length ys) c at)
    ∙ length-append (shown_bytes (take (length ys) cs)) (encode_utf8_all (shown_char c)) in
    let within = shown_within cs (length ys + 1) in
    omega arith

-- and it ends with all of them
pub all_shown : (cs ys : List ℕ) → length ys ≡ length cs
    → shown_bytes (take (length ys) cs) ≡ shown_bytes cs
all_shown cs ys same = ap shown_bytes (take_all (length ys) cs (omega arith))
