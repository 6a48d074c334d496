-- Words with strings, as loops take them, and where there is no string.
use Rattle.std.proofs.Common.{◌≡◌, ℕ, ◌+◌, ◌<◌, ◌≤◌, Bool, true, false, ◌||◌, List, [], ◌∷◌, ◌++◌}
use Rattle.std.proofs.Common.{length, get_or, drop, map, Bor, refl, ap, sym, ◌∙◌, add-one, arith}
use Rattle.std.proofs.Common.{length-drop}
use Rattle.std.specs.List.{list_any, slice_split}
use Rattle.std.proofs.Math.Seq.{drop-cons}
use Rattle.std.proofs.lemmas.Bool.{or_parts}
use Rattle.std.proofs.lemmas.List.{drop_all, drop-drop, drop-map, length-map, append-nil}
use Rattle.mrc_wide_policy.specs.Quotes.{is_quote, by_turns, quoted_words, ends_control}
use Rattle.mrc_wide_policy.specs.Quotes.{has_control}
use Rattle.mrc_wide_policy.specs.QuoteLaws.{PlainLinesHaveTheirWords}

-- the bytes from a place on
control_at : (before : ℕ) (bytes : List ℕ) (i : ℕ)
    → i < length bytes
    → has_control before (drop i bytes) ≡ (ends_control before (get_or bytes i 0)
    || has_control (get_or bytes i 0) (drop (i + 1) bytes))
control_at before bytes i within =
    ap (has_control before) (drop-cons bytes i 0 within
    ∙ ap (λ n. get_or bytes i 0 ∷ drop n bytes) (sym (add-one i)))

pub control_found : (whole : Bool) (before : ℕ) (bytes : List ℕ) (i : ℕ)
    → i < length bytes
    → whole ≡ has_control before (drop i bytes)
    → ends_control before (get_or bytes i 0) ≡ true
    → whole ≡ true
control_found whole before bytes i within is found =
    is ∙ control_at before bytes i within
    ∙ ap (λ b. b || has_control (get_or bytes i 0) (drop (i + 1) bytes)) found

pub control_goes : (whole : Bool) (before : ℕ) (bytes : List ℕ) (i : ℕ)
    → i < length bytes
    → whole ≡ has_control before (drop i bytes)
    → ends_control before (get_or bytes i 0) ≡ false
    → whole ≡ has_control (get_or bytes i 0) (drop (i + 1) bytes)
control_goes whole before bytes i within is none =
    is ∙ control_at before bytes i within
    ∙ ap (λ b. b || has_control (get_or bytes i 0) (drop (i + 1) bytes)) none

pub control_ends : (whole : Bool) (before : ℕ) (bytes : List ℕ) (i : ℕ)
    → length bytes ≤ i
    → whole ≡ has_control before (drop i bytes)
    → whole ≡ false
control_ends whole before bytes i past is = is ∙ ap (has_control before) (drop_all i bytes past)

-- no byte at which a line is cut
uncut : (line : List ℕ) → list_any is_quote line ≡ false → slice_split is_quote line ≡ line ∷ []
uncut [] none = refl
uncut (b ∷ line) none =
    let parts = or_parts (is_quote b) (list_any is_quote line) none in
    rw (parts.0, uncut line parts.1) refl

pub plain_lines : PlainLinesHaveTheirWords
unfolding quoted_words by_turns
plain_lines line none = ap by_turns (uncut line none)

-- ---- turns, as a loop takes them

abbrev now : Bor (List ℕ) → List ℕ
now part = part.now

-- what is left behind some parts more
pub turns_go : (parts part : List (Bor (List ℕ))) (place count : ℕ)
    (before after whole : List (List ℕ))
    → part ≡ drop place parts
    → before ++ by_turns (drop place (map now parts)) ≡ whole
    → after ++ by_turns (drop count (map now part)) ≡ before ++ by_turns (map now part)
    → after ++ by_turns (drop (place + count) (map now parts)) ≡ whole
turns_go parts part place count before after whole is same goes =
    let view = ap (map now) is ∙ sym (drop-map now place parts) in
    let left = ap (drop count) view ∙ drop-drop count place (map now parts) in
    ap (λ ps. after ++ by_turns ps) (sym left) ∙ goes ∙ ap (λ ps. before ++ by_turns ps) view ∙ same

-- parts that are left fit
pub turns_within : (parts part : List (Bor (List ℕ))) (place count : ℕ)
    → part ≡ drop place parts
    → place ≤ length parts
    → count ≤ length part
    → place + count ≤ length parts
turns_within parts part place count is within less =
    omega (arith, ap length is, length-drop place parts, within, less)

-- nothing is left
pub turns_end : (parts : List (Bor (List ℕ))) (place : ℕ) (said whole : List (List ℕ))
    → length parts ≤ place
    → said ++ by_turns (drop place (map now parts)) ≡ whole
    → said ≡ whole
unfolding by_turns
turns_end parts place said whole past same =
    let none : drop place (map now parts) ≡ [] = drop_all place (map now parts)
    (omega (arith, past, length-map parts now)) in
    sym (append-nil said) ∙ ap (λ ps. said ++ by_turns ps) (sym none) ∙ same
