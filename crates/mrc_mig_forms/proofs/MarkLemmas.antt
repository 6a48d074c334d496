-- Marks of lines, digits and names, one more at a time.
use Rattle.std.proofs.Common.{◌≡◌, ◌<◌, ℕ, suc, ◌+◌, ◌-◌, ◌*◌, min, Bool, true, false, List, []}
use Rattle.std.proofs.Common.{◌∷◌, ◌++◌, Option, Some, None, length, take, drop, get_or, refl, ap}
use Rattle.std.proofs.Common.{sym, ◌∙◌}
use Rattle.std.proofs.Common.{arith, drop-cons, add-one, if◌then◌else◌}
use Rattle.std.specs.Prelude.{nat_lt}
use Rattle.std.specs.Char.{is_ascii_digit}
use Rattle.std.specs.List.{filter_map, fold, last_or, cons_option}
use Rattle.std.proofs.lemmas.List.{append-nil, take_more}
use Rattle.std.proofs.lemmas.List.Elements.{filter-append, filter_map-append}
use Rattle.mrc_base.specs.Limits.{limit_of_number}
use Rattle.mrc_mig_tokens.specs.declared.tokens.LineMark.{LineMark}
use Rattle.mrc_mig_forms.specs.Marks.{digits_of, before, name_in, text_of, last_name}

-- one digit more
abbrev step : ℕ → ℕ → ℕ
step n b = n * 10 + (b - 48)

-- a number that is cut before a digit or behind it
again : (x e : ℕ) → min (min x limit_of_number * 10 + e) limit_of_number
    ≡ min (x * 10 + e) limit_of_number
again x e = omega arith

cut : (x : ℕ) (digits : List ℕ)
    → min (fold step (min x limit_of_number) digits) limit_of_number
    ≡ min (fold step x digits) limit_of_number
cut x [] = omega arith
cut x (d ∷ digits) =
    sym (cut (step (min x limit_of_number) d) digits)
    ∙ (ap (λ n. min (fold step n digits) limit_of_number) (again x (d - 48))
    ∙ cut (step x d) digits)

-- the digit in this place
pub one_digit : (line : List ℕ) (i number next : ℕ) → i < length line
    → is_ascii_digit (get_or line i 0) ≡ true
    → next ≡ min (step number (get_or line i 0)) limit_of_number
    → min (fold step next (digits_of (drop (i + 1) line))) limit_of_number
    ≡ min (fold step number (digits_of (drop i line))) limit_of_number
one_digit line i number next less test is =
    rw (add-one, is, drop-cons line i 0, test)
    (cut (step number (get_or line i 0)) (digits_of (drop (suc i) line)))

-- the last of a list with one more
last_more : {X : Type 0} (o : Option X) (xs : List X) (x : X) → last_or o (xs ++ x ∷ []) ≡ Some x
last_more o [] x = refl
last_more o (y ∷ xs) x = last_more (Some y) xs x

last_same : {X : Type 0} (o : Option X) (xs : List X) → last_or o (xs ++ []) ≡ last_or o xs
last_same o xs = ap (last_or o) (append-nil xs)

-- with one mark more
pub mark_more : (place : ℕ) (marks : List LineMark) (mark : LineMark)
    → last_or None (before place (marks ++ mark ∷ []))
    ≡ (if nat_lt mark.at place then Some mark else last_or None (before place marks))
mark_more place marks mark =
    ap (last_or None) (filter-append (λ (m : LineMark). nat_lt m.at place) marks (mark ∷ []))
    ∙ by (nat_lt mark.at place)
  where
    by : (b : Bool) → last_or None (before place marks ++ (if b then mark ∷ [] else []))
        ≡ (if b then Some mark else last_or None (before place marks))
    by true = last_more None (before place marks) mark
    by false = last_same None (before place marks)

-- the last name, or else the one before
abbrev pub name_or : Option (List ℕ) → Option (List ℕ) → Option (List ℕ)
name_or None other = other
name_or (Some name) other = Some name

last_or_name : (o found : Option (List ℕ)) (names : List (List ℕ))
    → last_or o (names ++ cons_option found []) ≡ name_or found (last_or o names)
last_or_name o None names = last_same o names
last_or_name o (Some name) names = last_more o names name

pub name_more : (text : List ℕ) (place : ℕ) (marks : List LineMark) (mark : LineMark)
    → last_name text (before place (marks ++ mark ∷ []))
    ≡ name_or (if nat_lt mark.at place then name_in (text_of text mark) else None)
    (last_name text (before place marks))
name_more text place marks mark =
    ap (last_name text) (filter-append (λ (m : LineMark). nat_lt m.at place) marks (mark ∷ []))
    ∙ by (nat_lt mark.at place)
  where
    by : (b : Bool) → last_name text (before place marks ++ (if b then mark ∷ [] else []))
        ≡ name_or (if b then name_in (text_of text mark) else None)
        (last_name text (before place marks))
    by true =
        ap (last_or None) (filter_map-append (λ m. name_in (text_of text m)) (before place marks)
        (mark ∷ []))
        ∙ last_or_name None (name_in (text_of text mark))
        (filter_map (λ m. name_in (text_of text m)) (before place marks))
    by false = ap (last_name text) (append-nil (before place marks))

-- the mark in this place
pub last_at : (place : ℕ) (marks : List LineMark) (i : ℕ) (d : LineMark) → i < length marks
    → last_or None (before place (take (i + 1) marks))
    ≡ (if nat_lt (get_or marks i d).at place then Some (get_or marks i d)
    else last_or None (before place (take i marks)))
last_at place marks i d less =
    ap (λ (ms : List LineMark). last_or None (before place ms)) (take_more marks i d less)
    ∙ mark_more place (take i marks) (get_or marks i d)

pub name_at : (text : List ℕ) (place : ℕ) (marks : List LineMark) (i : ℕ) (d : LineMark)
    → i < length marks
    → last_name text (before place (take (i + 1) marks))
    ≡ name_or (if nat_lt (get_or marks i d).at place
    then name_in (text_of text (get_or marks i d)) else None)
    (last_name text (before place (take i marks)))
name_at text place marks i d less =
    ap (λ (ms : List LineMark). last_name text (before place ms)) (take_more marks i d less)
    ∙ name_more text place (take i marks) (get_or marks i d)
