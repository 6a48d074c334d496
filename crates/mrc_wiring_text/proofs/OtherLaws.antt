-- NotUtf8 is told of no text.
use Rattle.std.proofs.Common.{◌≡◌, ℕ, ◌+◌, Bool, true, false, cond, eqb, ltb, List, [], ◌∷◌, length}
use Rattle.std.proofs.Common.{Option, Some, None, Result, Ok, Err, refl, subst}
use Rattle.std.specs.Str.{IsUtf8}
use Rattle.std.proofs.lemmas.Str.{is_utf8-from_IsUtf8}
use Rattle.mrc_base.specs.declared.memory.OrMemory.{OrMemory}
use Rattle.mrc_base.specs.declared.memory.OrMemory.TheVariants.{Fault}
use Rattle.mrc_base.specs.Reading.{◌>>=◌, Gives}
use Rattle.mrc_wiring_text.specs.declared.faults.TextFault.{TextFault}
use Rattle.mrc_wiring_text.specs.declared.faults.TextFault.TheVariants.{NotUtf8, BadLine, Version}
use Rattle.mrc_base.specs.Limits.{limit_of_lines}
use Rattle.mrc_wiring_text.specs.declared.reading.Line.{Line}
use Rattle.mrc_wiring_text.specs.Lexis.{lines, words}
use Rattle.mrc_wiring_text.specs.declared.reading.Edition.{Edition}
use Rattle.mrc_wiring_text.specs.declared.reading.TextKind.{TextKind}
use Rattle.mrc_wiring_text.specs.Reading.{too_far, edition_of, behind, version_of, after_version}
use Rattle.mrc_wiring_text.specs.Reading.{after_heading}
use Rattle.mrc_wiring_text.specs.Reading.{heading, or_bad, line_of, onto, body, utf8_text, text_of}

-- any answer but NotUtf8
pub record IsOther {A : Type 0} (r : Result A TextFault) : Type 0 where
  pub other : r ≡ Err NotUtf8 → ⊥

pub ok_other : {A : Type 0} (x : A) → IsOther (Ok x)
ok_other x = record { other = λ e. absurd cc }

pub bad_other : {A : Type 0} (n : ℕ) → IsOther {A = A} (Err (BadLine n))
bad_other n = record { other = λ e. absurd cc }

pub version_other : {A : Type 0} → IsOther {A = A} (Err Version)
version_other = record { other = λ e. absurd cc }

pub bind_other : {A B : Type 0} (m : Result A TextFault) (f : A → Result B TextFault) → IsOther m
    → ((a : A) → IsOther (f a)) → IsOther (m >>= f)
bind_other (Ok a) f first then = then a
bind_other (Err NotUtf8) f first then = absurd (first.other refl)
bind_other (Err (BadLine n)) f first then = bad_other n
bind_other (Err Version) f first then = version_other

pub cond_other : {A : Type 0} (b : Bool) (x y : Result A TextFault) → IsOther x → IsOther y
    → IsOther (cond b x y)
cond_other true x y yes_other no_other = yes_other
cond_other false x y yes_other no_other = no_other

behind_other : (n : ℕ) (o : Option Edition) → IsOther (behind n o)
behind_other n None = version_other
behind_other n (Some edition) = ok_other (edition, n + 1)

after_version_other : (kind : TextKind) (n : ℕ) (v : Option ℕ) → IsOther (after_version kind n v)
after_version_other kind n None = bad_other n
after_version_other kind n (Some v) = behind_other n (edition_of kind v)

after_heading_other : (kind : TextKind) (n : ℕ) (ws : List (List ℕ))
    → IsOther (after_heading kind n ws)
unfolding after_heading
after_heading_other kind n ws =
    cond_other (ltb limit_of_lines n) (Err too_far) (after_version kind n (version_of kind ws))
    (bad_other (limit_of_lines + 1)) (after_version_other kind n (version_of kind ws))

heading_other : (kind : TextKind) (n : ℕ) (ls : List (List ℕ)) → IsOther (heading kind n ls)
unfolding heading
heading_other kind n [] = bad_other 1
heading_other kind n (line ∷ ls) =
    cond_other (eqb (length (words line)) 0) (heading kind (n + 1) ls)
    (after_heading kind n (words line) >>= λ next. Ok (next, ls))
    (heading_other kind (n + 1) ls)
    (bind_other (after_heading kind n (words line)) (λ next. Ok (next, ls))
    (after_heading_other kind n (words line)) (λ next. ok_other (next, ls)))

or_bad_other : {S : Type 0} (n : ℕ) (o : Option S) → IsOther (or_bad n o)
or_bad_other n None = bad_other n
or_bad_other n (Some s) = ok_other (Some s)

line_other : {S : Type 0} (meaning : List (List ℕ) → Option S) (n : ℕ) (line : List ℕ)
    → IsOther (line_of meaning n line)
unfolding line_of
line_other meaning n line =
    cond_other (ltb limit_of_lines n) (Err too_far)
    (cond (eqb (length (words line)) 0) (Ok None) (or_bad n (meaning (words line))))
    (bad_other (limit_of_lines + 1))
    (cond_other (eqb (length (words line)) 0) (Ok None) (or_bad n (meaning (words line)))
    (ok_other None) (or_bad_other n (meaning (words line))))

pub body_other : {S : Type 0} (meaning : List (List ℕ) → Option S) (n : ℕ) (ls : List (List ℕ))
    → IsOther (body meaning n ls)
unfolding body
body_other meaning n [] = ok_other []
body_other meaning n (line ∷ ls) =
    bind_other (line_of meaning n line) (λ says. body meaning (n + 1) ls >>= λ others. Ok
    (onto n says others)) (line_other meaning n line)
    (λ says. bind_other (body meaning (n + 1) ls) (λ others. Ok (onto n says others))
    (body_other meaning (n + 1) ls) (λ others. ok_other (onto n says others)))

-- what a text means is no NotUtf8
text_other : {S : Type 0} (kind : TextKind) (meaning : Edition → List (List ℕ) → Option S)
    (bytes : List ℕ)
    → IsUtf8 bytes → IsOther (text_of kind meaning bytes)
unfolding text_of utf8_text
text_other kind meaning bytes is =
    rw (is_utf8-from_IsUtf8 bytes is)
    (bind_other (heading kind 1 (lines bytes)) (λ start. body (meaning start.0.0) start.0.1 start.1)
    (heading_other kind 1 (lines bytes))
    (λ start. body_other (meaning start.0.0) start.0.1 start.1))

-- so a reader tells it of no text
pub not_told : {S X : Type 0} (kind : TextKind) (meaning : Edition → List (List ℕ) → Option S)
    (bytes : List ℕ)
    (view : X → List (Line S)) (r : Result X (OrMemory TextFault))
    → Gives view r (text_of kind meaning bytes)
    → IsUtf8 bytes
    → r ≡ Err (Fault NotUtf8)
    → ⊥
not_told kind meaning bytes view r gives is told =
    (text_other kind meaning bytes is).other (subst (λ v. Gives view v (text_of kind meaning bytes))
    told gives)
