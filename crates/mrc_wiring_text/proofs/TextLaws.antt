-- What was read is a text that says so, and what a text says is read.
use Rattle.std.proofs.Common.{◌≡◌, ◌≢◌, ℕ, ◌+◌, ◌≤◌, Bool, false, cond, eqb, ltb, List, [], ◌∷◌}
use Rattle.std.proofs.Common.{◌++◌, length, Option, Some, None, Result, Ok, Err, refl, sym, ap}
use Rattle.std.proofs.Common.{subst, ◌∙◌, inl, inr, arith}
use Rattle.std.specs.Prelude.{IfOk}
use Rattle.std.specs.Str.{IsUtf8, is_utf8}
use Rattle.std.proofs.lemmas.Bool.{cases_Bool, false≢true, eqb-true, ne_eqb, ltb-false, le-ltb}
use Rattle.std.proofs.lemmas.List.{nil_from_length, length-append}
use Rattle.std.proofs.lemmas.Str.{IsUtf8-from_is_utf8, is_utf8-from_IsUtf8}
use Rattle.mrc_base.specs.declared.memory.OrMemory.{OrMemory}
use Rattle.mrc_base.specs.Reading.{◌>>=◌, Gives}
use Rattle.mrc_base.proofs.Steps.{bind_ok, not_stopped, ok_is, err_is_ok, gives_ok, gives_same}
use Rattle.mrc_wiring_text.specs.declared.faults.TextFault.{TextFault}
use Rattle.mrc_wiring_text.specs.declared.faults.TextFault.TheVariants.{NotUtf8, BadLine}
use Rattle.mrc_base.specs.Limits.{limit_of_lines}
use Rattle.mrc_wiring_text.specs.declared.reading.Edition.{Edition}
use Rattle.mrc_wiring_text.specs.declared.reading.TextKind.{TextKind}
use Rattle.mrc_wiring_text.specs.declared.reading.Line.{Line}
use Rattle.mrc_wiring_text.specs.Lexis.{lines, words}
use Rattle.mrc_wiring_text.specs.Reading.{too_far, or_bad, line_of, onto, body, utf8_text, heading}
use Rattle.mrc_wiring_text.specs.Reading.{text_edition, text_of}
use Rattle.mrc_wiring_text.specs.Texts.{Say, IsText}
use Rattle.mrc_wiring_text.proofs.HeadingLaws.{heading_found, heading_finds}

-- ---- one line

-- what a line says, if anything
abbrev Says : {S : Type 0} → (List (List ℕ) → Option S) → List ℕ → Option S → Type 0
Says meaning line None = words line ≡ []
Says meaning line (Some s) = (words line ≢ []) × (meaning (words line) ≡ Some s)

or_bad_is : {S : Type 0} (n : ℕ) (m o : Option S)
    → or_bad n m ≡ Ok o
    → (s : S) × (m ≡ Some s) × (o ≡ Some s)
or_bad_is n None o e = err_is_ok (BadLine n) o e
or_bad_is n (Some s) o e = (s, refl, sym (ok_is (Some s) o e))

line_says : {S : Type 0} (meaning : List (List ℕ) → Option S) (n : ℕ) (line : List ℕ) (o : Option S)
    → line_of meaning n line ≡ Ok o
    → (n ≤ limit_of_lines) × Says meaning line o
unfolding line_of
line_says {S} meaning n line o e =
    let choose : Bool → Result (Option S) TextFault = λ b. cond b (Ok None)
    (or_bad n (meaning (words line))) in
    let said = choose (eqb (length (words line)) 0) in
    let g = not_stopped (ltb limit_of_lines n) too_far said o e in (
      ltb-false _ _ g.0,
      elim (cases_Bool (eqb (length (words line)) 0)) [
        | inl none ↦ subst (Says meaning line) (ok_is None o (sym (ap choose none) ∙ g.1))
            (nil_from_length (words line) (eqb-true _ _ none))
        | inr filled ↦
            let found = or_bad_is n (meaning (words line)) o (sym (ap choose filled) ∙ g.1) in
            subst (Says meaning line) (sym found.2) (
              λ nil. absurd (false≢true (sym filled ∙ ap (λ ws. eqb (length ws) 0) nil)),
              found.1,
            )
      ],
    )

says_line : {S : Type 0} (meaning : List (List ℕ) → Option S) (n : ℕ) (line : List ℕ) (o : Option S)
    → n ≤ limit_of_lines
    → Says meaning line o
    → line_of meaning n line ≡ Ok o
unfolding line_of
says_line meaning n line None within none = rw (le-ltb limit_of_lines n within, none) refl
says_line meaning n line (Some s) within said =
    let filled : eqb (length (words line)) 0 ≡ false = ne_eqb _ _
    (λ e. said.0 (nil_from_length (words line) e)) in
    rw (le-ltb limit_of_lines n within, filled, said.1) refl

-- ---- the lines after the heading

join : {S : Type 0} (meaning : List (List ℕ) → Option S) (n : ℕ) (line : List ℕ)
    (rest : List (List ℕ)) (o : Option S) (others : List (Line S))
    → Says meaning line o
    → Say meaning (n + 1) rest others
    → Say meaning n (line ∷ rest) (onto n o others)
join meaning n line rest None others none said = inl (none, said)
join meaning n line rest (Some s) others says said = inr (s, others, says.0, says.1, refl, said)

pub body_says : {S : Type 0} (meaning : List (List ℕ) → Option S) (n : ℕ) (ls : List (List ℕ))
    (says : List (Line S))
    → n ≤ limit_of_lines + 1
    → body meaning n ls ≡ Ok says
    → Say meaning n ls says × (n + length ls ≤ limit_of_lines + 1)
unfolding body
body_says meaning n [] says within e = (sym (ok_is [] says e), omega arith)
body_says meaning n (line ∷ rest) says within e =
    let first = bind_ok (line_of meaning n line)
    (λ o. body meaning (n + 1) rest >>= λ others. Ok (onto n o others)) says e in
    let later = bind_ok (body meaning (n + 1) rest) (λ others. Ok (onto n first.0 others)) says
    first.2 in
    let here = line_says meaning n line first.0 first.1 in
    let there = body_says meaning (n + 1) rest later.0 (omega (arith, here.0)) later.1 in (
      subst (Say meaning n (line ∷ rest)) (ok_is _ says later.2)
          (join meaning n line rest first.0 later.0 here.1 there.0),
      omega (arith, there.1),
    )

said_on : {S : Type 0} (meaning : List (List ℕ) → Option S) (n : ℕ) (line : List ℕ)
    (rest : List (List ℕ)) (o : Option S) (others : List (Line S))
    → line_of meaning n line ≡ Ok o
    → body meaning (n + 1) rest ≡ Ok others
    → body meaning n (line ∷ rest) ≡ Ok (onto n o others)
unfolding body
said_on meaning n line rest o others first later = rw (first, later) refl

pub says_body : {S : Type 0} (meaning : List (List ℕ) → Option S) (n : ℕ) (ls : List (List ℕ))
    (says : List (Line S))
    → n + length ls ≤ limit_of_lines + 1
    → Say meaning n ls says
    → body meaning n ls ≡ Ok says
unfolding body
says_body meaning n [] says few said = ap (λ xs. Ok xs) (sym said)
says_body meaning n (line ∷ rest) says few (inl (none, said)) =
    said_on meaning n line rest None says (says_line meaning n line None (omega arith) none)
    (says_body meaning (n + 1) rest says (omega arith) said)
says_body meaning n (line ∷ rest) says few (inr (s, others, filled, is, all, said)) =
    said_on meaning n line rest (Some s) others
    (says_line meaning n line (Some s) (omega arith) (filled, is))
    (says_body meaning (n + 1) rest others (omega arith) said) ∙ ap (λ xs. Ok xs) (sym all)

-- ---- the whole text

utf8_is : (bytes text : List ℕ) → utf8_text bytes ≡ Ok text → IsUtf8 bytes × (text ≡ bytes)
unfolding utf8_text
utf8_is bytes text e =
    let choose : Bool → Result (List ℕ) TextFault = λ b. cond b (Ok bytes) (Err NotUtf8) in
    elim (cases_Bool (is_utf8 bytes)) [
      | inl is ↦ (IsUtf8-from_is_utf8 bytes is, sym (ok_is bytes text (sym (ap choose is) ∙ e)))
      | inr not_text ↦ err_is_ok NotUtf8 text (sym (ap choose not_text) ∙ e)
    ]

-- what was read is a text that says so
pub text_found : {S : Type 0} (kind : TextKind) (meaning : Edition → List (List ℕ) → Option S)
    (bytes : List ℕ) (says : List (Line S))
    → text_of kind meaning bytes ≡ Ok says
    → IsText kind meaning bytes says
unfolding text_of
text_found kind meaning bytes says e =
    let a = bind_ok (utf8_text bytes) (λ text. heading kind 1 (lines text)
    >>= λ start. body (meaning start.0.0) start.0.1 start.1) says e in
    let text = utf8_is bytes a.0 a.1 in
    let b = bind_ok (heading kind 1 (lines a.0)) (λ start. body (meaning start.0.0) start.0.1
    start.1) says
    a.2 in
    let found = heading_found kind 1 (lines a.0) b.0.0 b.0.1 b.1 in
    let edition = b.0.0.0 in
    let said = body_says (meaning edition) b.0.0.1 b.0.1 says
    (omega (arith, found.next_is, found.few)) b.2 in
    let parts : lines bytes ≡ found.before ++ found.head ∷ b.0.1 = ap lines (sym text.1)
    ∙ found.parts in
    let next : b.0.0.1 ≡ length found.before + 2 = omega (arith, found.next_is) in
    record {
      edition = edition;
      utf8 = text.0;
      few = omega (
        arith,
        ap length parts,
        length-append found.before (found.head ∷ b.0.1),
        said.1,
        found.next_is,
      );
      before = found.before;
      head = found.head;
      after = b.0.1;
      parts = parts;
      wordless = found.wordless;
      heading = found.heading;
      body = subst (λ n. Say (meaning edition) n b.0.1 says) next said.0;
    }

-- what a text says is read
pub text_read : {S : Type 0} (kind : TextKind) (meaning : Edition → List (List ℕ) → Option S)
    (bytes : List ℕ)
    (says : List (Line S))
    → IsText kind meaning bytes says
    → text_of kind meaning bytes ≡ Ok says
unfolding text_of utf8_text
text_read kind meaning bytes says is =
    let count : length (lines bytes) ≡ length is.before + (length is.after + 1) = ap length is.parts
    ∙ length-append is.before (is.head ∷ is.after) ∙ omega arith in
    let start : heading kind 1 (lines bytes)
    ≡ Ok ((is.edition, 1 + length is.before + 1), is.after) =
    ap (heading kind 1) is.parts ∙ heading_finds kind 1 is.edition is.before is.head is.after
    is.wordless
    is.heading (omega (arith, count, is.few)) in
    let rest : body (meaning is.edition) (1 + length is.before + 1) is.after ≡ Ok says =
    says_body (meaning is.edition) (1 + length is.before + 1) is.after says
    (omega (arith, count, is.few))
    (subst (λ n. Say (meaning is.edition) n is.after says) (omega arith) is.body) in
    rw (is_utf8-from_IsUtf8 bytes is.utf8, start, rest) refl

-- the edition of a text is that by which it is read
pub edition_read : {S : Type 0} (kind : TextKind) (meaning : Edition → List (List ℕ) → Option S)
    (bytes : List ℕ)
    (says : List (Line S))
    (is : IsText kind meaning bytes says)
    → text_edition kind bytes ≡ Ok is.edition
unfolding text_edition utf8_text
edition_read kind meaning bytes says is =
    let count : length (lines bytes) ≡ length is.before + (length is.after + 1) = ap length is.parts
    ∙ length-append is.before (is.head ∷ is.after) ∙ omega arith in
    let start : heading kind 1 (lines bytes)
    ≡ Ok ((is.edition, 1 + length is.before + 1), is.after) =
    ap (heading kind 1) is.parts ∙ heading_finds kind 1 is.edition is.before is.head is.after
    is.wordless
    is.heading (omega (arith, count, is.few)) in
    rw (is_utf8-from_IsUtf8 bytes is.utf8, start) refl

-- ---- what a reader returned

pub found_in : {S X : Type 0} (kind : TextKind) (meaning : Edition → List (List ℕ) → Option S)
    (bytes : List ℕ)
    (view : X → List (Line S)) (r : Result X (OrMemory TextFault))
    → Gives view r (text_of kind meaning bytes)
    → IfOk r (λ x. IsText kind meaning bytes (view x))
found_in kind meaning bytes view r gives =
    gives_ok (IsText kind meaning bytes) view r _ (text_found kind meaning bytes) gives

pub read_by : {S X : Type 0} (kind : TextKind) (meaning : Edition → List (List ℕ) → Option S)
    (bytes : List ℕ)
    (view : X → List (Line S)) (r : Result X (OrMemory TextFault)) (says : List (Line S))
    → Gives view r (text_of kind meaning bytes)
    → IsText kind meaning bytes says
    → Gives view r (Ok says)
read_by kind meaning bytes view r says gives is =
    gives_same view r _ (Ok says) (text_read kind meaning bytes says is) gives
