-- What was read is a wiring of version 4 that says so, and what such a wiring says is read.
use Rattle.std.proofs.Common.{◌≡◌, ℕ, ◌+◌, Bool, cond, List, ◌∷◌, ◌++◌, length, Result, Ok, Err}
use Rattle.std.proofs.Common.{refl, sym, ap, subst, ◌∙◌, inl, inr, arith}
use Rattle.std.specs.Prelude.{IfOk}
use Rattle.std.specs.Str.{IsUtf8, is_utf8}
use Rattle.std.proofs.lemmas.Bool.{cases_Bool}
use Rattle.std.proofs.lemmas.List.{length-append}
use Rattle.std.proofs.lemmas.Str.{IsUtf8-from_is_utf8, is_utf8-from_IsUtf8}
use Rattle.mrc_base.specs.declared.memory.OrMemory.{OrMemory}
use Rattle.mrc_base.specs.Reading.{◌>>=◌, Gives}
use Rattle.mrc_base.proofs.Steps.{bind_ok, ok_is, err_is_ok, gives_ok, gives_same}
use Rattle.mrc_wiring_text.specs.declared.faults.TextFault.{TextFault}
use Rattle.mrc_wiring_text.specs.declared.faults.TextFault.TheVariants.{NotUtf8}
use Rattle.mrc_wiring_text.specs.declared.reading.Line.{Line}
use Rattle.mrc_wiring_text.specs.Lexis.{lines}
use Rattle.mrc_wiring_text.specs.Reading.{body, utf8_text}
use Rattle.mrc_wiring_text.specs.Texts.{Say}
use Rattle.mrc_wiring_text.proofs.TextLaws.{body_says, says_body}
use Rattle.mrc_stand_for.specs.declared.wide.WideSays.{WideSays}
use Rattle.mrc_wide_text.specs.WideLines.{wide_says}
use Rattle.mrc_wide_text.specs.WideReading.{heading, wide_wiring_of}
use Rattle.mrc_wide_text.specs.WideTexts.{IsWideWiring}
use Rattle.mrc_wide_text.proofs.HeadingLemmas.{heading_found, heading_finds}

utf8_is : (bytes text : List ℕ) → utf8_text bytes ≡ Ok text → IsUtf8 bytes × (text ≡ bytes)
unfolding utf8_text
utf8_is bytes text e =
    let choose : Bool → Result (List ℕ) TextFault = λ b. cond b (Ok bytes) (Err NotUtf8) in
    elim (cases_Bool (is_utf8 bytes)) [
      | inl is ↦ (IsUtf8-from_is_utf8 bytes is, sym (ok_is bytes text (sym (ap choose is) ∙ e)))
      | inr not_text ↦ err_is_ok NotUtf8 text (sym (ap choose not_text) ∙ e)
    ]

-- what was read is a wiring that says so
pub text_found : (bytes : List ℕ) (says : List (Line WideSays))
    → wide_wiring_of bytes ≡ Ok says
    → IsWideWiring bytes says
unfolding wide_wiring_of
text_found bytes says e =
    let a = bind_ok (utf8_text bytes)
    (λ text. heading 1 (lines text) >>= λ start. body wide_says start.0 start.1) says e in
    let text = utf8_is bytes a.0 a.1 in
    let b = bind_ok (heading 1 (lines a.0)) (λ start. body wide_says start.0 start.1) says a.2 in
    let found = heading_found 1 (lines a.0) b.0.0 b.0.1 b.1 in
    let said = body_says wide_says b.0.0 b.0.1 says (omega (arith, found.next_is, found.few)) b.2 in
    let parts : lines bytes ≡ found.before ++ found.head ∷ b.0.1 = ap lines (sym text.1)
    ∙ found.parts in
    let next : b.0.0 ≡ length found.before + 2 = omega (arith, found.next_is) in
    record {
      utf8 = text.0;
      few = omega (
        arith,
        ap length parts,
        length-append found.before (found.head ∷ b.0.1),
        said.1,
        found.next_is,
      );
      before = found.before;
      head = found.head;
      after = b.0.1;
      parts = parts;
      wordless = found.wordless;
      heading = found.heading;
      body = subst (λ n. Say wide_says n b.0.1 says) next said.0;
    }

-- what a wiring says is read
pub text_read : (bytes : List ℕ) (says : List (Line WideSays))
    → IsWideWiring bytes says
    → wide_wiring_of bytes ≡ Ok says
unfolding wide_wiring_of utf8_text
text_read bytes says is =
    let count : length (lines bytes) ≡ length is.before + (length is.after + 1) = ap length is.parts
    ∙ length-append is.before (is.head ∷ is.after) ∙ omega arith in
    let start : heading 1 (lines bytes) ≡ Ok (1 + length is.before + 1, is.after) =
    ap (heading 1) is.parts ∙ heading_finds 1 is.before is.head is.after is.wordless is.heading
    (omega (arith, count, is.few)) in
    let rest : body wide_says (1 + length is.before + 1) is.after ≡ Ok says =
    says_body wide_says (1 + length is.before + 1) is.after says (omega (arith, count, is.few))
    (subst (λ n. Say wide_says n is.after says) (omega arith) is.body) in
    rw (is_utf8-from_IsUtf8 bytes is.utf8, start, rest) refl

-- ---- what the reader returned

pub found_in : {X : Type 0} (bytes : List ℕ) (view : X → List (Line WideSays))
    (r : Result X (OrMemory TextFault))
    → Gives view r (wide_wiring_of bytes)
    → IfOk r (λ x. IsWideWiring bytes (view x))
found_in bytes view r gives =
    gives_ok (IsWideWiring bytes) view r _ (text_found bytes) gives

pub read_by : {X : Type 0} (bytes : List ℕ) (view : X → List (Line WideSays))
    (r : Result X (OrMemory TextFault)) (says : List (Line WideSays))
    → Gives view r (wide_wiring_of bytes)
    → IsWideWiring bytes says
    → Gives view r (Ok says)
read_by bytes view r says gives is =
    gives_same view r _ (Ok says) (text_read bytes says is) gives
