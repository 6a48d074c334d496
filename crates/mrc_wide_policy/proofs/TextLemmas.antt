-- What was read is a policy of version 3 that says so, and what such a policy says is read.
use Rattle.std.proofs.Common.{◌≡◌, ℕ, ◌+◌, ◌≤◌, Bool, true, false, cond, eqb, ltb, List, [], ◌∷◌}
use Rattle.std.proofs.Common.{◌++◌, length, Option, Some, None, Result, Ok, Err, refl, sym, ap}
use Rattle.std.proofs.Common.{subst, ◌∙◌, inl, inr, arith}
use Rattle.std.specs.Prelude.{IfOk, IsTrue, codes}
use Rattle.std.specs.List.{AllByRecursion}
use Rattle.std.specs.Str.{IsUtf8, is_utf8}
use Rattle.std.proofs.lemmas.Bool.{cases_Bool, false≢true, eqb-true, ltb-false, le-ltb}
use Rattle.std.proofs.lemmas.List.{nil_from_length, length-append}
use Rattle.std.proofs.lemmas.Str.{IsUtf8-from_is_utf8, is_utf8-from_IsUtf8}
use Rattle.mrc_base.specs.Limits.{limit_of_lines}
use Rattle.mrc_base.specs.declared.memory.OrMemory.{OrMemory}
use Rattle.mrc_base.specs.Reading.{◌>>=◌, Gives}
use Rattle.mrc_base.proofs.Steps.{bind_ok, passed, not_stopped, ok_is, gives_ok}
use Rattle.mrc_base.proofs.Steps.{gives_same}
use Rattle.mrc_wiring_text.specs.declared.faults.TextFault.{TextFault}
use Rattle.mrc_wiring_text.specs.declared.faults.TextFault.TheVariants.{NotUtf8, Version}
use Rattle.mrc_wiring_text.specs.declared.reading.Line.{Line}
use Rattle.mrc_wiring_text.specs.declared.policy.Forbid.{Forbid}
use Rattle.mrc_wiring_text.specs.declared.reading.Edition.{Edition}
use Rattle.mrc_wiring_text.specs.declared.reading.Edition.TheVariants.{First, Second, Third}
use Rattle.mrc_wiring_text.specs.Kinds.{is_number}
use Rattle.mrc_wiring_text.specs.Lexis.{lines, words, decimal}
use Rattle.mrc_wiring_text.specs.Reading.{too_far, utf8_text, edition_number, has_edition}
use Rattle.mrc_wiring_text.specs.Texts.{IsWordless, IsHeading, IsPolicy}
use Rattle.mrc_wide_policy.specs.declared.says.PolicySays.{PolicySays}
use Rattle.mrc_wide_policy.specs.PolicyReading.{SoFar, wide_version, version_of, headed, heading_of}
use Rattle.mrc_wide_policy.specs.PolicyReading.{add_lines, with_heading, wide_policy_of}
use Rattle.mrc_wide_policy.specs.PolicyTexts.{Say, IsWidePolicy}
use Rattle.mrc_wide_policy.proofs.LineLemmas.{said_found, said_read}

-- ---- the heading

-- a line that is taken for a heading
record Headed (n : ℕ) (ws : List (List ℕ)) (r : SoFar) : Type 0 where
  in_reach : n ≤ limit_of_lines
  version : version_of ws ≡ Some wide_version
  none_yet : r ≡ Some []

version_is : (n : ℕ) (v : Option ℕ) (r : SoFar)
    → headed n v ≡ Ok r
    → (v ≡ Some wide_version) × (r ≡ Some [])
version_is n None r e = absurd cc
version_is n (Some v) r e =
    let found = passed (eqb v wide_version) Version (Ok (Some [])) r e in
    (ap (λ (k : ℕ). Some k) (eqb-true v wide_version found.0), sym (ok_is (Some []) r found.1))

heading_is : (n : ℕ) (ws : List (List ℕ)) (r : SoFar) → heading_of n ws ≡ Ok r → Headed n ws r
unfolding heading_of
heading_is n ws r e =
    let g = not_stopped (ltb limit_of_lines n) too_far (headed n (version_of ws)) r e in
    let found = version_is n (version_of ws) r g.1 in
    record { in_reach = ltb-false _ _ g.0; version = found.0; none_yet = found.1 }

heading_read : (n : ℕ) (ws : List (List ℕ))
    → n ≤ limit_of_lines
    → version_of ws ≡ Some wide_version
    → heading_of n ws ≡ Ok (Some [])
unfolding heading_of
heading_read n ws within is = rw (le-ltb limit_of_lines n within, is) refl

-- ---- lines in front of the heading

-- the heading, and what the lines behind it say
record Found (n : ℕ) (ls : List (List ℕ)) (says : List (Line PolicySays)) : Type 0 where
  before : List (List ℕ)
  head : List ℕ
  after : List (List ℕ)
  parts : ls ≡ before ++ head ∷ after
  blank : AllByRecursion IsWordless before
  heading : version_of (words head) ≡ Some wide_version
  body : Say (n + length before + 1) after says
  short : n + length ls ≤ limit_of_lines + 1

found_here : (n : ℕ) (line : List ℕ) (rest : List (List ℕ)) (says : List (Line PolicySays))
    → (heading_of n (words line) >>= λ more. add_lines (n + 1) more rest) ≡ Ok (Some says)
    → Found n (line ∷ rest) says
found_here n line rest says e =
    let step = bind_ok (heading_of n (words line)) (λ more. add_lines (n + 1) more rest) (Some says)
    e in
    let here = heading_is n (words line) step.0 step.1 in
    let said = said_found (n + 1) [] rest (Some says) (omega (arith, here.in_reach))
    (ap (λ (r : SoFar). add_lines (n + 1) r rest) (sym here.none_yet) ∙ step.2) in
    let same : says ≡ said.others = cc said.is in
    record {
      before = [];
      head = line;
      after = rest;
      parts = refl;
      blank = tt;
      heading = here.version;
      body = subst (λ (k : ℕ). Say k rest says) (omega arith)
          (subst (Say (n + 1) rest) (sym same) said.say);
      short = omega (arith, said.few);
    }

found_later : (n : ℕ) (line : List ℕ) (rest : List (List ℕ)) (says : List (Line PolicySays))
    → words line ≡ []
    → Found (n + 1) rest says
    → Found n (line ∷ rest) says
found_later n line rest says none found =
    record {
      before = line ∷ found.before;
      head = found.head;
      after = found.after;
      parts = ap (λ xs. line ∷ xs) found.parts;
      blank = (none, found.blank);
      heading = found.heading;
      body = subst (λ (k : ℕ). Say k found.after says) (omega arith) found.body;
      short = omega (arith, found.short);
    }

lines_found : (n : ℕ) (ls : List (List ℕ)) (says : List (Line PolicySays))
    → add_lines n None ls ≡ Ok (Some says)
    → Found n ls says
unfolding add_lines
lines_found n [] says e = absurd cc
lines_found n (line ∷ rest) says e =
    let choose : Bool → Result SoFar TextFault = λ b. cond b (Ok None) (heading_of n (words line))
    >>= λ more. add_lines (n + 1) more rest in
    elim (cases_Bool (eqb (length (words line)) 0)) [
      | inl passes ↦ found_later n line rest says
          (nil_from_length (words line) (eqb-true _ _ passes))
          (lines_found (n + 1) rest says (sym (ap choose passes) ∙ e))
      | inr fails ↦ found_here n line rest says (sym (ap choose fails) ∙ e)
    ]

-- lines without words are passed over
pub lines_pass : (n : ℕ) (before rest : List (List ℕ))
    → AllByRecursion IsWordless before
    → add_lines n None (before ++ rest) ≡ add_lines (n + length before) None rest
unfolding add_lines
lines_pass n [] rest none = ap (λ (k : ℕ). add_lines k None rest) (omega arith)
lines_pass n (line ∷ before) rest none =
    let blank : eqb (length (words line)) 0 ≡ true = rw none.0 refl in
    rw blank (lines_pass (n + 1) before rest none.1
    ∙ ap (λ (k : ℕ). add_lines k None rest) (omega arith))

-- a line that names a version has words
filled : (ws : List (List ℕ)) (v : ℕ) → version_of ws ≡ Some v → eqb (length ws) 0 ≡ false
unfolding version_of
filled [] v e = absurd cc
filled (w ∷ []) v e = absurd cc
filled (w ∷ number ∷ []) v e = refl
filled (w ∷ number ∷ z ∷ zs) v e = absurd cc

head_goes : (n : ℕ) (head : List ℕ) (after : List (List ℕ)) (v : ℕ)
    → version_of (words head) ≡ Some v
    → add_lines n None (head ∷ after)
    ≡ (heading_of n (words head) >>= λ more. add_lines (n + 1) more after)
unfolding add_lines
head_goes n head after v is = rw (filled (words head) v is) refl

-- ---- the whole text

has_heading : (r : SoFar) (says : List (Line PolicySays)) → with_heading r ≡ Ok says → r ≡ Some says
has_heading None says e = absurd cc
has_heading (Some said) says e = ap (λ xs. Some xs) (ok_is said says e)

decoded : (bytes text : List ℕ) → utf8_text bytes ≡ Ok text → IsUtf8 bytes × (bytes ≡ text)
unfolding utf8_text
decoded bytes text e =
    let test = passed (is_utf8 bytes) NotUtf8 (Ok bytes) text e in
    (IsUtf8-from_is_utf8 bytes test.0, ok_is bytes text test.1)

-- what was read is a policy that says so
pub text_found : (bytes : List ℕ) (says : List (Line PolicySays))
    → wide_policy_of bytes ≡ Ok says
    → IsWidePolicy bytes says
unfolding wide_policy_of
text_found bytes says e =
    let a = bind_ok (utf8_text bytes) (λ text. add_lines 1 None (lines text)
    >>= λ said. with_heading said) says e in
    let text = decoded bytes a.0 a.1 in
    let b = bind_ok (add_lines 1 None (lines a.0)) (λ said. with_heading said) says a.2 in
    let all : add_lines 1 None (lines a.0) ≡ Ok (Some says) = b.1
    ∙ ap (λ (r : SoFar). Ok r) (has_heading b.0 says b.2) in
    let found = lines_found 1 (lines a.0) says all in
    let same : lines bytes ≡ lines a.0 = ap lines text.1 in
    record {
      utf8 = text.0;
      few = omega (arith, found.short, ap length same);
      before = found.before;
      head = found.head;
      after = found.after;
      parts = same ∙ found.parts;
      wordless = found.blank;
      heading = found.heading;
      body = subst (λ (k : ℕ). Say k found.after says) (omega arith) found.body;
    }

-- what a policy says is read
pub text_read : (bytes : List ℕ) (says : List (Line PolicySays))
    → IsWidePolicy bytes says
    → wide_policy_of bytes ≡ Ok says
unfolding wide_policy_of utf8_text
text_read bytes says is =
    let count : length (lines bytes) ≡ length is.before + (length is.after + 1) = ap length is.parts
    ∙ length-append is.before (is.head ∷ is.after) ∙ omega arith in
    let start = heading_read (1 + length is.before) (words is.head) (omega (arith, count, is.few))
    is.heading in
    let rest : add_lines (1 + length is.before + 1) (Some []) is.after ≡ Ok (Some says) =
    said_read (1 + length is.before + 1) [] is.after says (omega (arith, count, is.few))
    (subst (λ (k : ℕ). Say k is.after says) (omega arith) is.body) in
    let all : add_lines 1 None (lines bytes) ≡ Ok (Some says) = ap (add_lines 1 None) is.parts
    ∙ lines_pass 1 is.before (is.head ∷ is.after) is.wordless
    ∙ head_goes (1 + length is.before) is.head is.after wide_version is.heading
    ∙ ap (λ (r : Result SoFar TextFault). r >>= λ more. add_lines (1 + length is.before + 1) more
    is.after) start ∙ rest in
    rw (is_utf8-from_IsUtf8 bytes is.utf8, all) refl

-- ---- an older policy

-- an edition that there is of a kind of texts which has none of version 3
earlier : {kind : _} (edition : Edition) (line : List ℕ)
    → has_edition kind Third ≡ false
    → IsHeading kind edition line
    → eqb (edition_number edition) wide_version ≡ false
earlier First line none heading = refl
earlier Second line none heading = refl
earlier Third line none heading = absurd (false≢true (sym none ∙ heading.has))

version_named : (ws : List (List ℕ)) (number : List ℕ)
    → ws ≡ codes "policy" ∷ number ∷ []
    → IsTrue (is_number number)
    → version_of ws ≡ Some (decimal number)
unfolding version_of
version_named ws number said digits = ap version_of said ∙ rw digits refl

head_older : (n : ℕ) (ws : List (List ℕ)) (v : ℕ)
    → n ≤ limit_of_lines
    → version_of ws ≡ Some v
    → eqb v wide_version ≡ false
    → heading_of n ws ≡ Err Version
unfolding heading_of
head_older n ws v within named other = rw (le-ltb limit_of_lines n within, named, other) refl

pub text_older : (bytes : List ℕ) (says : List (Line Forbid))
    → IsPolicy bytes says
    → wide_policy_of bytes ≡ Err Version
unfolding wide_policy_of utf8_text
text_older bytes says is =
    let count : length (lines bytes) ≡ length is.before + (length is.after + 1) = ap length is.parts
    ∙ length-append is.before (is.head ∷ is.after) ∙ omega arith in
    let named = version_named (words is.head) is.heading.number is.heading.said is.heading.digits in
    let other : eqb (decimal is.heading.number) wide_version ≡ false =
    ap (λ (v : ℕ). eqb v wide_version) is.heading.value
    ∙ earlier is.edition is.head refl is.heading in
    let start = head_older (1 + length is.before) (words is.head) (decimal is.heading.number)
    (omega (arith, count, is.few)) named other in
    let all : add_lines 1 None (lines bytes) ≡ Err Version = ap (add_lines 1 None) is.parts
    ∙ lines_pass 1 is.before (is.head ∷ is.after) is.wordless
    ∙ head_goes (1 + length is.before) is.head is.after (decimal is.heading.number) named
    ∙ ap (λ (r : Result SoFar TextFault). r >>= λ more. add_lines (1 + length is.before + 1) more
    is.after) start in
    rw (is_utf8-from_IsUtf8 bytes is.utf8, all) refl

-- ---- what the reader returned

pub found_in : {X : Type 0} (bytes : List ℕ) (view : X → List (Line PolicySays))
    (r : Result X (OrMemory TextFault))
    → Gives view r (wide_policy_of bytes)
    → IfOk r (λ x. IsWidePolicy bytes (view x))
found_in bytes view r gives =
    gives_ok (IsWidePolicy bytes) view r _ (text_found bytes) gives

pub read_by : {X : Type 0} (bytes : List ℕ) (view : X → List (Line PolicySays))
    (r : Result X (OrMemory TextFault)) (says : List (Line PolicySays))
    → Gives view r (wide_policy_of bytes)
    → IsWidePolicy bytes says
    → Gives view r (Ok says)
read_by bytes view r says gives is =
    gives_same view r _ (Ok says) (text_read bytes says is) gives

pub older_told : {X : Type 0} (bytes : List ℕ) (view : X → List (Line PolicySays))
    (r : Result X (OrMemory TextFault)) (says : List (Line Forbid))
    → Gives view r (wide_policy_of bytes)
    → IsPolicy bytes says
    → Gives view r (Err Version)
older_told bytes view r says gives is =
    gives_same view r _ (Err Version) (text_older bytes says is) gives
