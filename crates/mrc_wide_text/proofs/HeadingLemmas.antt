-- Looking for the heading of version 4, as a loop does, and what is one.
use Rattle.std.proofs.Common.{◌≡◌, ℕ, ◌+◌, ◌≤◌, Bool, true, false, cond, eqb, ltb, ◌&&◌, List, []}
use Rattle.std.proofs.Common.{◌∷◌, ◌++◌, length, Option, Some, None, Result, Ok, Err, refl, sym, ap}
use Rattle.std.proofs.Common.{◌∙◌, inl, inr, arith}
use Rattle.std.specs.Prelude.{bytes_eq, codes}
use Rattle.std.specs.List.{AllByRecursion}
use Rattle.std.proofs.lemmas.Bool.{cases_Bool, and_parts, eqb-true, ltb-false, le-ltb}
use Rattle.std.proofs.lemmas.List.{nil_from_length}
use Rattle.std.proofs.lemmas.Option.{none-some, same_Some}
use Rattle.std.proofs.lemmas.Slice.Eq.{bytes_eq-Decides}
use Rattle.mrc_base.specs.Limits.{limit_of_lines}
use Rattle.mrc_base.specs.declared.memory.OrMemory.{OrMemory}
use Rattle.mrc_base.specs.Reading.{◌>>=◌, Refuses}
use Rattle.mrc_base.proofs.Steps.{bind_ok, not_stopped, passed, ok_is}
use Rattle.mrc_base.proofs.Steps.{refuses_then, refuses_same}
use Rattle.mrc_wiring_text.specs.declared.faults.TextFault.{TextFault}
use Rattle.mrc_wiring_text.specs.declared.faults.TextFault.TheVariants.{BadLine, Version}
use Rattle.mrc_wiring_text.specs.Lexis.{words, decimal}
use Rattle.mrc_wiring_text.specs.Kinds.{is_number}
use Rattle.mrc_wiring_text.specs.Reading.{too_far}
use Rattle.mrc_wiring_text.specs.Texts.{IsWordless}
use Rattle.mrc_wide_text.specs.WideReading.{wide_version, version_of, after_version, after_heading}
use Rattle.mrc_wide_text.specs.WideReading.{heading}
use Rattle.mrc_wide_text.specs.WideTexts.{IsWideHeading}

-- ---- as a loop does

heading_at : (n : ℕ) (line : List ℕ) (rest : List (List ℕ))
    → eqb (length (words line)) 0 ≡ false
    → heading n (line ∷ rest) ≡ (after_heading n (words line) >>= λ next. Ok (next, rest))
unfolding heading
heading_at n line rest e = rw e refl

pub heading_passes : (n : ℕ) (text : List (List ℕ)) (line : List ℕ) (rest : List (List ℕ))
    (total : Result (ℕ × List (List ℕ)) TextFault)
    → heading n text ≡ total
    → text ≡ line ∷ rest
    → eqb (length (words line)) 0 ≡ true
    → heading (n + 1) rest ≡ total
unfolding heading
heading_passes n text line rest total same cut e =
    let one : heading n (line ∷ rest) ≡ heading (n + 1) rest = rw e refl in
    sym one ∙ ap (heading n) (sym cut) ∙ same

pub heading_starts : (n : ℕ) (text : List (List ℕ)) (line : List ℕ) (rest : List (List ℕ))
    (total : Result (ℕ × List (List ℕ)) TextFault) (next : ℕ)
    → heading n text ≡ total
    → text ≡ line ∷ rest
    → eqb (length (words line)) 0 ≡ false
    → after_heading n (words line) ≡ Ok next
    → total ≡ Ok (next, rest)
heading_starts n text line rest total next same cut e is =
    sym same ∙ ap (heading n) cut ∙ heading_at n line rest e
    ∙ ap (λ r. r >>= λ next. Ok (next, rest)) is

pub heading_fails : (e : OrMemory TextFault) (n : ℕ) (text : List (List ℕ)) (line : List ℕ)
    (rest : List (List ℕ)) (total : Result (ℕ × List (List ℕ)) TextFault)
    → heading n text ≡ total
    → text ≡ line ∷ rest
    → eqb (length (words line)) 0 ≡ false
    → Refuses e (after_heading n (words line))
    → Refuses e total
heading_fails e n text line rest total same cut filled is =
    refuses_same e _ _ (sym (heading_at n line rest filled) ∙ ap (heading n) (sym cut) ∙ same)
    (refuses_then e (after_heading n (words line)) (λ next. Ok (next, rest)) is)

pub heading_ends : (n : ℕ) (total : Result (ℕ × List (List ℕ)) TextFault)
    → heading n [] ≡ total
    → total ≡ Err (BadLine 1)
unfolding heading
heading_ends n total same = sym same

-- ---- one line

-- the words of a line that names a version
pub record Names (ws : List (List ℕ)) (v : ℕ) : Type 0 where
  pub number : List ℕ
  pub said : ws ≡ codes "wiring" ∷ number ∷ []
  pub digits : is_number number ≡ true
  pub value : decimal number ≡ v

names_version : (said : List (List ℕ)) (v : ℕ) → version_of said ≡ Some v → Names said v
unfolding version_of
names_version [] v e = absurd cc
names_version (w ∷ []) v e = absurd cc
names_version (w ∷ number ∷ []) v e =
    elim (cases_Bool (bytes_eq w (codes "wiring") && is_number number)) [
      | inl passes ↦
          let parts = and_parts (bytes_eq w (codes "wiring")) (is_number number) passes in
          record {
            number = number;
            said = ap (λ k. k ∷ number ∷ []) ((bytes_eq-Decides w (codes "wiring")).0 parts.0);
            digits = parts.1;
            value = same_Some _ _ (sym (ap (λ b. cond b (Some (decimal number)) None) passes) ∙ e);
          }
      | inr fails ↦ absurd (none-some v (sym (ap (λ b. cond b (Some (decimal number)) None) fails)
          ∙ e))
    ]
names_version (w ∷ number ∷ z ∷ zs) v e = absurd cc

pub version_named : (ws : List (List ℕ)) (v : ℕ) → Names ws v → version_of ws ≡ Some v
unfolding version_of
version_named ws v named =
    ap version_of named.said ∙ rw (named.digits, named.value) refl

-- a line that is taken for a heading
record Headed (line : List ℕ) (n : ℕ) (next : ℕ) : Type 0 where
  within : n ≤ limit_of_lines
  heading : IsWideHeading line
  next_is : next ≡ n + 1

headed_by : (line : List ℕ) (n : ℕ) (v : Option ℕ) (next : ℕ)
    → n ≤ limit_of_lines
    → version_of (words line) ≡ v
    → after_version n v ≡ Ok next
    → Headed line n next
headed_by line n None next within named e = absurd cc
headed_by line n (Some v) next within named e =
    let names = names_version (words line) v named in
    let found = passed (eqb v wide_version) Version (Ok (n + 1)) next e in
    record {
      within = within;
      heading = record {
        number = names.number;
        said = names.said;
        digits = names.digits;
        value = names.value ∙ eqb-true v wide_version found.0;
      };
      next_is = sym (ok_is (n + 1) next found.1);
    }

headed : (line : List ℕ) (n : ℕ) (next : ℕ)
    → after_heading n (words line) ≡ Ok next
    → Headed line n next
unfolding after_heading
headed line n next e =
    let g = not_stopped (ltb limit_of_lines n) too_far (after_version n (version_of (words line)))
    next e in
    headed_by line n (version_of (words line)) next (ltb-false _ _ g.0) refl g.1

heads : (line : List ℕ) (n : ℕ)
    → n ≤ limit_of_lines
    → IsWideHeading line
    → after_heading n (words line) ≡ Ok (n + 1)
unfolding after_heading
heads line n within is =
    let named = version_named (words line) (decimal is.number)
    (record { number = is.number; said = is.said; digits = is.digits; value = refl }) in
    rw (le-ltb limit_of_lines n within, named, is.value) refl

-- ---- the lines before a heading, and the heading

pub record Found (n : ℕ) (ls : List (List ℕ)) (next : ℕ) (rest : List (List ℕ)) : Type 0 where
  pub before : List (List ℕ)
  pub head : List ℕ
  pub parts : ls ≡ before ++ head ∷ rest
  pub wordless : AllByRecursion IsWordless before
  pub heading : IsWideHeading head
  pub next_is : next ≡ n + length before + 1
  pub few : n + length before ≤ limit_of_lines

abbrev with_rest : List (List ℕ) → ℕ → Result (ℕ × List (List ℕ)) TextFault
with_rest rest m = Ok (m, rest)

found_here : (n : ℕ) (line : List ℕ) (ls : List (List ℕ)) (next : ℕ) (rest : List (List ℕ))
    → (after_heading n (words line) >>= with_rest ls) ≡ Ok (next, rest)
    → Found n (line ∷ ls) next rest
found_here n line ls next rest e =
    let step = bind_ok (after_heading n (words line)) (with_rest ls) (next, rest) e in
    let here = headed line n step.0 step.1 in
    let pair = ok_is (step.0, ls) (next, rest) step.2 in
    let first : step.0 ≡ next = ap (λ (p : ℕ × List (List ℕ)). p.0) pair in
    record {
      before = [];
      head = line;
      parts = ap (λ (p : ℕ × List (List ℕ)). line ∷ p.1) pair;
      wordless = tt;
      heading = here.heading;
      next_is = sym first ∙ here.next_is ∙ omega arith;
      few = omega (arith, here.within);
    }

found_later : (n : ℕ) (line : List ℕ) (ls : List (List ℕ)) (next : ℕ) (rest : List (List ℕ))
    → words line ≡ []
    → Found (n + 1) ls next rest
    → Found n (line ∷ ls) next rest
found_later n line ls next rest none found =
    record {
      before = line ∷ found.before;
      head = found.head;
      parts = ap (λ xs. line ∷ xs) found.parts;
      wordless = (none, found.wordless);
      heading = found.heading;
      next_is = omega (arith, found.next_is);
      few = omega (arith, found.few);
    }

-- what was found is a heading
pub heading_found : (n : ℕ) (ls : List (List ℕ)) (next : ℕ) (rest : List (List ℕ))
    → heading n ls ≡ Ok (next, rest)
    → Found n ls next rest
unfolding heading
heading_found n [] next rest e = absurd cc
heading_found n (line ∷ ls) next rest e =
    let choose : (b : Bool) → Result (ℕ × List (List ℕ)) TextFault = λ b. cond b
    (heading (n + 1) ls) (after_heading n (words line) >>= with_rest ls) in
    elim (cases_Bool (eqb (length (words line)) 0)) [
      | inl passes ↦ found_later n line ls next rest
          (nil_from_length (words line) (eqb-true _ _ passes))
          (heading_found (n + 1) ls next rest (sym (ap choose passes) ∙ e))
      | inr fails ↦ found_here n line ls next rest (sym (ap choose fails) ∙ e)
    ]

-- what is a heading is found
pub heading_finds : (n : ℕ) (before : List (List ℕ)) (head : List ℕ) (rest : List (List ℕ))
    → AllByRecursion IsWordless before
    → IsWideHeading head
    → n + length before ≤ limit_of_lines
    → heading n (before ++ head ∷ rest) ≡ Ok (n + length before + 1, rest)
unfolding heading
heading_finds n [] head rest none is few =
    let filled : eqb (length (words head)) 0 ≡ false = rw is.said refl in
    rw (filled, heads head n (omega arith) is) (ap (λ (k : ℕ). Ok (k, rest)) (omega arith))
heading_finds n (line ∷ before) head rest none is few =
    let blank : eqb (length (words line)) 0 ≡ true = rw none.0 refl in
    rw blank (heading_finds (n + 1) before head rest none.1 is (omega arith)
    ∙ ap (λ (k : ℕ). Ok (k, rest)) (omega arith))
