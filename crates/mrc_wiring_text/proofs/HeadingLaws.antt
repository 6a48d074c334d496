-- What was found as a heading is one, and what is one is found.
use Rattle.std.proofs.Common.{◌≡◌, ℕ, ◌+◌, ◌≤◌, Bool, true, false, cond, eqb, ltb, ◌&&◌, List, []}
use Rattle.std.proofs.Common.{◌∷◌, ◌++◌, length, Option, Some, None, Result, Ok, refl, sym, ap}
use Rattle.std.proofs.Common.{◌∙◌, inl, inr, arith, subst}
use Rattle.std.specs.Prelude.{bytes_eq, IsTrue}
use Rattle.std.specs.List.{AllByRecursion}
use Rattle.std.proofs.lemmas.Bool.{cases_Bool, and_parts, eqb-true, ltb-false, le-ltb}
use Rattle.std.proofs.lemmas.List.{nil_from_length}
use Rattle.std.proofs.lemmas.Option.{none-some, same_Some}
use Rattle.std.proofs.lemmas.Slice.Eq.{bytes_eq-Decides}
use Rattle.mrc_base.specs.Reading.{◌>>=◌}
use Rattle.mrc_base.proofs.Steps.{bind_ok, not_stopped, ok_is, err_is_ok}
use Rattle.mrc_wiring_text.specs.declared.faults.TextFault.{TextFault}
use Rattle.mrc_wiring_text.specs.declared.faults.TextFault.TheVariants.{Version}
use Rattle.mrc_base.specs.Limits.{limit_of_lines}
use Rattle.mrc_wiring_text.specs.Lexis.{words, decimal}
use Rattle.mrc_wiring_text.specs.declared.reading.Edition.{Edition}
use Rattle.mrc_wiring_text.specs.declared.reading.TextKind.{TextKind}
use Rattle.mrc_wiring_text.specs.declared.reading.Edition.TheVariants.{First, Second, Third}
use Rattle.mrc_wiring_text.specs.declared.reading.TextKind.TheVariants.{Wiring, Policy}
use Rattle.mrc_wiring_text.specs.Kinds.{is_number}
use Rattle.mrc_wiring_text.specs.Reading.{too_far, edition_number, edition_of, version_of, behind}
use Rattle.mrc_wiring_text.specs.Reading.{after_version, after_heading, heading}
use Rattle.mrc_wiring_text.specs.Reading.{text_word, has_edition, third_of}
use Rattle.mrc_wiring_text.specs.Texts.{IsWordless, IsHeading}
use Rattle.mrc_wiring_text.proofs.ItemLaws.{chosen, either}

-- the words of a line whose version is 1
record Names (kind : TextKind) (ws : List (List ℕ)) (v : ℕ) : Type 0 where
  number : List ℕ
  said : ws ≡ text_word kind ∷ number ∷ []
  digits : is_number number ≡ true
  value : decimal number ≡ v

names_version : (kind : TextKind) (said : List (List ℕ)) (v : ℕ)
    → version_of kind said ≡ Some v
    → Names kind said v
unfolding version_of
names_version kind [] v e = absurd cc
names_version kind (w ∷ []) v e = absurd cc
names_version kind (w ∷ number ∷ []) v e =
    elim (cases_Bool (bytes_eq w (text_word kind) && is_number number)) [
      | inl passes ↦
          let parts = and_parts (bytes_eq w (text_word kind)) (is_number number) passes in
          record {
            number = number;
            said = ap (λ k. k ∷ number ∷ []) ((bytes_eq-Decides w (text_word kind)).0 parts.0);
            digits = parts.1;
            value = same_Some _ _ (sym (ap (λ b. cond b (Some (decimal number)) None) passes) ∙ e);
          }
      | inr fails ↦ absurd (none-some v (sym (ap (λ b. cond b (Some (decimal number)) None) fails)
          ∙ e))
    ]
names_version kind (w ∷ number ∷ z ∷ zs) v e = absurd cc

version_named : (kind : TextKind) (ws : List (List ℕ)) (v : ℕ)
    → Names kind ws v
    → version_of kind ws ≡ Some v
unfolding version_of
version_named kind ws v named =
    let same : bytes_eq (text_word kind) (text_word kind) ≡ true =
    (bytes_eq-Decides (text_word kind) (text_word kind)).1 refl in
    ap (version_of kind) named.said ∙ rw (same, named.digits, named.value) refl

-- a line that is taken for a heading
record Headed (kind : TextKind) (line : List ℕ) (n : ℕ) (next : Edition × ℕ) : Type 0 where
  within : n ≤ limit_of_lines
  heading : IsHeading kind next.0 line
  next_is : next.1 ≡ n + 1

-- the edition of a version has that version, and there are texts of the kind in it

abbrev IsEditionOf : TextKind → ℕ → Edition → Type 0
IsEditionOf kind version edition =
    (version ≡ edition_number edition) × IsTrue (has_edition kind edition)

third_is : (kind : TextKind) (edition : Edition) → third_of kind ≡ Some edition
    → IsEditionOf kind 3 edition
third_is Wiring edition e = subst (IsEditionOf Wiring 3) (same_Some _ _ e) (refl, refl)
third_is Policy edition e = absurd (none-some edition e)

edition_is : (kind : TextKind) (version : ℕ) (edition : Edition)
    → edition_of kind version ≡ Some edition
    → IsEditionOf kind version edition
edition_is kind version edition e =
    let third : Option Edition = cond (eqb version 3) (third_of kind) None in
    let second : Option Edition = cond (eqb version 2) (Some Second) third in
    elim (either (eqb version 1) (Some First) second edition e) [
      | inl c ↦ subst (IsEditionOf kind version) (same_Some _ _ c.1) (eqb-true version 1 c.0, refl)
      | inr c ↦
          elim (either (eqb version 2) (Some Second) third edition c.1) [
            | inl d ↦ subst (IsEditionOf kind version) (same_Some _ _ d.1)
                (eqb-true version 2 d.0, refl)
            | inr d ↦
                let t = chosen (eqb version 3) (third_of kind) edition d.1 in
                let is = third_is kind edition t.1 in
                (eqb-true version 3 t.0 ∙ is.0, is.1)
          ]
    ]

behind_is : (n : ℕ) (o : Option Edition) (next : Edition × ℕ)
    → behind n o ≡ Ok next
    → (edition : Edition) × (o ≡ Some edition) × ((edition, n + 1) ≡ next)
behind_is n None next e = err_is_ok Version next e
behind_is n (Some edition) next e = (edition, refl, ok_is _ _ e)

headed_by : (kind : TextKind) (line : List ℕ) (n : ℕ) (v : Option ℕ) (next : Edition × ℕ)
    → n ≤ limit_of_lines
    → version_of kind (words line) ≡ v
    → after_version kind n v ≡ Ok next
    → Headed kind line n next
headed_by kind line n None next within named e = absurd cc
headed_by kind line n (Some v) next within named e =
    let names = names_version kind (words line) v named in
    let found = behind_is n (edition_of kind v) next e in
    let is = edition_is kind v found.0 found.1 in
    subst (λ (x : Edition × ℕ). Headed kind line n x) found.2 record {
      within = within;
      heading = record {
        number = names.number;
        said = names.said;
        digits = names.digits;
        value = names.value ∙ is.0;
        has = is.1;
      };
      next_is = refl;
    }

headed : (kind : TextKind) (line : List ℕ) (n : ℕ) (next : Edition × ℕ)
    → after_heading kind n (words line) ≡ Ok next
    → Headed kind line n next
unfolding after_heading
headed kind line n next e =
    let g = not_stopped (ltb limit_of_lines n) too_far
    (after_version kind n (version_of kind (words line))) next e in
    headed_by kind line n (version_of kind (words line)) next (ltb-false _ _ g.0) refl g.1

edition_again : (kind : TextKind) (n : ℕ) (edition : Edition)
    → IsTrue (has_edition kind edition)
    → after_version kind n (Some (edition_number edition)) ≡ Ok (edition, n + 1)
edition_again kind n First has = refl
edition_again kind n Second has = refl
edition_again Wiring n Third has = refl
edition_again Policy n Third has = absurd cc

heads : (kind : TextKind) (line : List ℕ) (n : ℕ) (edition : Edition)
    → n ≤ limit_of_lines
    → IsHeading kind edition line
    → after_heading kind n (words line) ≡ Ok (edition, n + 1)
unfolding after_heading
heads kind line n edition within is =
    let named = version_named kind (words line) (decimal is.number)
    (record { number = is.number; said = is.said; digits = is.digits; value = refl }) in
    rw (le-ltb limit_of_lines n within, named, is.value) (edition_again kind n edition is.has)

-- the lines before a heading, and the heading
pub record Found (kind : TextKind) (n : ℕ) (ls : List (List ℕ)) (next : Edition × ℕ)
    (rest : List (List ℕ)) : Type 0 where
  pub before : List (List ℕ)
  pub head : List ℕ
  pub parts : ls ≡ before ++ head ∷ rest
  pub wordless : AllByRecursion IsWordless before
  pub heading : IsHeading kind next.0 head
  pub next_is : next.1 ≡ n + length before + 1
  pub few : n + length before ≤ limit_of_lines

abbrev with_rest : List (List ℕ) → Edition × ℕ
    → Result ((Edition × ℕ) × List (List ℕ)) TextFault
with_rest rest m = Ok (m, rest)

found_here : (kind : TextKind) (n : ℕ) (line : List ℕ) (ls : List (List ℕ)) (next : Edition × ℕ)
    (rest : List (List ℕ))
    → (after_heading kind n (words line) >>= with_rest ls) ≡ Ok (next, rest)
    → Found kind n (line ∷ ls) next rest
found_here kind n line ls next rest e =
    let step = bind_ok (after_heading kind n (words line)) (with_rest ls) (next, rest) e in
    let here = headed kind line n step.0 step.1 in
    let pair = ok_is (step.0, ls) (next, rest) step.2 in
    let first : step.0 ≡ next = ap (λ (p : (Edition × ℕ) × List (List ℕ)). p.0) pair in
    record {
      before = [];
      head = line;
      parts = ap (λ (p : (Edition × ℕ) × List (List ℕ)). line ∷ p.1) pair;
      wordless = tt;
      heading = subst (λ (x : Edition × ℕ). IsHeading kind x.0 line) first here.heading;
      next_is = sym (ap (λ (x : Edition × ℕ). x.1) first) ∙ here.next_is ∙ omega arith;
      few = omega (arith, here.within);
    }

found_later : (kind : TextKind) (n : ℕ) (line : List ℕ) (ls : List (List ℕ)) (next : Edition × ℕ)
    (rest : List (List ℕ))
    → words line ≡ []
    → Found kind (n + 1) ls next rest
    → Found kind n (line ∷ ls) next rest
found_later kind n line ls next rest none found =
    record {
      before = line ∷ found.before;
      head = found.head;
      parts = ap (λ xs. line ∷ xs) found.parts;
      wordless = (none, found.wordless);
      heading = found.heading;
      next_is = omega (arith, found.next_is);
      few = omega (arith, found.few);
    }

-- what was found is a heading
pub heading_found : (kind : TextKind) (n : ℕ) (ls : List (List ℕ)) (next : Edition × ℕ)
    (rest : List (List ℕ))
    → heading kind n ls ≡ Ok (next, rest)
    → Found kind n ls next rest
unfolding heading
heading_found kind n [] next rest e = absurd cc
heading_found kind n (line ∷ ls) next rest e =
    let choose : (b : Bool) → Result ((Edition × ℕ) × List (List ℕ)) TextFault = λ b. cond b
    (heading kind (n + 1) ls) (after_heading kind n (words line) >>= with_rest ls) in
    elim (cases_Bool (eqb (length (words line)) 0)) [
      | inl passes ↦ found_later kind n line ls next rest
          (nil_from_length (words line) (eqb-true _ _ passes))
          (heading_found kind (n + 1) ls next rest (sym (ap choose passes) ∙ e))
      | inr fails ↦ found_here kind n line ls next rest (sym (ap choose fails) ∙ e)
    ]

-- what is a heading is found
pub heading_finds : (kind : TextKind) (n : ℕ) (edition : Edition) (before : List (List ℕ))
    (head : List ℕ) (rest : List (List ℕ))
    → AllByRecursion IsWordless before
    → IsHeading kind edition head
    → n + length before ≤ limit_of_lines
    → heading kind n (before ++ head ∷ rest) ≡ Ok ((edition, n + length before + 1), rest)
unfolding heading
heading_finds kind n edition [] head rest none is few =
    let filled : eqb (length (words head)) 0 ≡ false = rw is.said refl in
    rw (filled, heads kind head n edition (omega arith) is)
    (ap (λ (k : ℕ). Ok ((edition, k), rest)) (omega arith))
heading_finds kind n edition (line ∷ before) head rest none is few =
    let blank : eqb (length (words line)) 0 ≡ true = rw none.0 refl in
    rw blank (heading_finds kind (n + 1) edition before head rest none.1 is (omega arith)
    ∙ ap (λ (k : ℕ). Ok ((edition, k), rest)) (omega arith))
