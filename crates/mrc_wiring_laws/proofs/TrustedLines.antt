-- The table has what lines say of trusted tasks and of reply ports: line by line.
use Rattle.std.proofs.Common.{◌≡◌, inl, inr, ℕ, true, false, List, [], ◌∷◌, ◌++◌, length}
use Rattle.std.proofs.Common.{Option, Some, None, Bool, refl, ap, sym, subst, ◌∙◌, arith}
use Rattle.std.specs.Prelude.{slice_get}
use Rattle.std.proofs.lemmas.Bool.{false≢true}
use Rattle.std.proofs.lemmas.List.{length-append}
use Rattle.std.proofs.lemmas.Option.{none-some, slice_get_within}
use Rattle.mrc_base.specs.declared.PortRight.{PortRight}
use Rattle.mrc_base.proofs.Lists.{filter_push, filter_skip}
use Rattle.mrc_model.specs.IsIn.{here}
use Rattle.mrc_model.proofs.FirstHeld.{in_one}
use Rattle.mrc_model.proofs.Members.{in_left, in_right, in_append, in_get}
use Rattle.mrc_wiring_text.specs.declared.reading.Line.{Line}
use Rattle.mrc_wiring_text.specs.declared.trust.TrustedRight.{TrustedRight}
use Rattle.mrc_wiring_text.specs.declared.wiring.WiringSays.{WiringSays}
use Rattle.mrc_wiring_text.specs.declared.wiring.WiringSays.TheVariants.{RepliesFit}
use Rattle.mrc_wiring.specs.declared.names.NumberedClass.{NumberedClass}
use Rattle.mrc_wiring.specs.declared.table.NumberedRight.{NumberedRight}
use Rattle.mrc_wiring.specs.declared.table.TrustedLine.{TrustedLine}
use Rattle.mrc_wiring.specs.Table.{Table}
use Rattle.mrc_wiring.specs.Resolving.{empty_table, with_trust, with_fit}
use Rattle.mrc_forms.specs.Tables.{Table as Interface}
use Rattle.mrc_wiring_laws.specs.TrustedLines.{is_trust, trust_lines, IsRightOf, IsTrustOf}
use Rattle.mrc_wiring_laws.specs.TrustedLines.{AreTrustsOf, HasFitLine, FitsOf}
use Rattle.mrc_wiring_laws.proofs.GivenRows.{snoc_get}
use Rattle.mrc_wiring_laws.proofs.GivenLines.{IsGrown, same_grown, class_said_kept}

-- what the lines so far say
pub record AreTrusted (table : Table) (lines : List (Line WiringSays)) : Type 0 where
  pub trusts : AreTrustsOf table lines
  pub fits : FitsOf table lines

-- ---- trust lines

-- a right on a class
abbrev pub right_with : PortRight → NumberedClass → NumberedRight
right_with right class = record { right = right; class = class }

right_kept : (table u : Table) (said : Option TrustedRight) (right : Option NumberedRight)
    → IsGrown table u
    → IsRightOf table said right
    → IsRightOf u said right
right_kept table u None right grown is = is
right_kept table u (Some on) right grown is =
    (is.0, is.1, class_said_kept table u on.class is.0 grown is.2)

trust_kept : (table u : Table) (line : Line WiringSays) (trusted : TrustedLine)
    → IsGrown table u
    → IsTrustOf table line trusted
    → IsTrustOf u line trusted
trust_kept table u line trusted grown is = record {
  task = is.task;
  word = is.word;
  right = is.right;
  says = is.says;
  line_is = is.line_is;
  verb_is = is.verb_is;
  task_is = grown.names_kept is.task trusted.task is.task_is;
  right_is = right_kept table u is.right trusted.right grown is.right_is;
}

trusts_quiet : (table u : Table) (lines : List (Line WiringSays)) (line : Line WiringSays)
    → IsGrown table u
    → is_trust line.says ≡ false
    → table.trusts ≡ u.trusts
    → AreTrustsOf table lines
    → AreTrustsOf u (lines ++ line ∷ [])
trusts_quiet table u lines line grown quiet same are =
    let no_more : trust_lines (lines ++ line ∷ []) ≡ trust_lines lines =
    filter_skip (λ (l : Line WiringSays). is_trust l.says) lines line quiet in
    record {
      many = ap (λ (xs : List TrustedLine). length xs) (sym same) ∙ are.many
          ∙ ap (λ (xs : List (Line WiringSays)). length xs) (sym no_more);
      each = λ i one trusted first second. trust_kept table u one trusted grown
          (are.each i one trusted
          (ap (λ (xs : List (Line WiringSays)). slice_get xs i) (sym no_more) ∙ first)
          (ap (λ (xs : List TrustedLine). slice_get xs i) same ∙ second));
    }

each_more : (table : Table) (lines : List (Line WiringSays)) (line : Line WiringSays)
    (trusted : TrustedLine)
    → IsTrustOf table line trusted
    → AreTrustsOf table lines
    → (i : ℕ) (one : Line WiringSays) (new : TrustedLine)
    → slice_get (trust_lines lines ++ line ∷ []) i ≡ Some one
    → slice_get (table.trusts ++ trusted ∷ []) i ≡ Some new
    → IsTrustOf (with_trust table trusted) one new
each_more table lines line trusted is are i one new first second =
    elim (snoc_get (trust_lines lines) line i one first) [
      | inl early ↦ elim (snoc_get table.trusts trusted i new second) [
        | inl before ↦ trust_kept table u one new grown (are.each i one new early before)
        | inr end ↦
            let low = slice_get_within (trust_lines lines) i one early in
            let at = end.0 in
            absurd (omega (arith, are.many))
      ]
      | inr last ↦ elim (snoc_get table.trusts trusted i new second) [
        | inl before ↦
            let low = slice_get_within table.trusts i new before in
            let at = last.0 in
            absurd (omega (arith, are.many))
        | inr end ↦ subst (λ (l : Line WiringSays). IsTrustOf u l new) last.1
            (subst (λ (t : TrustedLine). IsTrustOf u line t) end.1
            (trust_kept table u line trusted grown is))
      ]
    ]
  where
    u : Table
    u = with_trust table trusted

    grown : IsGrown table u
    grown = same_grown table u refl refl refl refl

trusts_more : (table : Table) (lines : List (Line WiringSays)) (line : Line WiringSays)
    (trusted : TrustedLine)
    → is_trust line.says ≡ true
    → IsTrustOf table line trusted
    → AreTrustsOf table lines
    → AreTrustsOf (with_trust table trusted) (lines ++ line ∷ [])
trusts_more table lines line trusted verb is are =
    let more : trust_lines (lines ++ line ∷ []) ≡ trust_lines lines ++ line ∷ [] =
    filter_push (λ (l : Line WiringSays). is_trust l.says) lines line verb in
    let one_line = length-append (trust_lines lines) (line ∷ []) in
    let one_row = length-append table.trusts (trusted ∷ []) in
    let before = are.many in
    let long = ap (λ (xs : List (Line WiringSays)). length xs) more in
    record {
      many = omega (arith, one_line, one_row, before, long);
      each = λ i one new first second. each_more table lines line trusted is are i one new
          (ap (λ (xs : List (Line WiringSays)). slice_get xs i) (sym more) ∙ first) second;
    }

-- ---- replies fit

-- a `replies fit` line
abbrev pub is_fit : WiringSays → Bool
is_fit RepliesFit = true
is_fit other = false

-- a line of another verb is not
not_fit : (line one : Line WiringSays)
    → is_fit line.says ≡ false
    → line ≡ one
    → one.says ≡ RepliesFit
    → ⊥
not_fit line one quiet same says =
    false≢true (sym quiet ∙ ap (λ (l : Line WiringSays). is_fit l.says) same ∙ ap is_fit says)

fit_line_kept : (lines : List (Line WiringSays)) (line : Line WiringSays)
    → HasFitLine lines
    → HasFitLine (lines ++ line ∷ [])
fit_line_kept lines line has = (has.0, in_left has.0 lines (line ∷ []) has.1, has.2)

fit_line_early : (lines : List (Line WiringSays)) (line : Line WiringSays)
    → is_fit line.says ≡ false
    → HasFitLine (lines ++ line ∷ [])
    → HasFitLine lines
fit_line_early lines line quiet has =
    elim (in_append has.0 lines (line ∷ []) has.1) [
      | inl early ↦ (has.0, early, has.2)
      | inr last ↦ absurd (not_fit line has.0 quiet (sym (in_one has.0 line last)) has.2)
    ]

fits_quiet : (table u : Table) (lines : List (Line WiringSays)) (line : Line WiringSays)
    → is_fit line.says ≡ false
    → table.fits ≡ u.fits
    → FitsOf table lines
    → FitsOf u (lines ++ line ∷ [])
fits_quiet table u lines line quiet same fits = record {
  said = (
    λ e. fit_line_kept lines line (fits.said.0 (same ∙ e)),
    λ has. sym same ∙ fits.said.1 (fit_line_early lines line quiet has),
  );
  once = λ i j one other first second says also. elim (snoc_get lines line i one first) [
    | inr last ↦ absurd (not_fit line one quiet last.1 says)
    | inl early ↦ elim (snoc_get lines line j other second) [
      | inr end ↦ absurd (not_fit line other quiet end.1 also)
      | inl before ↦ fits.once i j one other early before says also
    ]
  ];
}

-- no line before says it if reply ports need not fit yet
no_fit : (table : Table) (lines : List (Line WiringSays)) (i : ℕ) (one : Line WiringSays)
    → table.fits ≡ false
    → FitsOf table lines
    → slice_get lines i ≡ Some one
    → one.says ≡ RepliesFit
    → ⊥
no_fit table lines i one new fits at says =
    false≢true (sym new ∙ fits.said.1 (one, in_get lines i one at, says))

fits_more : (table : Table) (lines : List (Line WiringSays)) (line : Line WiringSays)
    → line.says ≡ RepliesFit
    → table.fits ≡ false
    → FitsOf table lines
    → FitsOf (with_fit table) (lines ++ line ∷ [])
fits_more table lines line verb new fits = record {
  said = (λ e. (line, in_right line lines (line ∷ []) here, verb), λ has. refl);
  once = λ i j one other first second says also. elim (snoc_get lines line i one first) [
    | inl early ↦ absurd (no_fit table lines i one new fits early says)
    | inr last ↦ elim (snoc_get lines line j other second) [
      | inl before ↦ absurd (no_fit table lines j other new fits before also)
      | inr end ↦ last.0 ∙ sym end.0
    ]
  ];
}

-- ---- both

-- a line of another verb adds nothing
pub trusted_quiet : (table u : Table) (lines : List (Line WiringSays)) (line : Line WiringSays)
    → IsGrown table u
    → is_trust line.says ≡ false
    → is_fit line.says ≡ false
    → table.trusts ≡ u.trusts
    → table.fits ≡ u.fits
    → AreTrusted table lines
    → AreTrusted u (lines ++ line ∷ [])
trusted_quiet table u lines line grown no_trust no_fit trusts fits are = record {
  trusts = trusts_quiet table u lines line grown no_trust trusts are.trusts;
  fits = fits_quiet table u lines line no_fit fits are.fits;
}

-- no `trust` line is `replies fit`
trust_no_fit : (says : WiringSays) → is_trust says ≡ true → is_fit says ≡ false
trust_no_fit RepliesFit e = absurd (false≢true e)
trust_no_fit other e = refl

pub trusted_more : (table : Table) (lines : List (Line WiringSays)) (line : Line WiringSays)
    (trusted : TrustedLine)
    → is_trust line.says ≡ true
    → IsTrustOf table line trusted
    → AreTrusted table lines
    → AreTrusted (with_trust table trusted) (lines ++ line ∷ [])
trusted_more table lines line trusted verb is are = record {
  trusts = trusts_more table lines line trusted verb is are.trusts;
  fits = fits_quiet table (with_trust table trusted) lines line (trust_no_fit line.says verb) refl
      are.fits;
}

pub fit_more : (table : Table) (lines : List (Line WiringSays)) (line : Line WiringSays)
    → line.says ≡ RepliesFit
    → table.fits ≡ false
    → AreTrusted table lines
    → AreTrusted (with_fit table) (lines ++ line ∷ [])
fit_more table lines line verb new are = record {
  trusts = trusts_quiet table (with_fit table) lines line
      (same_grown table (with_fit table) refl refl refl refl) (ap is_trust verb) refl are.trusts;
  fits = fits_more table lines line verb new are.fits;
}

-- no line, and nothing said
pub none_trusted : (interfaces : List Interface) → AreTrusted (empty_table interfaces) []
none_trusted interfaces = record {
  trusts = record {
    many = refl;
    each = λ i line trusted first second. absurd (none-some line first);
  };
  fits = record {
    said = (λ e. absurd (false≢true e), λ has. elim has.1 [ ]);
    once = λ i j one other first second says also. absurd (none-some one first);
  };
}
