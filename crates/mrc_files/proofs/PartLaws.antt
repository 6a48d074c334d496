-- A path's two parts, and how long the name of a part file is.
use Rattle.std.proofs.Common.{◌≡◌, ℕ, ◌+◌, ◌<◌, ◌≤◌, ◌^◌, ◌⊎◌, inl, inr, List, [], ◌∷◌, ◌++◌, length}
use Rattle.std.proofs.Common.{refl, ap, ap₂, ◌∙◌, arith, true}
use Rattle.std.specs.Prelude.{◌≢◌, codes, decimal}
use Rattle.std.specs.Path.{has_no_slash}
use Rattle.std.proofs.lemmas.List.{length-append}
use Rattle.std.proofs.lemmas.Fmt.{length-decimal-le}
use Rattle.std.proofs.lemmas.Bool.{cond-true, cond-false, cases_Bool}
use Rattle.std.proofs.lemmas.Bool.Decides.{leb_tells}
use Rattle.std.proofs.lemmas.Float.{T_from_true}
use Rattle.mrc_files.specs.Paths.{folder, name, shown, part_name}
use Rattle.mrc_files.specs.Paths.{EachPathIsInTwo, EachPartIsAnother}

join : (path : List ℕ) → folder path ++ name path ≡ path
join [] = refl
join (b ∷ path) =
    elim (cases_Bool (has_no_slash (b ∷ path))) [
      | inl has ↦ ap₂ ◌++◌ (cond-true _ _ _ has) (cond-true _ _ _ has)
      | inr lacks ↦ ap₂ ◌++◌ (cond-false _ _ _ lacks) (cond-false _ _ _ lacks) ∙ ap (λ rest. b ∷ rest) (join path)
    ]

plain : (path : List ℕ) → has_no_slash (name path) ≡ true
plain [] = refl
plain (b ∷ path) =
    elim (cases_Bool (has_no_slash (b ∷ path))) [
      | inl has ↦ ap has_no_slash (cond-true _ _ _ has) ∙ has
      | inr lacks ↦ ap has_no_slash (cond-false _ _ _ lacks) ∙ plain path
    ]

pub in_two : EachPathIsInTwo
in_two path = (join path, T_from_true _ (plain path))

-- how long the name of a part file is
part_len : (file : List ℕ) (number : ℕ)
    → length (part_name file number) ≡ 17 + length (shown file) + length (decimal number)
part_len file number =
    omega (
      arith,
      length-append (codes ".") (shown file ++ (codes ".machcheck-" ++ (decimal number ++ codes ".part"))),
      length-append (shown file) (codes ".machcheck-" ++ (decimal number ++ codes ".part")),
      length-append (codes ".machcheck-") (decimal number ++ codes ".part"),
      length-append (decimal number) (codes ".part"),
    )

-- it has the file's own name, or that is long
shown_cases : (file : List ℕ)
    → ((shown file ≡ file) × (length file ≤ 200)) ⊎ ((shown file ≡ []) × (200 < length file))
shown_cases file =
    elim (leb_tells (length file) 200) [
      | inl short ↦ inl (cond-true _ _ _ short.0, short.1)
      | inr long ↦ inr (cond-false _ _ _ long.0, long.1)
    ]

-- it is as long as a name may be, and not as long as the file's own
name_fits : (file : List ℕ) (number : ℕ) → number < 2 ^ 32
    → (length (part_name file number) ≤ 255) × (length (part_name file number) ≢ length file)
name_fits file number small =
    let digits : length (decimal number) ≤ 10 =
    length-decimal-le 10 number (omega arith) (omega (arith, small)) (omega (arith, small)) in
    let len = part_len file number in
    elim (shown_cases file) [
      | inl short ↦ (
        omega (arith, len, digits, ap length short.0, short.1),
        λ same. omega (arith, len, digits, ap length short.0, short.1, same),
      )
      | inr long ↦ (
        omega (arith, len, digits, ap length long.0, long.1),
        λ same. omega (arith, len, digits, ap length long.0, long.1, same),
      )
    ]

pub is_another : EachPartIsAnother
is_another path number small =
    let fits = name_fits (name path) number small in (
      λ same. fits.1 (omega (
        arith,
        ap length same,
        ap length (join path),
        length-append (folder path) (part_name (name path) number),
        length-append (folder path) (name path),
      )),
      fits.0,
    )
