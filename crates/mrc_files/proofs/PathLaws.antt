-- Paths and their two parts.
use Rattle.std.proofs.Common.{◌≡◌, ℕ, suc, ◌<◌, List, [], ◌∷◌, ◌++◌, length}
use Rattle.std.proofs.Common.{drop, get_or, refl, sym, ap, ap₂, ◌∙◌, arith, true, false}
use Rattle.std.specs.Prelude.{◌&&◌, not}
use Rattle.std.specs.Path.{slash, has_no_slash}
use Rattle.std.specs.Prelude.{Option, Some, None, MatchOption}
use Rattle.std.specs.Str.Pattern.{RFindsChar, SplitsAroundMatch}
use Rattle.std.proofs.Common.{Bor, eqb}
use Rattle.std.proofs.Math.Bool.{and-false}
use Rattle.std.proofs.lemmas.List.{take-append-drop}
use Rattle.std.proofs.lemmas.Bool.{cond-true, cond-false, ne_eqb}
use Rattle.std.proofs.lemmas.Str.Pattern.{NoCharPasses-char, drop_at_char}
use Rattle.mrc_files.specs.Paths.{folder, name}

-- a slash behind some bytes is a slash among them
has_slash : (before after : List ℕ) → has_no_slash (before ++ slash ∷ after) ≡ false
has_slash [] after = refl
has_slash (b ∷ before) after =
    ap (λ rest. not (eqb b slash) && rest) (has_slash before after) ∙ and-false (not (eqb b slash))

-- a path without a slash is its own name
pub plain_folder : (path : List ℕ) → has_no_slash path ≡ true → folder path ≡ []
plain_folder [] h = refl
plain_folder (b ∷ path) h = cond-true _ _ _ h

pub plain_name : (path : List ℕ) → has_no_slash path ≡ true → name path ≡ path
plain_name [] h = refl
plain_name (b ∷ path) h = cond-true _ _ _ h

-- a path with one is what stands up to it and a name behind it
pub folder_before : (before after : List ℕ) → has_no_slash after ≡ true
    → folder (before ++ slash ∷ after) ≡ before ++ slash ∷ []
folder_before [] after h = ap (λ rest. slash ∷ rest) (plain_folder after h)
folder_before (b ∷ before) after h =
    cond-false _ _ _ (has_slash (b ∷ before) after)
    ∙ ap (λ rest. b ∷ rest) (folder_before before after h)

pub name_behind : (before after : List ℕ) → has_no_slash after ≡ true
    → name (before ++ slash ∷ after) ≡ after
name_behind [] after h = plain_name after h
name_behind (b ∷ before) after h =
    cond-false _ _ _ (has_slash (b ∷ before) after) ∙ name_behind before after h

-- no byte at any place is a slash
none_at : (path : List ℕ) → ((i : ℕ) → i < length path → get_or path i 0 ≡ slash → ⊥)
    → has_no_slash path ≡ true
none_at [] h = refl
none_at (b ∷ path) h =
    let first : eqb b slash ≡ false = ne_eqb b slash (h 0 (omega arith)) in
    ap (λ is. not is && has_no_slash path) first
    ∙ none_at path (λ i less. h (suc i) (omega (arith, less)))

-- what a search for the last slash has found
abbrev pub Sides : Type 0
Sides = Option (Bor (List ℕ) × Bor (List ℕ))

-- a path by the sides of its last slash
pub sides_of : (path : List ℕ) (sides : Sides)
    → MatchOption sides (RFindsChar 47 path None)
    (λ x. SplitsAroundMatch (RFindsChar 47) path x.0.now x.1.now)
    → MatchOption sides (has_no_slash path ≡ true)
    (λ x. (has_no_slash x.1.now ≡ true) × (path ≡ x.0.now ++ slash ∷ x.1.now))
sides_of path None h = none_at path (λ i. NoCharPasses-char 47 path i h (omega arith))
sides_of path (Some x) h =
    let low : 47 < 128 = omega arith in
    let no_later : has_no_slash (drop h.1 path) ≡ true = none_at (drop h.1 path)
    (λ i less. NoCharPasses-char 47 (drop h.1 path) i h.2.0 low less) in
    let rest : drop h.0 path ≡ slash ∷ x.1.now =
    drop_at_char 47 path h.0 h.1 h.2.1 low ∙ ap (λ l. slash ∷ l) (sym h.4) in
    (ap has_no_slash h.4 ∙ no_later, sym (take-append-drop h.0 path) ∙ ap₂ ◌++◌ (sym h.3) rest)

-- its folder and its name by these sides
abbrev pub folder_by : Sides → List ℕ
folder_by None = []
folder_by (Some x) = x.0.now ++ slash ∷ []

abbrev pub name_by : List ℕ → Sides → List ℕ
name_by path None = path
name_by path (Some x) = x.1.now

pub folder_is : (path : List ℕ) (sides : Sides)
    → MatchOption sides (RFindsChar 47 path None)
    (λ x. SplitsAroundMatch (RFindsChar 47) path x.0.now x.1.now)
    → folder_by sides ≡ folder path
folder_is path None h = sym (plain_folder path (sides_of path None h))
folder_is path (Some x) h =
    let parts = sides_of path (Some x) h in
    sym (ap folder parts.1 ∙ folder_before x.0.now x.1.now parts.0)

pub name_is : (path : List ℕ) (sides : Sides)
    → MatchOption sides (RFindsChar 47 path None)
    (λ x. SplitsAroundMatch (RFindsChar 47) path x.0.now x.1.now)
    → name_by path sides ≡ name path
name_is path None h = sym (plain_name path (sides_of path None h))
name_is path (Some x) h =
    let parts = sides_of path (Some x) h in
    sym (ap name parts.1 ∙ name_behind x.0.now x.1.now parts.0)
