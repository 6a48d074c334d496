-- Parts of a line.
use Rattle.std.proofs.Common.{◌≡◌, ℕ, ◌-◌, ◌<◌, List, ◌++◌, length, Some}
use Rattle.std.proofs.Common.{sym, ap, ◌∙◌}
use Rattle.std.specs.Prelude.{slice_get}
use Rattle.std.proofs.lemmas.List.{append_assoc}
use Rattle.std.proofs.lemmas.Option.{slice_get_within}
use Rattle.mrc_wiring_text.specs.Lexis.{lines}

pub narrowed_parts : (before word after front rest part behind nb nw na : List ℕ)
    → front ++ rest ≡ word
    → part ++ behind ≡ rest
    → nb ≡ before ++ front
    → nw ≡ part
    → na ≡ behind ++ after
    → nb ++ (nw ++ na) ≡ before ++ (word ++ after)
narrowed_parts before word after front rest part behind nb nw na whole inner be we ae =
    ap (λ s. s ++ (nw ++ na)) be
    ∙ ap (λ s. (before ++ front) ++ (s ++ na)) we
    ∙ ap (λ s. (before ++ front) ++ (part ++ s)) ae
    ∙ append_assoc before front (part ++ (behind ++ after))
    ∙ ap (λ s. before ++ (front ++ s)) (sym (append_assoc part behind after)
    ∙ ap (λ s. s ++ after) inner)
    ∙ ap (λ s. before ++ s) (sym (append_assoc front rest after) ∙ ap (λ s. s ++ after) whole)

pub line_found : (text : List ℕ) (line : ℕ) (whole : List ℕ)
    → slice_get (lines text) (line - 1) ≡ Some whole
    → line - 1 < length (lines text)
line_found text line whole found = slice_get_within (lines text) (line - 1) whole found
