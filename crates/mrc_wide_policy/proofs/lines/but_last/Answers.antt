-- One word less.
use Rattle.std.proofs.Common.{map, take, ap, sym, ◌-◌, ◌∙◌, Bor, List, ℕ}
use Rattle.std.proofs.lemmas.List.{take-map, length-map}
use Rattle.mrc_wide_policy.proofs.lines.but_last.Goals as goal

pub returns : goal.returns
returns c =
    let words = c.args.words.now in
    sym (take-map (λ (w : Bor (List ℕ)). w.now) c.saturating_sub.result words)
    ∙ ap (λ (n : ℕ). take n (map (λ (w : Bor (List ℕ)). w.now) words))
    (c.saturating_sub.ensures
    ∙ ap (λ (n : ℕ). n - 1) (sym (length-map words (λ (w : Bor (List ℕ)). w.now))))
