use Rattle.std.proofs.Common.{◌≡◌, map, take, flat_map, List, ℕ, Bor}
use Rattle.mrc_mend.specs.Texts.{behind_blank}
use Rattle.mrc_mend.proofs.printing.behind_blanks.Given as goal

abbrev pub invariant-loop-word : goal.invariant-loop-word
invariant-loop-word l =
    l.text.items ≡ flat_map behind_blank
    (map (λ (w : Bor (List ℕ)). w.now) (take l.word-index l.word-items))
