-- Step. What there is to draw of a wiring, before it is an answer. This profile's own choice.
use Rattle.std.specs.Prelude.{◌≡◌, Bool, ℕ, List, Option, Err}
use Rattle.mrc_wiring.specs.Table.{Table}
use Rattle.mrc_check.specs.Texts.{meaningless}
use Rattle.mrc_answer.specs.declared.graph.Found.{Found}
use Rattle.mrc_answer.specs.declared.graph.Found.TheVariants.{Facts, Underived, OtherCounts}
use Rattle.mrc_answer.specs.declared.graph.Found.TheVariants.{Meaningless, BadWord}
use Rattle.mrc_answer.specs.Listed.{AreChosen, AreDrawnOf, IsUndrawnIfGiven, IsOtherIfDrawn}
use Rattle.mrc_answer.specs.Listed.{draft_drawn, IsBadDrawing}

-- this is found of the words and of the bytes of a certificate
abbrev pub IsFound : (fact task : Option (List ℕ)) → Bool → (certificate : Option (List ℕ))
    → Table → Found → Type 0
IsFound fact task holds certificate table (Facts facts) =
    AreChosen (AreDrawnOf table certificate fact) task holds table facts
IsFound fact task holds certificate table (Underived f) = IsUndrawnIfGiven fact table f
IsFound fact task holds certificate table OtherCounts = IsOtherIfDrawn certificate fact table
IsFound fact task holds certificate table (Meaningless fault) =
    draft_drawn fact certificate ≡ Err (meaningless fault)
IsFound fact task holds certificate table (BadWord word) = IsBadDrawing fact task word table
