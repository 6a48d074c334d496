-- Worked examples of MIG files that are written.
use Rattle.std.proofs.Common.{◌≡◌, [], ◌∷◌, refl, false}
use Rattle.mrc_command.specs.declared.command.Strictness.TheVariants.{None as Each}
use Rattle.std.specs.Prelude.{Some, None, codes}
use Rattle.mrc_answer.specs.MigTexts.{same_name, are_written}

-- a name is what is behind the last slash, in whatever folder
one_name : same_name (codes "a/x.defs" ∷ codes "b/y.defs" ∷ codes "x.defs" ∷ [])
    ≡ Some (codes "x.defs")
one_name = refl

other_names : same_name (codes "a/x" ∷ codes "x/y" ∷ []) ≡ None
other_names = refl

-- of nothing nothing is written
nothing_read : are_written Each [] ≡ false
nothing_read = refl
