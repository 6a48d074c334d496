-- None so far: the first of those that are left is the first of all.
use Rattle.std.proofs.Common.{◌≡◌, drop, take, map}
use Rattle.mrc_answer.specs.MigTexts.{same_name_behind, same_name}
use Rattle.mrc_answer.proofs.mig.same_name.Given as goal

abbrev pub invariant-loop-place : goal.invariant-loop-place
invariant-loop-place l =
    same_name_behind (map (λ file. file.now) (take l.place l.files))
    (map (λ file. file.now) (drop l.place l.files))
    ≡ same_name (map (λ file. file.now) l.files)
