-- The texts so far are texts of edition 2.
use Rattle.std.proofs.Common.{◌≡◌, take, map}
use Rattle.std.specs.List.{AllZip}
use Rattle.mrc_answer.specs.MigTexts.{IsMigTextOf}
use Rattle.mrc_answer.proofs.mig_texts.mig_texts_of.Given as goal

abbrev pub invariant-loop-place : goal.invariant-loop-place
invariant-loop-place l = record {
  named : map (λ mig_text. mig_text.file.now) l.mig_texts.items ≡ map (λ file. file.now) (take l.place l.files);
  are : AllZip (IsMigTextOf l.received) (map (λ text. text.items) (take l.place l.texts))
      l.mig_texts.items;
}
