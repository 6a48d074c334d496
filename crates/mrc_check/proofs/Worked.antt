-- Worked examples: a wiring of two tasks, `loader` and `shell`, where line 5 trusts the loader.
-- Their values were found by hand.
use Rattle.std.proofs.Common.{◌≡◌, ◌<◌, ℕ, zero, suc, List, [], ◌∷◌, None, true, false, refl, arith}
use Rattle.std.specs.Prelude.{codes}
use Rattle.mrc_base.specs.declared.Fact.{Fact}
use Rattle.mrc_base.specs.declared.Fact.TheVariants.{Hold}
use Rattle.mrc_base.specs.declared.PortRight.TheVariants.{Send, SendOnce}
use Rattle.mrc_facts.specs.Sets.{has}
use Rattle.mrc_model.specs.declared.FirstLine.TheVariants.{Task as TaskLine}
use Rattle.mrc_model.specs.declared.Verb.TheVariants.{Takes, Gives}
use Rattle.mrc_wiring.specs.declared.table.TrustedLine.{TrustedLine}
use Rattle.mrc_wiring.specs.Births.{new_row}
use Rattle.mrc_wiring.specs.Table.{Table, wiring_of}
use Rattle.mrc_check.specs.Trusted.{may_rewrite, IsExposed}

-- classes 0 and 1 are the kernel ports of the loader and the shell, 2 and 3 their births
abbrev with_lines : List TrustedLine → Table
with_lines lines = record {
  names = codes "loader" ∷ codes "shell" ∷ [];
  births = new_row 0 0 ∷ new_row 1 0 ∷ [];
  ports = [];
  accepts = [];
  lines = TaskLine ∷ TaskLine ∷ [];
  admits = [];
  trusts = lines;
  fits = false;
  interfaces = [];
}

-- `trust loader takes none`
abbrev loader_takes : TrustedLine
loader_takes = record { line = 5; verb = Takes; task = 0; right = None }

-- `trust shell takes none` and `trust shell gives none`
abbrev shell_takes : TrustedLine
shell_takes = record { line = 6; verb = Takes; task = 1; right = None }

abbrev shell_gives : TrustedLine
shell_gives = record { line = 7; verb = Gives; task = 1; right = None }

-- each of the two holds the kernel port of the other, and its own
abbrev facts : List Fact
facts = Hold 0 0 Send ∷ Hold 0 1 Send ∷ Hold 1 0 Send ∷ Hold 1 1 Send ∷ []

-- no line limits the shell, so it may rewrite the loader, which does not rewrite itself
shell_example : may_rewrite (wiring_of (with_lines (loader_takes ∷ []))) (has facts) 0 1 ≡ true
shell_example = refl

itself_example : may_rewrite (wiring_of (with_lines (loader_takes ∷ []))) (has facts) 0 0 ≡ false
itself_example = refl

-- limited in one verb it still may; in both it may not
one_verb_example : may_rewrite (wiring_of (with_lines (loader_takes ∷ shell_gives ∷ [])))
    (has facts) 0 1
    ≡ true
one_verb_example = refl

bound_example : may_rewrite (wiring_of (with_lines (loader_takes ∷ shell_takes ∷ shell_gives ∷ [])))
    (has facts) 0 1
    ≡ false
bound_example = refl

-- a send-once right to the kernel port, or a send right to another port, is not enough
held_example : may_rewrite (wiring_of (with_lines (loader_takes ∷ [])))
    (has (Hold 1 0 SendOnce ∷ Hold 1 2 Send ∷ [])) 0 1
    ≡ false
held_example = refl

-- so line 5 is reported, with the hold of the loader's kernel port by the shell
exposed_example : IsExposed (with_lines (loader_takes ∷ [])) (has facts) 5 (Hold 1 0 Send)
exposed_example = record {
  before = [];
  line = loader_takes;
  behind = [];
  lines = refl;
  secure = λ line at. elim at [ ];
  number = refl;
  task = 1;
  first = record { there = omega arith; may = refl; first = before };
  fact = refl;
}
  where
    before : (v : ℕ) → v < 1
        → may_rewrite (wiring_of (with_lines (loader_takes ∷ []))) (has facts) 0 v ≡ false
    before zero low = refl
    before (suc v) low = absurd (omega arith)
