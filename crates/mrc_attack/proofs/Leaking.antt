-- What a machine says of a script's end is whether the script breaks a line, and whether its text
-- leaks.
use Rattle.std.proofs.Common.{◌≡◌, ℕ, Bool, false, List, [], ◌∷◌, Result, Ok, Err, subst}
use Rattle.std.specs.Prelude.{◌↔◌, IfOk, IsTrue}
use Rattle.std.proofs.lemmas.Bool.{false≢true}
use Rattle.mrc_base.specs.declared.memory.OrMemory.{OrMemory}
use Rattle.mrc_base.specs.declared.memory.OrMemory.TheVariants.{Fault}
use Rattle.mrc_base.specs.Reading.{Gives}
use Rattle.mrc_model.specs.Breach.{Breach, Forbid}
use Rattle.mrc_model.specs.World.{World}
use Rattle.mrc_wiring.specs.Table.{Table, wiring_of}
use Rattle.mrc_wiring_text.specs.declared.faults.TextFault.{TextFault}
use Rattle.mrc_wiring_text.specs.declared.reading.Line.{Line}
use Rattle.mrc_report.specs.declared.script.TaskCall.{TaskCall}
use Rattle.mrc_report.specs.Scripts.{IsScript}
use Rattle.mrc_attack.specs.Leaks.{IsEnd, IsBreaking, IsLeak}
use Rattle.mrc_attack.proofs.Ends.{end_same}

-- the line is broken at the end
pub breaking_told : {E : Type 0} (table : Table) (line : Forbid) (says : List (Line TaskCall))
    (w : World) (r : Result Bool E)
    → IsEnd table says w
    → IfOk r (λ b. IsTrue b ↔ Breach (wiring_of table) w (line ∷ []))
    → IfOk r (λ b. IsTrue b ↔ IsBreaking table line says)
breaking_told table line says w (Ok b) end told = (
  λ is. record { world = w; end = end; breach = told.0 is },
  λ breaking. told.1 (subst (λ (v : World). Breach (wiring_of table) v (line ∷ []))
      (end_same table says breaking.world w breaking.end end) breaking.breach),
)
breaking_told table line says w (Err e) end told = tt

-- what every script of the text says was read
abbrev pub IsReadAs : (tasks : List (List ℕ)) (text : List ℕ)
    → Result (List (Line TaskCall)) (OrMemory TextFault) → Type 0
IsReadAs tasks text read =
    (says : List (Line TaskCall)) → IsScript false tasks text says
    → Gives (λ script. script) read (Ok says)

one_script : (says other : List (Line TaskCall))
    → Gives {F = TextFault} (λ script. script) (Ok says) (Ok other) → other ≡ says
one_script says other same = cc

-- the script that was read breaks the line
pub leak_told : {E : Type 0} (table : Table) (line : Forbid) (text : List ℕ)
    (says : List (Line TaskCall)) (r : Result Bool E)
    → IsScript false table.names text says
    → IsReadAs table.names text (Ok says)
    → IfOk r (λ b. IsTrue b ↔ IsBreaking table line says)
    → IfOk r (λ b. IsTrue b ↔ IsLeak table line text)
leak_told table line text says (Ok b) script only told = (
  λ is. record { says = says; is_script = script; breaking = told.0 is },
  λ leak. told.1 (subst (λ (ls : List (Line TaskCall)). IsBreaking table line ls)
      (one_script says leak.says (only leak.says leak.is_script)) leak.breaking),
)
leak_told table line text says (Err e) script only told = tt

-- a text that is refused leaks for no line
pub no_leak : (table : Table) (line : Forbid) (text : List ℕ) (fault : TextFault)
    → IsReadAs table.names text (Err (Fault fault)) → IsLeak table line text → ⊥
no_leak table line text fault only leak =
    let read = only leak.says leak.is_script in
    cc

pub refused_told : (table : Table) (line : Forbid) (text : List ℕ)
    (refusal : OrMemory TextFault) (fault : TextFault) → refusal ≡ Fault fault
    → IsReadAs table.names text (Err refusal) → IsTrue false ↔ IsLeak table line text
refused_told table line text refusal fault is only =
    let read = subst (λ (r : OrMemory TextFault). IsReadAs table.names text (Err r)) is only in (
      λ held. absurd (false≢true held),
      λ leak. absurd (no_leak table line text fault read leak),
    )
