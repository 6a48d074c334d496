-- Believe. What the bytes of all files mean, stage by stage, and which one's fault is reported.
-- What MIG files, a wiring, a policy and a certificate mean together, stage by stage, from their
-- bytes; of which the first has no meaning; and the first reason if the answer is no. This
-- profile's own choice.
use Rattle.std.specs.Prelude.{◌≡◌, ℕ, Bool, List, Result, Ok, Err, Option, Some, None, slice_get}
use Rattle.mrc_base.specs.declared.memory.OrMemory.{OrMemory}
use Rattle.mrc_base.specs.Reading.{◌>>=◌, UnlessMemory}
use Rattle.mrc_forms.specs.Tables.{Table as Interface}
use Rattle.mrc_interface.specs.Reading.{AreInterfaces, Refused as RefusedFile, refused_of}
use Rattle.mrc_interface.specs.Reading.{interfaces_of, step}
use Rattle.mrc_wiring_text.specs.declared.reading.Edition.{Edition}
use Rattle.mrc_wiring_text.specs.declared.reading.Line.{Line}
use Rattle.mrc_wiring_text.specs.declared.faults.TextFault.{TextFault}
use Rattle.mrc_wiring_text.specs.declared.wiring.WiringSays.{WiringSays}
use Rattle.mrc_stand_for.specs.declared.known.Known.{Known}
use Rattle.mrc_wide_text.specs.Wirings.{Said, Says, said_of}
use Rattle.mrc_wide_policy.specs.declared.facts.PolicyStands.{PolicyStands}
use Rattle.mrc_wide_policy.specs.declared.policies.PolicyRefusal.{PolicyRefusal}
use Rattle.mrc_wide_policy.specs.declared.policies.PolicyRefusal.TheVariants as refusal
use Rattle.mrc_wide_policy.specs.Asked.{asked_by}
use Rattle.mrc_wide_policy.specs.Policies.{StandFor, stands_of}
use Rattle.mrc_wiring.specs.Table.{Table}
use Rattle.mrc_wiring.specs.declared.faults.ResolveFault.{ResolveFault}
use Rattle.mrc_wiring.specs.declared.faults.ResolveFault.TheVariants.{TooManyNames}
use Rattle.mrc_wiring.specs.Resolving.{resolved, task_names}
use Rattle.mrc_wiring.specs.Claims.{Claimed}
use Rattle.mrc_certificate.specs.declared.fault.DraftFault.{DraftFault}
use Rattle.mrc_certificate.specs.Spelling.{Spells, content}
use Rattle.mrc_certificate.specs.Reading.{draft_from}
use Rattle.mrc_check.specs.declared.demands.Demand.{Demand}
use Rattle.mrc_check.specs.declared.faults.WiringFault.{WiringFault}
use Rattle.mrc_check.specs.declared.faults.WiringFault.TheVariants as wiring_fault
use Rattle.mrc_check.specs.declared.faults.PolicyFault.{PolicyFault}
use Rattle.mrc_check.specs.declared.faults.PolicyFault.TheVariants as policy_fault
use Rattle.mrc_check.specs.declared.faults.CaseFault.{CaseFault}
use Rattle.mrc_check.specs.declared.faults.CaseFault.TheVariants as fault
use Rattle.mrc_check.specs.declared.texts.TextsFault.{TextsFault}
use Rattle.mrc_check.specs.declared.texts.TextsFault.TheVariants.{Meaning, Check}
use Rattle.mrc_check.specs.Demands.{demands_of, forbidden_in}
use Rattle.mrc_check.specs.Verdict.{Case, IsAccepted, IsWhy}

-- a system: the lines that its wiring stands for, what is known after them, and the table that they
-- mean over its interfaces
pub record Meant : Type 0 where
  pub lines : List (Line WiringSays)
  pub known : Known
  pub table : Table

-- what a wiring says of which no line is refused
abbrev pub all_said : Edition → List (Line WiringSays) → Known → Said
all_said edition lines known = record { edition = edition; lines = lines; end = Ok known }

-- The bytes mean a system: the definitions are MIG files, and the wiring stands for lines that have
-- a table over their interfaces, by the wiring's edition.
pub record MeanSystem (defs : List (List ℕ)) (wiring : List ℕ) (system : Meant) : Type 0 where
  pub interfaces : List Interface
  pub are_interfaces : AreInterfaces defs interfaces
  pub edition : Edition
  pub is_wiring : Says wiring (all_said edition system.lines system.known)
  pub is_table : resolved edition interfaces system.lines ≡ Ok system.table

-- the bytes of a policy, and whether what it waives is let pass
pub record Policy : Type 0 where
  pub bytes : List ℕ
  pub waives : Bool

-- The bytes mean a claim: MIG files and wiring mean a system, and of what the policy demands over
-- it these are the holdings that it forbids; those that it waives are among them unless they are
-- let pass.
pub record MeanClaim (defs : List (List ℕ)) (wiring : List ℕ) (policy : Policy) (claim : Claimed)
    : Type 0 where
  pub lines : List (Line WiringSays)
  pub known : Known
  pub system : MeanSystem defs wiring record { lines = lines; known = known; table = claim.table }
  pub stands : PolicyStands
  pub is_policy : StandFor known policy.bytes stands
  pub demands : List Demand
  pub are_demands : demands_of claim.table (asked_by stands) ≡ Ok demands
  pub is_claim : claim.lines ≡ forbidden_in policy.waives demands

-- The checker's yes: MIG files, wiring and policy mean a claim, the certificate encodes a draft,
-- and the draft is accepted for the claim.
pub record SayYes (defs : List (List ℕ)) (wiring : List ℕ) (policy : Policy)
    (certificate : List ℕ) (case : Case) : Type 0 where
  pub means : MeanClaim defs wiring policy case.claim
  pub spells : Spells certificate case.draft
  pub accepted : IsAccepted case.claim case.draft

-- the text that has no meaning, by its role, and its first fault; of a MIG file at which step it is
-- refused
pub data Meaningless : Type 0 where
  InDefs : RefusedFile → Meaningless
  InWiring : WiringFault → Meaningless
  InPolicy : PolicyFault → Meaningless
  InCertificate : DraftFault → Meaningless
  InScript : TextFault → Meaningless

-- what a fault of code means
abbrev pub meaningless : CaseFault → Meaningless
meaningless (fault.Defs f) = InDefs (refused_of f)
meaningless (fault.Wiring f) = InWiring f
meaningless (fault.Policy f) = InPolicy f
meaningless (fault.Certificate f) = InCertificate f
meaningless (fault.Script f) = InScript f

-- a system and what a policy forbids in it; with what the policy stands for, and each holding that
-- it demands something of
pub record Stated : Type 0 where
  pub lines : List (Line WiringSays)
  pub claim : Claimed
  pub stands : PolicyStands
  pub demands : List Demand

-- a fault of lines as it is reported: a task with too many names is named
abbrev pub lines_fault : List (Line WiringSays) → ResolveFault → WiringFault
lines_fault lines (TooManyNames t) = named t (slice_get (task_names lines) t)
  where
    named : ℕ → Option (List ℕ) → WiringFault
    named t (Some name) = wiring_fault.TooManyNames name
    named t None = wiring_fault.Lines (TooManyNames t)
lines_fault lines fault = wiring_fault.Lines fault

-- the system that a wiring's bytes mean over interfaces: a fault of a line that it stands for comes
-- before the one by which a line below is refused
abbrev pub system_over : List Interface → List ℕ → Result Meant WiringFault
system_over interfaces wiring = do
  said ← step wiring_fault.Text (said_of wiring)
  table ← step (lines_fault said.lines) (resolved said.edition interfaces said.lines)
  known ← step wiring_fault.Stands said.end
  Ok (record { lines = said.lines; known = known; table = table })

-- the system that MIG files and a wiring mean
abbrev pub system_of : List (List ℕ) → List ℕ → Result Meant Meaningless
system_of defs wiring = do
  interfaces ← step InDefs (interfaces_of defs)
  step InWiring (system_over interfaces wiring)

-- a refusal of a policy as it is reported
abbrev pub policy_fault_of : PolicyRefusal → PolicyFault
policy_fault_of (refusal.Text fault) = policy_fault.Text fault
policy_fault_of (refusal.Stands fault) = policy_fault.Stands fault

-- what a policy's bytes stand for over what is known of a wiring
abbrev pub policy_over : Known → List ℕ → Result PolicyStands PolicyFault
policy_over known policy = step policy_fault_of (stands_of known policy)

-- what a policy stands for, and each holding that it demands something of
pub record Demanded : Type 0 where
  pub stands : PolicyStands
  pub demands : List Demand

-- what a policy's bytes demand over a table after whose wiring this is known
abbrev pub demanded_by : Known → Table → List ℕ → Result Demanded PolicyFault
demanded_by known table policy = do
  stands ← policy_over known policy
  demands ← step policy_fault.Lines (demands_of table (asked_by stands))
  Ok (record { stands = stands; demands = demands })

-- a system with what is demanded of it
abbrev pub with_demands : Meant → Bool → Demanded → Stated
with_demands system waives made = record {
  lines = system.lines;
  claim = record { table = system.table; lines = forbidden_in waives made.demands };
  stands = made.stands;
  demands = made.demands;
}

-- a system with what a policy's bytes forbid in it
abbrev pub stated_by : Meant → Policy → Result Stated Meaningless
stated_by system policy = do
  made ← step InPolicy (demanded_by system.known system.table policy.bytes)
  Ok (with_demands system policy.waives made)

-- what a wiring and a policy mean over interfaces
abbrev pub stated_over : List Interface → List ℕ → Policy → Result Stated Meaningless
stated_over interfaces wiring policy = do
  system ← step InWiring (system_over interfaces wiring)
  stated_by system policy

-- what MIG files, a wiring and a policy mean
abbrev pub stated_of : List (List ℕ) → List ℕ → Policy → Result Stated Meaningless
stated_of defs wiring policy = do
  system ← system_of defs wiring
  stated_by system policy

-- a claim with what a certificate's bytes answer to it
abbrev pub answered_by : Claimed → List ℕ → Result Case Meaningless
answered_by claim certificate = do
  draft ← step InCertificate (draft_from certificate)
  Ok (record { claim = claim; draft = draft })

-- what the files mean, or the first that has no meaning
abbrev pub case_of : List (List ℕ) → List ℕ → Policy → List ℕ → Result Case Meaningless
case_of defs wiring policy certificate = do
  stated ← stated_of defs wiring policy
  answered_by stated.claim certificate

-- what a call answers that takes a value, seen by view, is what the definition gives; with a fault,
-- which means what it gives instead, or if memory ran out, the value comes back
abbrev pub GivesOrReturns : {A B C E F : Type 0} → (A → B) → (F → E) → C
    → Result A (C × OrMemory F) → Result B E → Type 0
GivesOrReturns view told taken (Ok x) given = given ≡ Ok (view x)
GivesOrReturns view told taken (Err back) given =
    (back.0 ≡ taken) × UnlessMemory (λ fault. given ≡ Err (told fault)) back.1

-- the fault is the first that the texts have; a certificate that is refused has the first reason
abbrev pub IsTold : TextsFault → Result Case Meaningless → Type 0
IsTold (Meaning fault) said = said ≡ Err (meaningless fault)
IsTold (Check r) said =
    (said ≡ Ok (record { claim = r.claim; draft = content r.draft }))
    × IsWhy r.claim (content r.draft) r.why

-- the case is what is said, and accepted; or the fault is told, unless memory ran out
abbrev pub Tells : Result Case (OrMemory TextsFault) → Result Case Meaningless → Type 0
Tells (Ok case) said = (said ≡ Ok case) × IsAccepted case.claim case.draft
Tells (Err refusal) said = UnlessMemory (λ fault. IsTold fault said) refusal
