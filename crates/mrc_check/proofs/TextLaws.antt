-- From what each step answered to what the texts say.
use Rattle.std.proofs.Common.{◌≡◌, ℕ, List, Result, Ok, Err, refl, ap, sym, subst, ◌∙◌}
use Rattle.std.specs.Prelude.{IfOk, IfErr}
use Rattle.mrc_base.specs.declared.memory.OrMemory.{OrMemory}
use Rattle.mrc_base.specs.declared.memory.OrMemory.TheVariants.{Fault, Memory}
use Rattle.mrc_base.specs.Reading.{◌>>=◌}
use Rattle.mrc_base.proofs.Steps.{bind_ok, bind_to, ok_is, err_is_ok}
use Rattle.mrc_interface.specs.Reading.{interfaces_of, step}
use Rattle.mrc_interface.proofs.ReadingLaws.{interfaces_read, read_interfaces_are}
use Rattle.mrc_stand_for.specs.declared.faults.StandFault.{StandFault}
use Rattle.mrc_stand_for.specs.declared.known.Known.{Known}
use Rattle.mrc_wide_text.specs.Wirings.{Says, said_of}
use Rattle.mrc_wide_text.proofs.SaidLaws.{said_is, is_said}
use Rattle.mrc_wide_policy.specs.Asked.{asked_by}
use Rattle.mrc_wide_policy.specs.Policies.{stands_of}
use Rattle.mrc_wide_policy.proofs.StandLemmas.{stands_are, are_stands}
use Rattle.mrc_wiring.specs.declared.claim.ForbiddenLine.{ForbiddenLine}
use Rattle.mrc_wiring.specs.Resolving.{resolved}
use Rattle.mrc_wiring.specs.Claims.{Claimed}
use Rattle.mrc_certificate.specs.Spelling.{content}
use Rattle.mrc_certificate.specs.Reading.{draft_from}
use Rattle.mrc_certificate.proofs.Fields.{IsBytes}
use Rattle.mrc_certificate.proofs.Whole.{draft_takes, draft_again}
use Rattle.mrc_check.specs.declared.faults.WiringFault.TheVariants as wiring_fault
use Rattle.mrc_check.specs.declared.faults.PolicyFault.TheVariants as policy_fault
use Rattle.mrc_check.specs.declared.texts.TextsFault.{TextsFault}
use Rattle.mrc_check.specs.declared.texts.TextsFault.TheVariants.{Meaning, Check}
use Rattle.mrc_check.specs.Demands.{demands_of, forbidden_in}
use Rattle.mrc_check.specs.Verdict.{Case, IsAccepted}
use Rattle.mrc_check.specs.Texts.{InDefs, InWiring, InPolicy, InCertificate, SayYes}
use Rattle.mrc_check.specs.Texts.{Meant, MeanSystem, MeanClaim, Stated, meaningless, lines_fault}
use Rattle.mrc_check.specs.Texts.{all_said, system_over, system_of, policy_over, policy_fault_of}
use Rattle.mrc_check.specs.Texts.{Policy, Demanded, demanded_by, with_demands, stated_by, stated_of}
use Rattle.mrc_check.specs.Texts.{answered_by, case_of, IsTold, Tells}
use Rattle.mrc_check.proofs.Accepted.{no_reason}

-- a step that answers goes on
goes_on : {A B E F : Type 0} (place : E → F) (x : A) (said : Result A E) (next : A → Result B F)
    → said ≡ Ok x
    → (step place said >>= next) ≡ next x
goes_on place x said next e = ap (λ r. step place r >>= next) e

step_ok : {A E F : Type 0} (place : E → F) (r : Result A E) (x : A) → step place r ≡ Ok x → r ≡ Ok x
step_ok place (Ok y) x e = cc
step_ok place (Err fault) x e = absurd cc

-- the system that texts have is one that they mean
system_from : (defs : List (List ℕ)) (wiring : List ℕ) (system : Meant)
    → system_of defs wiring ≡ Ok system
    → MeanSystem defs wiring system
system_from defs wiring system e =
    let i = bind_ok (step InDefs (interfaces_of defs)) _ system e in
    let over = step_ok InWiring (system_over i.0 wiring) system i.2 in
    let w = bind_ok (step wiring_fault.Text (said_of wiring)) _ system over in
    let t = bind_ok (step (lines_fault w.0.lines) (resolved w.0.edition i.0 w.0.lines)) _ system w.2
    in
    let k = bind_ok (step wiring_fault.Stands w.0.end) _ system t.2 in
    let said = said_is wiring w.0 (step_ok wiring_fault.Text (said_of wiring) w.0 w.1) in
    let known = step_ok wiring_fault.Stands w.0.end k.0 k.1 in
    let whole : w.0 ≡ all_said w.0.edition w.0.lines k.0 = ap (λ (e : Result Known StandFault).
    record { edition = w.0.edition; lines = w.0.lines; end = e }) known in
    let made : Meant = record { lines = w.0.lines; known = k.0; table = t.0 } in
    subst (MeanSystem defs wiring) (ok_is made system k.2) record {
      interfaces = i.0;
      are_interfaces = read_interfaces_are defs i.0 (step_ok InDefs (interfaces_of defs) i.0 i.1);
      edition = w.0.edition;
      is_wiring = subst (Says wiring) whole said;
      is_table = step_ok (lines_fault w.0.lines) (resolved w.0.edition i.0 w.0.lines) t.0 t.1;
    }

-- and one that they mean is theirs
system_to : (defs : List (List ℕ)) (wiring : List ℕ) (system : Meant)
    → MeanSystem defs wiring system
    → system_of defs wiring ≡ Ok system
system_to defs wiring system m =
    goes_on InDefs m.interfaces (interfaces_of defs) _
    (interfaces_read defs m.interfaces m.are_interfaces)
    ∙ ap (step InWiring) (goes_on wiring_fault.Text
    (all_said m.edition system.lines system.known) (said_of wiring) _
    (is_said wiring (all_said m.edition system.lines system.known) m.is_wiring)
    ∙ goes_on (lines_fault system.lines) system.table
    (resolved m.edition m.interfaces system.lines) _ m.is_table)

-- the claim that texts have is one that they mean
pub claim_meant : (defs : List (List ℕ)) (wiring : List ℕ) (policy : Policy) (stated : Stated)
    → stated_of defs wiring policy ≡ Ok stated
    → MeanClaim defs wiring policy stated.claim
claim_meant defs wiring policy stated e =
    let s = bind_ok (system_of defs wiring) _ stated e in
    let made_by = demanded_by s.0.known s.0.table policy.bytes in
    let d = bind_ok (step InPolicy made_by) _ stated s.2 in
    let made_is = step_ok InPolicy made_by d.0 d.1 in
    let p = bind_ok (policy_over s.0.known policy.bytes) _ d.0 made_is in
    let is_policy = step_ok policy_fault_of (stands_of s.0.known policy.bytes) p.0 p.1 in
    let named = demands_of s.0.table (asked_by p.0) in
    let l = bind_ok (step policy_fault.Lines named) _ d.0 p.2 in
    let made : Demanded = record { stands = p.0; demands = l.0 } in
    let same : with_demands s.0 policy.waives made ≡ stated =
    ap (with_demands s.0 policy.waives) (ok_is made d.0 l.2)
    ∙ ok_is (with_demands s.0 policy.waives d.0) stated d.2
    in
    subst (λ (x : Stated). MeanClaim defs wiring policy x.claim) same record {
      lines = s.0.lines;
      known = s.0.known;
      system = system_from defs wiring s.0 s.1;
      stands = p.0;
      is_policy = stands_are s.0.known policy.bytes p.0 is_policy;
      demands = l.0;
      are_demands = step_ok policy_fault.Lines named l.0 l.1;
      is_claim = refl;
    }

-- what is forbidden is what is demanded so
pub lines_stated : (defs : List (List ℕ)) (wiring : List ℕ) (policy : Policy) (stated : Stated)
    → stated_of defs wiring policy ≡ Ok stated
    → stated.claim.lines ≡ forbidden_in policy.waives stated.demands
lines_stated defs wiring policy stated e =
    let s = bind_ok (system_of defs wiring) _ stated e in
    let d = bind_ok (step InPolicy (demanded_by s.0.known s.0.table policy.bytes)) _ stated s.2 in
    subst (λ (x : Stated). x.claim.lines ≡ forbidden_in policy.waives x.demands)
    (ok_is (with_demands s.0 policy.waives d.0) stated d.2) refl

-- and one that they mean is theirs
stated_to : (defs : List (List ℕ)) (wiring : List ℕ) (policy : Policy) (claim : Claimed)
    (m : MeanClaim defs wiring policy claim)
    → stated_of defs wiring policy
    ≡ Ok record { lines = m.lines; claim = claim; stands = m.stands; demands = m.demands }
stated_to defs wiring policy claim m =
    let system : Meant = record { lines = m.lines; known = m.known; table = claim.table } in
    let made : Demanded = record { stands = m.stands; demands = m.demands } in
    let stood : policy_over m.known policy.bytes ≡ Ok m.stands =
    ap (step policy_fault_of) (are_stands m.known policy.bytes m.stands m.is_policy) in
    let made_is : demanded_by m.known claim.table policy.bytes ≡ Ok made =
    bind_to (policy_over m.known policy.bytes) m.stands _ _ stood
    (goes_on policy_fault.Lines m.demands _ _ m.are_demands)
    in
    let lines_are : Ok (with_demands system policy.waives made)
    ≡ Ok record { lines = m.lines; claim = claim; stands = m.stands; demands = m.demands } =
    ap (λ (l : List ForbiddenLine). Ok record {
      lines = m.lines;
      claim = record { table = claim.table; lines = l };
      stands = m.stands;
      demands = m.demands;
    }) (sym m.is_claim)
    in
    bind_to (system_of defs wiring) system (λ s. stated_by s policy) _
    (system_to defs wiring system m.system)
    (goes_on InPolicy made (demanded_by m.known claim.table policy.bytes) _ made_is ∙ lines_are)

-- what the texts say is a yes, if it is accepted
pub yes_from : (defs : List (List ℕ)) (wiring : List ℕ) (policy : Policy) (certificate : List ℕ) (case : Case)
    → IsBytes certificate
    → case_of defs wiring policy certificate ≡ Ok case
    → IsAccepted case.claim case.draft
    → SayYes defs wiring policy certificate case
yes_from defs wiring policy certificate case bytes e accepted =
    let s = bind_ok (stated_of defs wiring policy) _ case e in
    let d = bind_ok (step InCertificate (draft_from certificate)) _ case s.2 in
    let made : Case = record { claim = s.0.claim; draft = d.0 } in
    let same : made ≡ case = ok_is made case d.2 in
    let is_draft = step_ok InCertificate (draft_from certificate) d.0 d.1 in
    let says : SayYes defs wiring policy certificate made = record {
      means = claim_meant defs wiring policy s.0 s.1;
      spells = draft_takes certificate d.0 bytes is_draft;
      accepted = subst (λ (x : Case). IsAccepted x.claim x.draft) (sym same) accepted;
    } in
    subst (SayYes defs wiring policy certificate) same says

-- and a yes is what the texts say
pub said_from : (defs : List (List ℕ)) (wiring : List ℕ) (policy : Policy) (certificate : List ℕ) (case : Case)
    → SayYes defs wiring policy certificate case
    → case_of defs wiring policy certificate ≡ Ok case
said_from defs wiring policy certificate case says =
    let m = says.means in
    let stated : Stated =
    record { lines = m.lines; claim = case.claim; stands = m.stands; demands = m.demands } in
    let spelled : draft_from certificate ≡ Ok case.draft =
    ap draft_from says.spells.bytes_are ∙ draft_again case.draft says.spells.draft
    in
    bind_to (stated_of defs wiring policy) stated
    (λ (s : Stated). answered_by s.claim certificate) _
    (stated_to defs wiring policy case.claim says.means)
    (goes_on InCertificate case.draft (draft_from certificate) _ spelled)

-- where the texts say yes, only want of memory is told
pub only_memory_told : (defs : List (List ℕ)) (wiring : List ℕ) (policy : Policy) (certificate : List ℕ)
    (r : Result Case (OrMemory TextsFault))
    → Tells r (case_of defs wiring policy certificate)
    → (case : Case)
    → SayYes defs wiring policy certificate case
    → IfErr r (λ refusal. refusal ≡ Memory)
only_memory_told defs wiring policy certificate r told case says = refused r told
  where
    said : case_of defs wiring policy certificate ≡ Ok case
    said = said_from defs wiring policy certificate case says

    not_told : (fault : TextsFault) → IsTold fault (case_of defs wiring policy certificate) → ⊥
    not_told (Meaning f) h = err_is_ok (meaningless f) case (sym h ∙ said)
    not_told (Check r) h =
        let refused_case : Case = record { claim = r.claim; draft = content r.draft } in
        let same : case ≡ refused_case = ok_is case refused_case (sym said ∙ h.0) in
        let accepted : IsAccepted r.claim (content r.draft) =
        subst (λ (c : Case). IsAccepted c.claim c.draft) same says.accepted
        in
        no_reason r.claim (content r.draft) r.why accepted h.1

    refused : (r : Result Case (OrMemory TextsFault))
        → Tells r (case_of defs wiring policy certificate)
        → IfErr r (λ refusal. refusal ≡ Memory)
    refused (Ok c) h = tt
    refused (Err (Fault fault)) h = absurd (not_told fault h)
    refused (Err Memory) h = refl

-- a yes that is told is right
pub yes_told : (defs : List (List ℕ)) (wiring : List ℕ) (policy : Policy) (certificate : List ℕ)
    (r : Result Case (OrMemory TextsFault))
    → IsBytes certificate
    → Tells r (case_of defs wiring policy certificate)
    → IfOk r (SayYes defs wiring policy certificate)
yes_told defs wiring policy certificate (Ok case) bytes told =
    yes_from defs wiring policy certificate case bytes told.0 told.1
yes_told defs wiring policy certificate (Err refusal) bytes told = tt
