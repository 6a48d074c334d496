-- Law. What an accepted draft, a yes and a least set that is a yes mean for every run; what a no
-- means for certificates. What a yes means for every run of the machine: that of the checker to a
-- certificate, and that of the least set of facts; and what a no means for certificates. This
-- profile's own choice.
use Rattle.std.specs.Prelude.{◌≡◌, ◌≢◌, ◌<◌, ℕ, Bool, false, List, [], ◌∷◌, IsTrue}
use Rattle.mrc_base.specs.declared.Fact.{Fact}
use Rattle.mrc_base.specs.declared.Fact.TheVariants.{Hold}
use Rattle.mrc_base.specs.declared.PortRight.TheVariants.{Send}
use Rattle.mrc_certificate.specs.Drafts.{Content}
use Rattle.mrc_check.specs.Texts.{MeanClaim, Policy, SayYes}
use Rattle.mrc_check.specs.Trusted.{AreSecure, is_bound}
use Rattle.mrc_check.specs.Verdict.{Case, IsAccepted}
use Rattle.mrc_facts.specs.Sets.{has}
use Rattle.mrc_model.specs.Breach.{Breach, Forbid}
use Rattle.mrc_model.specs.Covers.{Covers}
use Rattle.mrc_model.specs.First.{first, is_sound}
use Rattle.mrc_model.specs.IsIn.{IsIn}
use Rattle.mrc_model.specs.Rules.{Closed, Has, IsLeast, Least, SaysYes}
use Rattle.mrc_model.specs.Runs.{Event, Run}
use Rattle.mrc_model.specs.Wiring.{kernel_class}
use Rattle.mrc_model.specs.World.{World}
use Rattle.mrc_wiring.specs.declared.table.TrustedLine.{TrustedLine}
use Rattle.mrc_wiring.specs.Claims.{Claimed, policy_of}
use Rattle.mrc_wiring.specs.Table.{wiring_of}

-- The events lead from the first state of the claim's wiring to the world.
abbrev pub LeadsTo : Claimed → List Event → World → Type 0
LeadsTo claim events w = let W = wiring_of claim.table in Run W (first W) events w

-- Each world that events lead to from the first state of the claim's wiring is covered by the set,
-- and has no breach of the claim's policy.
abbrev pub IsSafeBy : Claimed → (Fact → Bool) → Type 0
IsSafeBy claim set =
    (events : List Event) (w : World) → LeadsTo claim events w
    → Covers (Has set) w × (Breach (wiring_of claim.table) w (policy_of claim) → ⊥)

-- this is so of a claim and the facts of a draft
abbrev pub IsSafe : Case → Type 0
IsSafe case = IsSafeBy case.claim (has case.draft.facts)

-- This is so where no line of a claim's wiring is refused and a draft is accepted for the claim.
abbrev pub AcceptedIsSafe : Type 0
AcceptedIsSafe =
    (claim : Claimed) (draft : Content) → IsTrue (is_sound (wiring_of claim.table))
    → IsAccepted claim draft → IsSafe record { claim = claim; draft = draft }

-- And it is so where the bytes of MIG files, a wiring, a policy and a certificate say yes.
abbrev pub YesIsSafe : Type 0
YesIsSafe =
    (defs : List (List ℕ)) (wiring : List ℕ) (policy : Policy) (certificate : List ℕ)
    (case : Case)
    → SayYes defs wiring policy certificate case → IsSafe case

-- Without a certificate.

-- the set is the least of the claim's wiring, and the checker says yes to it
pub record IsLeastYes (claim : Claimed) (set : Fact → Bool) : Type 0 where
  pub least : IsLeast (wiring_of claim.table) set
  pub says : SaysYes (wiring_of claim.table) (policy_of claim) set

-- Where the bytes of MIG files, a wiring and a policy mean a claim whose least set of facts is a
-- yes, no list of calls from the first state of that wiring leads out of the set, or to a breach of
-- that policy.
abbrev pub VerifiedIsSafe : Type 0
VerifiedIsSafe =
    (defs : List (List ℕ)) (wiring : List ℕ) (policy : Policy) (claim : Claimed)
    (set : Fact → Bool)
    → MeanClaim defs wiring policy claim → IsLeastYes claim set → IsSafeBy claim set

-- Where the bytes of MIG files, a wiring and a policy mean a claim, and a closed set of its wiring
-- lacks a holding, no list of calls from the first state of that wiring leads to such a holding.
abbrev pub LackedIsNeverHeld : Type 0
LackedIsNeverHeld =
    (defs : List (List ℕ)) (wiring : List ℕ) (policy : Policy) (claim : Claimed)
    (set : Fact → Bool) (holding : Forbid) (events : List Event) (w : World)
    → MeanClaim defs wiring policy claim → Closed (wiring_of claim.table) (Has set)
    → set (Hold holding.task holding.class holding.right) ≡ false
    → LeadsTo claim events w
    → Breach (wiring_of claim.table) w (holding ∷ []) → ⊥

-- no certificate is accepted for the bytes
abbrev pub NoneIsAccepted : List (List ℕ) → List ℕ → Policy → Type 0
NoneIsAccepted defs wiring policy =
    (certificate : List ℕ) (case : Case) → SayYes defs wiring policy certificate case → ⊥

-- no set of facts is a yes and keeps each trusted task from being rewritten
abbrev pub IsNo : Claimed → Type 0
IsNo claim =
    (set : Fact → Bool) → SaysYes (wiring_of claim.table) (policy_of claim) set
    → AreSecure (wiring_of claim.table) set claim.table.trusts → ⊥

-- a line of the claim's policy forbids a fact that is in the least set: in each closed one
pub record IsBroken (claim : Claimed) : Type 0 where
  pub line : Forbid
  pub among : IsIn line (policy_of claim)
  pub least : Least (wiring_of claim.table) (Hold line.task line.class line.right)

-- a task that lines do not bind holds the kernel port of another one, which is trusted, by the
-- least set: by each closed one
pub record HasRewriter (claim : Claimed) : Type 0 where
  pub line : TrustedLine
  pub among : IsIn line claim.table.trusts
  pub trusted : line.task < (wiring_of claim.table).tasks
  pub task : ℕ
  pub there : task < (wiring_of claim.table).tasks
  pub other : task ≢ line.task
  pub free : is_bound (wiring_of claim.table) task ≡ false
  pub least : Least (wiring_of claim.table)
      (Hold task (kernel_class (wiring_of claim.table) line.task) Send)

-- no certificate is accepted for bytes that mean a claim of this kind
abbrev pub HaveNoYes : (Claimed → Type 0) → Type 0
HaveNoYes Refused =
    (defs : List (List ℕ)) (wiring : List ℕ) (policy : Policy) (claim : Claimed)
    → MeanClaim defs wiring policy claim → Refused claim → NoneIsAccepted defs wiring policy
