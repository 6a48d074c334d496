-- Believe. What is right of a wiring and a policy: that the policy holds; or the trusted task that
-- another could rewrite and the lines that are broken, with chains, or with calls that lead there.
-- This profile's own choice.
use Rattle.std.specs.Prelude.{◌≡◌, ◌⊎◌, ◌<◌, ◌||◌, Bool, true, false, not, ℕ, List, Ok, Err, map}
use Rattle.std.specs.Prelude.{filter, All, IfSome, Option, Some, None}
use Rattle.std.specs.Option.{is_some}
use Rattle.std.specs.List.{list_any}
use Rattle.mrc_base.specs.declared.Fact.{Fact}
use Rattle.mrc_model.specs.Rules.{IsLeast}
use Rattle.mrc_wiring.specs.Table.{wiring_of}
use Rattle.mrc_facts.specs.Sets.{has}
use Rattle.mrc_check.specs.declared.demands.Demand.{Demand}
use Rattle.mrc_check.specs.Texts.{Stated, meaningless}
use Rattle.mrc_why.specs.Answered.{AreTold, IsMet, has_line, is_of_line, is_waived_line, told}
use Rattle.mrc_why.specs.Broken.{BrokenLine, ExposedTask, is_yes}
use Rattle.mrc_why.specs.Broken.{AreBroken, IsDerived, IsExposedOf, IsReached, HasYes, HasNoYes}
use Rattle.mrc_attack.specs.declared.printing.Listing.{Listing}
use Rattle.mrc_attack.specs.declared.printing.Listing.TheVariants.{Listed, Script}
use Rattle.mrc_attack.specs.Attacks.{IsAttack, aim_of, aims}
use Rattle.mrc_answer.specs.declared.answers.Answer.{Answer}
use Rattle.mrc_answer.specs.declared.answers.Answer.TheVariants.{Yes, Waived, Broken, Attacks, Fault}
use Rattle.mrc_answer.specs.declared.answers.Attacked.{Attacked}
use Rattle.mrc_answer.specs.declared.answers.JudgedPolicy.{JudgedPolicy}
use Rattle.mrc_answer.specs.declared.answers.Reply.{Reply}
use Rattle.mrc_answer.specs.declared.faults.Fault.{Fault as Failure}
use Rattle.mrc_answer.specs.declared.faults.Fault.TheVariants.{Meaning, Word}
use Rattle.mrc_answer.specs.declared.faults.WordFault.TheVariants.{BadLine, BadMost, NotBroken}
use Rattle.mrc_answer.specs.Files.{Files}
use Rattle.mrc_answer.specs.Notices.{Notices, AreNotices, AreYesNotices, AreWaivedNotices}
use Rattle.mrc_answer.specs.Notices.{no_notices}
use Rattle.mrc_answer.specs.Texts.{stated}

-- Which lines are asked for.

-- whether a demand of this line of the policy is told of the least set
abbrev pub IsToldAt : Stated → ℕ → Bool → Type 0
IsToldAt stated n answer = (set : Fact → Bool) → IsLeast (wiring_of stated.claim.table) set
    → has_line (told set stated.demands) n ≡ answer

-- a demand is asked for: all are, or those of one line
abbrev pub is_asked : Option ℕ → Demand → Bool
is_asked None demand = true
is_asked (Some n) demand = is_of_line n demand

-- the trusted task is, unless lines of one number are
abbrev pub asked_task : Option ℕ → Option ExposedTask → Option ExposedTask
asked_task None exposed = exposed
asked_task (Some n) exposed = None

-- something is asked for, of the trusted task and the demands that are told
abbrev pub IsAsked : Option ℕ → Option ExposedTask → List Demand → Type 0
IsAsked only exposed told =
    (is_some (asked_task only exposed) || list_any (is_asked only) told) ≡ true

-- The policy holds: the texts mean a system, the least set of its wiring is a yes to the policy, by
-- which no task could rewrite a trusted one, and has what is expected; and these are the notices.
pub record IsAllowed (files : Files) (notices : Notices) : Type 0 where
  pub meant : Stated
  pub says : stated files.texts ≡ Ok meant
  pub yes : HasYes meant.claim
  pub met : IsMet meant true
  pub are_notices : AreYesNotices files meant notices

-- The same, with the demands that are told: each is waived.
pub record IsWaived (line : Option ℕ) (files : Files) (notices : Notices) (b : JudgedPolicy)
    : Type 0 where
  pub says : stated files.texts ≡ Ok b.stated
  pub yes : HasYes b.stated.claim
  pub met : IsMet b.stated true
  pub are : AreTold b.stated b.told.items
  pub only : b.only ≡ line
  pub are_notices : AreWaivedNotices files b.stated notices

-- The policy is broken: these are the first trusted task that another could rewrite, with a chain
-- that derives the hold by which it could, and the lines that are broken, with chains that derive
-- what they forbid; and these are the demands that are told. If a line is asked for, one of them is
-- of it. If there is such a task or such a line no set of facts is a yes; else the least set lacks
-- what is expected.
pub record IsBroken (line : Option ℕ) (files : Files) (notices : Notices) (b : JudgedPolicy)
    : Type 0 where
  pub says : stated files.texts ≡ Ok b.stated
  pub least : IsLeast (wiring_of b.stated.claim.table) (has b.verdict.facts)
  pub first : IsExposedOf b.stated.claim b.verdict.exposed
  pub reached : IfSome b.verdict.exposed (IsReached b.stated.claim.table)
  pub are : AreBroken b.stated.claim b.verdict.broken.items
  pub chains : All (IsDerived b.stated.claim) b.verdict.broken.items
  pub no : is_yes b.verdict.exposed b.verdict.broken.items ≡ false → HasNoYes b.stated.claim
  pub lacks : is_yes b.verdict.exposed b.verdict.broken.items ≡ true → IsMet b.stated false
  pub are_told : AreTold b.stated b.told.items
  pub only : b.only ≡ line
  pub asked : IfSome line (λ n. IsToldAt b.stated n true)
  pub shown : IsAsked b.only b.verdict.exposed b.told.items
  pub are_notices : AreNotices files b.stated notices

-- nothing is told of the line which is asked for
pub record IsNotBroken (line : Option ℕ) (files : Files) : Type 0 where
  pub meant : Stated
  pub says : stated files.texts ≡ Ok meant
  pub number : ℕ
  pub asked : line ≡ Some number
  pub none : IsToldAt meant number false

-- why there is no answer to `verify` or `attack` of these files
abbrev pub IsUnverified : Option ℕ → Files → Failure → Type 0
IsUnverified line files (Meaning fault) = stated files.texts ≡ Err (meaningless fault)
IsUnverified line files (Word NotBroken) = IsNotBroken line files
IsUnverified line files fault = ⊥

-- what `verify` answers, with its notices
abbrev pub IsVerified : Option ℕ → Files → Answer → Notices → Type 0
IsVerified line files Yes notices = IsAllowed files notices
IsVerified line files (Waived b) notices = IsWaived line files notices b
IsVerified line files (Broken b) notices = IsBroken line files notices b
IsVerified line files (Fault fault) notices =
    IsUnverified line files fault × (notices ≡ no_notices)
IsVerified line files answer notices = ⊥

-- Attacks.

-- a script is printed by itself if one line is asked for
abbrev pub form_of : Option ℕ → Listing
form_of None = Listed
form_of (Some line) = Script

-- the lines that are broken and not waived: those for which calls are looked for
abbrev pub searched : List Demand → List BrokenLine → List BrokenLine
searched told broken = filter (λ b. not (is_waived_line told b.line)) broken

-- Attacks on the first trusted task that another could rewrite, and on the lines of the policy that
-- are broken and not waived; or on those of the line that is asked for. Each script, as it is
-- printed, leads to what its line forbids. No set of facts is a yes.
pub record AreAttacks (line : Option ℕ) (files : Files) (notices : Notices) (a : Attacked)
    : Type 0 where
  pub says : stated files.texts ≡ Ok a.stated
  pub exposed : Option ExposedTask
  pub first : IsExposedOf a.stated.claim exposed
  pub broken : List BrokenLine
  pub are : AreBroken a.stated.claim broken
  pub no : HasNoYes a.stated.claim
  pub only : a.only ≡ line
  pub asked : IfSome line (λ n. IsToldAt a.stated n true)
  pub are_told : AreTold a.stated a.told.items
  pub lines : map aim_of a.found.items ≡ aims a.only exposed (searched a.told.items broken)
  pub leaks : All (IsAttack (form_of a.only) a.stated.claim.table) a.found.items
  pub are_notices : AreNotices files a.stated notices

-- what `attack` answers, with its notices: a yes only if no line is asked for; and where nothing is
-- broken that what is expected is lacking
abbrev pub IsAttacked : Option ℕ → Files → Answer → Notices → Type 0
IsAttacked line files Yes notices = (line ≡ None) × IsAllowed files notices
IsAttacked line files (Waived b) notices = IsWaived line files notices b
IsAttacked line files (Broken b) notices = IsBroken line files notices b
IsAttacked line files (Attacks a) notices = AreAttacks line files notices a
IsAttacked line files (Fault fault) notices =
    IsUnverified line files fault × (notices ≡ no_notices)
IsAttacked line files answer notices = ⊥

-- no attacks are answered
abbrev pub HasNoAttack : Answer → Type 0
HasNoAttack (Attacks a) = ⊥
HasNoAttack answer = Unit {0}

-- Numbers that can't be asked for.

-- no line has the number that is asked for: lines are counted from 1, in 32 bits
abbrev pub IsBadLine : Option ℕ → Type 0
IsBadLine None = ⊥
IsBadLine (Some n) = (n ≡ 0) ⊎ (4294967295 < n)

-- no so many mends or chains can be asked for: one at least can, and 1,000,000 at most
abbrev pub IsBadMost : ℕ → Type 0
IsBadMost most = (most ≡ 0) ⊎ (1000000 < most)
