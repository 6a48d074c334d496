-- What is answered of files that have a meaning: a yes, and what is exposed and told, all of it or
-- what is of one line.
use Rattle.std.proofs.Common.{◌≡◌, ◌&&◌, ◌∙◌, ℕ, List, [], ◌∷◌, Result, Ok, Err, ap, subst}
use Rattle.std.proofs.Common.{Option, Some, None, true, false, Bool, cond, not, map, refl, sym, ◌||◌}
use Rattle.std.specs.Prelude.{IfOk, IfSome}
use Rattle.std.specs.List.{All, list_any}
use Rattle.std.proofs.lemmas.Bool.{false≢true}
use Rattle.mrc_base.specs.declared.Fact.{Fact}
use Rattle.mrc_base.proofs.Steps.{ok_is}
use Rattle.mrc_facts.specs.Sets.{has}
use Rattle.mrc_wiring.specs.declared.claim.ForbiddenLine.{ForbiddenLine}
use Rattle.mrc_check.specs.declared.demands.Demand.{Demand}
use Rattle.mrc_check.specs.Demands.{forbidden_in}
use Rattle.mrc_check.specs.Texts.{Stated}
use Rattle.mrc_check.proofs.TextLaws.{lines_stated}
use Rattle.mrc_why.specs.Answered.{AreTold, IsMet, are_met, has_line, is_waived, is_waived_line}
use Rattle.mrc_why.specs.Answered.{same_line, told}
use Rattle.mrc_why.specs.Broken.{BrokenLine, HasYes, HasNoYes, broken_lines}
use Rattle.mrc_why.specs.Broken.{ExposedTask, is_yes, line_of}
use Rattle.mrc_why.proofs.Verdicts.{demands_of_each, broken_are_told}
use Rattle.mrc_attack.specs.Attacks.{IsAttack, aims}
use Rattle.mrc_answer.specs.declared.answers.Answer.{Answer}
use Rattle.mrc_answer.specs.declared.answers.Answer.TheVariants.{Yes, Waived, Broken, Attacks}
use Rattle.mrc_answer.specs.declared.answers.Answer.TheVariants.{Fault}
use Rattle.mrc_answer.specs.declared.answers.Reply.{Reply}
use Rattle.mrc_answer.specs.declared.faults.Fault.TheVariants.{Word}
use Rattle.mrc_answer.specs.declared.faults.WordFault.TheVariants.{NotBroken}
use Rattle.mrc_answer.specs.declared.judging.Judgement.{Judgement}
use Rattle.mrc_answer.specs.Attacking.{AreAttacksOn}
use Rattle.mrc_answer.specs.Files.{Files, asked_policy}
use Rattle.mrc_answer.specs.Judging.{IsJudged, IsShownLine, IsBrokenReply, IsWaivedReply}
use Rattle.mrc_answer.specs.Judging.{IsYesReply, is_passed}
use Rattle.mrc_answer.specs.Notices.{AreNotices, AreWaivedNotices, AreYesNotices, Notices}
use Rattle.mrc_answer.specs.Notices.{no_notices}
use Rattle.mrc_answer.specs.Texts.{stated}
use Rattle.mrc_answer.specs.Verified.{IsAllowed, IsAsked, IsAttacked, IsBroken, IsToldAt, IsVerified}
use Rattle.mrc_answer.specs.Verified.{IsNotBroken, IsWaived, HasNoAttack, form_of, searched}

-- What is told.

-- the demands that are found are those of each least set
pub are_told : (meant : Stated) (found : Judgement)
    → IsJudged meant found
    → AreTold meant found.told.items
are_told meant found j = demands_of_each meant found.verdict.facts found.told.items j.least j.told_are

-- whether one of them is of a line
pub told_at : (meant : Stated) (found : Judgement) (n : ℕ) (answer : Bool)
    → IsJudged meant found
    → has_line found.told.items n ≡ answer
    → IsToldAt meant n answer
told_at meant found n answer j has_it = λ set least.
    ap (λ (ds : List Demand). has_line ds n) (sym (are_told meant found j set least)) ∙ has_it

-- and whether what is expected is there
pub met_is : (meant : Stated) (found : Judgement) (answer : Bool)
    → IsJudged meant found
    → are_met found.told.items ≡ answer
    → IsMet meant answer
met_is meant found answer j is = λ set least.
    ap are_met (sym (are_told meant found j set least)) ∙ is

-- What is asked for.

none_left : (b : BrokenLine) (broken : List BrokenLine) → map line_of (b ∷ broken) ≡ [] → ⊥
none_left b broken e = absurd cc

asked_from : (exposed : Option ExposedTask) (broken : List BrokenLine) (those : List Demand)
    → (those ≡ [] → map line_of broken ≡ [])
    → (is_yes exposed broken && are_met those) ≡ false
    → IsAsked None exposed those
asked_from (Some x) broken those none not_passed = refl
asked_from None broken (d ∷ those) none not_passed = refl
asked_from None [] [] none not_passed = absurd (false≢true (sym not_passed))
asked_from None (b ∷ broken) [] none not_passed = absurd (none_left b broken (none refl))

-- if nothing is told, no line is broken
no_lines : (files : Files) (meant : Stated) (found : Judgement)
    → stated files.texts ≡ Ok meant
    → IsJudged meant found
    → found.told.items ≡ []
    → map line_of found.verdict.broken.items ≡ []
no_lines files meant found says j none =
    let set = has found.verdict.facts in
    let policy = asked_policy files.texts in
    j.are set j.least
    ∙ ap (broken_lines set) (lines_stated files.texts.defs files.texts.wiring policy meant says)
    ∙ broken_are_told set files.texts.waives meant.demands (sym j.told_are ∙ none)

shown_so : (line : Option ℕ) (files : Files) (meant : Stated) (found : Judgement)
    → stated files.texts ≡ Ok meant
    → IsJudged meant found
    → is_passed found ≡ false
    → IfSome line (λ n. has_line found.told.items n ≡ true)
    → IsAsked line found.verdict.exposed found.told.items
shown_so None files meant found says j not_passed has_it =
    asked_from found.verdict.exposed found.verdict.broken.items found.told.items
    (no_lines files meant found says j) not_passed
shown_so (Some n) files meant found says j not_passed has_it = has_it

asked_so : (line : Option ℕ) (meant : Stated) (found : Judgement)
    → IsJudged meant found
    → IfSome line (λ n. has_line found.told.items n ≡ true)
    → IfSome line (λ n. IsToldAt meant n true)
asked_so None meant found j has_it = tt
asked_so (Some n) meant found j has_it = told_at meant found n true j has_it

-- the line that is asked for, where one of the demands is of it
pub shown_line : (line : Option ℕ) (number own : ℕ) (found : Judgement)
    → line ≡ Some number
    → own ≡ number
    → has_line found.told.items number ≡ true
    → IsShownLine line (Some own) found
shown_line line number own found is same has_it = record {
  same = ap (λ n. Some n) same ∙ sym is;
  has = subst (λ (l : Option ℕ). IfSome l (λ n. has_line found.told.items n ≡ true)) (sym is)
      has_it;
}

-- all that is told
pub shown_all : (found : Judgement) → IsShownLine None None found
shown_all found = record { same = refl; has = tt }

second_false : (a b : Bool) → (a && b) ≡ false → a ≡ true → b ≡ false
second_false true b both first = both
second_false false b both first = absurd (false≢true first)

first_true : (a b : Bool) → (a && b) ≡ true → a ≡ true
first_true true b both = refl
first_true false b both = absurd (false≢true both)

second_true : (a b : Bool) → (a && b) ≡ true → b ≡ true
second_true true b both = both
second_true false b both = absurd (false≢true both)

-- Yes or no.

-- a claim does not both have a yes and have none
pub no_both : {A : Type 0} (one other : Stated) → one ≡ other
    → HasYes other.claim → HasNoYes one.claim → A
no_both one other same has_yes none =
    let also : HasYes one.claim = subst (λ (s : Stated). HasYes s.claim) (sym same) has_yes in
    absurd (none (has also.0) also.1.says also.1.secure)

-- nor do files that mean one
pub not_both : {A : Type 0} (files : Files) (one other : Stated)
    → stated files.texts ≡ Ok one
    → stated files.texts ≡ Ok other
    → HasYes one.claim
    → HasNoYes other.claim
    → A
not_both files one other is also has_yes none =
    no_both other one (ok_is other one (sym also ∙ is)) has_yes none

-- What is searched.

or_parts : (a b : Bool) → (a || b) ≡ false → (a ≡ false) × (b ≡ false)
or_parts false b e = (refl, e)
or_parts true b e = absurd (false≢true (sym e))

-- where nothing is waived no line is
none_waives : (line : ForbiddenLine) (demands : List Demand)
    → list_any is_waived demands ≡ false
    → is_waived_line demands line ≡ false
none_waives line [] none = refl
none_waives line (d ∷ demands) none =
    let parts = or_parts (is_waived d) (list_any is_waived demands) none in
    ap (λ b. (b && same_line d.holding line) || is_waived_line demands line) parts.0
    ∙ none_waives line demands parts.1

-- so all broken lines are searched
pub all_searched : (demands : List Demand) (broken : List BrokenLine)
    → list_any is_waived demands ≡ false
    → searched demands broken ≡ broken
all_searched demands [] none = refl
all_searched demands (b ∷ broken) none =
    ap (λ w. cond (not w) (b ∷ searched demands broken) (searched demands broken))
    (none_waives b.line demands none)
    ∙ ap (λ bs. b ∷ bs) (all_searched demands broken none)

-- Answers.

-- that the policy is broken
pub broken_is : (line only : Option ℕ) (files : Files) (meant : Stated) (found : Judgement)
    (notices : Notices)
    → stated files.texts ≡ Ok meant
    → IsJudged meant found
    → is_passed found ≡ false
    → IsShownLine line only found
    → AreNotices files meant notices
    → IsBroken line files notices (record {
      stated = meant;
      verdict = found.verdict;
      told = found.told;
      only = only;
    })
broken_is line only files meant found notices says j not_passed shown noted =
    let yes = is_yes found.verdict.exposed found.verdict.broken.items in
    record {
      says = says;
      least = j.least;
      first = j.first;
      reached = j.reached;
      are = j.are;
      chains = j.chains;
      no = j.no;
      lacks = λ is. met_is meant found false j
          (second_false yes (are_met found.told.items) not_passed is);
      are_told = are_told meant found j;
      only = shown.same;
      asked = asked_so line meant found j shown.has;
      shown = subst (λ (o : Option ℕ). IsAsked o found.verdict.exposed found.told.items)
          (sym shown.same) (shown_so line files meant found says j not_passed shown.has);
      are_notices = noted;
    }

-- a yes besides what is waived
pub waived_is : (line only : Option ℕ) (files : Files) (meant : Stated) (found : Judgement)
    (notices : Notices)
    → stated files.texts ≡ Ok meant
    → IsJudged meant found
    → is_passed found ≡ true
    → only ≡ line
    → AreWaivedNotices files meant notices
    → IsWaived line files notices (record {
      stated = meant;
      verdict = found.verdict;
      told = found.told;
      only = only;
    })
waived_is line only files meant found notices says j passed same noted =
    let yes = is_yes found.verdict.exposed found.verdict.broken.items in
    record {
      says = says;
      yes = j.yes (first_true yes (are_met found.told.items) passed);
      met = met_is meant found true j (second_true yes (are_met found.told.items) passed);
      are = are_told meant found j;
      only = same;
      are_notices = noted;
    }

-- a yes
pub allowed_is : (files : Files) (meant : Stated) (found : Judgement) (notices : Notices)
    → stated files.texts ≡ Ok meant
    → IsJudged meant found
    → is_passed found ≡ true
    → AreYesNotices files meant notices
    → IsAllowed files notices
allowed_is files meant found notices says j passed noted =
    let yes = is_yes found.verdict.exposed found.verdict.broken.items in
    record {
      meant = meant;
      says = says;
      yes = j.yes (first_true yes (are_met found.told.items) passed);
      met = met_is meant found true j (second_true yes (are_met found.told.items) passed);
      are_notices = noted;
    }

-- so it is of a reply
pub yes_reply_is : {E : Type 0} (files : Files) (meant : Stated) (found : Judgement)
    (r : Result Reply E)
    → stated files.texts ≡ Ok meant
    → IsJudged meant found
    → is_passed found ≡ true
    → IfOk r (λ reply. reply.answer ≡ Yes)
    → IfOk r (λ reply. AreYesNotices files meant reply.notices)
    → IfOk r (IsYesReply files)
yes_reply_is files meant found (Ok reply) says j passed is noted =
    record { is = is; right = allowed_is files meant found reply.notices says j passed noted }
yes_reply_is files meant found (Err e) says j passed is noted = tt

-- these are answers of `verify`
pub verified_broken : {E : Type 0} (line : Option ℕ) (files : Files) (r : Result Reply E)
    → IfOk r (IsBrokenReply line files)
    → IfOk r (λ reply. IsVerified line files reply.answer reply.notices)
verified_broken line files (Ok reply) b =
    subst (λ (a : Answer). IsVerified line files a reply.notices) (sym b.is) b.right
verified_broken line files (Err e) b = tt

pub verified_waived : {E : Type 0} (line : Option ℕ) (files : Files) (r : Result Reply E)
    → IfOk r (IsWaivedReply line files)
    → IfOk r (λ reply. IsVerified line files reply.answer reply.notices)
verified_waived line files (Ok reply) b =
    subst (λ (a : Answer). IsVerified line files a reply.notices) (sym b.is) b.right
verified_waived line files (Err e) b = tt

pub verified_yes : {E : Type 0} (line : Option ℕ) (files : Files) (r : Result Reply E)
    → IfOk r (IsYesReply files)
    → IfOk r (λ reply. IsVerified line files reply.answer reply.notices)
verified_yes line files (Ok reply) y =
    subst (λ (a : Answer). IsVerified line files a reply.notices) (sym y.is) y.right
verified_yes line files (Err e) y = tt

-- and of `attack`
pub attacked_broken : {E : Type 0} (line : Option ℕ) (files : Files) (r : Result Reply E)
    → IfOk r (IsBrokenReply line files)
    → IfOk r (λ reply. IsAttacked line files reply.answer reply.notices)
attacked_broken line files (Ok reply) b =
    subst (λ (a : Answer). IsAttacked line files a reply.notices) (sym b.is) b.right
attacked_broken line files (Err e) b = tt

pub attacked_waived : {E : Type 0} (line : Option ℕ) (files : Files) (r : Result Reply E)
    → IfOk r (IsWaivedReply line files)
    → IfOk r (λ reply. IsAttacked line files reply.answer reply.notices)
attacked_waived line files (Ok reply) b =
    subst (λ (a : Answer). IsAttacked line files a reply.notices) (sym b.is) b.right
attacked_waived line files (Err e) b = tt

pub attacked_yes : {E : Type 0} (files : Files) (r : Result Reply E)
    → IfOk r (IsYesReply files)
    → IfOk r (λ reply. IsAttacked None files reply.answer reply.notices)
attacked_yes files (Ok reply) y =
    subst (λ (a : Answer). IsAttacked None files a reply.notices) (sym y.is) (refl, y.right)
attacked_yes files (Err e) y = tt

-- that nothing is told of the line that is asked for
untold_is : (line : Option ℕ) (number : ℕ) (files : Files) (meant : Stated) (found : Judgement)
    → line ≡ Some number
    → stated files.texts ≡ Ok meant
    → IsJudged meant found
    → has_line found.told.items number ≡ false
    → IsNotBroken line files
untold_is line number files meant found asked says j none = record {
  meant = meant;
  says = says;
  number = number;
  asked = asked;
  none = told_at meant found number false j none;
}

pub untold_verified : (line : Option ℕ) (number : ℕ) (files : Files) (meant : Stated)
    (found : Judgement) (reply : Reply)
    → line ≡ Some number
    → stated files.texts ≡ Ok meant
    → IsJudged meant found
    → has_line found.told.items number ≡ false
    → reply.answer ≡ Fault (Word NotBroken)
    → reply.notices ≡ no_notices
    → IsVerified line files reply.answer reply.notices
untold_verified line number files meant found reply asked says j none is noted =
    subst (λ (a : Answer). IsVerified line files a reply.notices) (sym is)
    (untold_is line number files meant found asked says j none, noted)

pub untold_attacked : (line : Option ℕ) (number : ℕ) (files : Files) (meant : Stated)
    (found : Judgement) (reply : Reply)
    → line ≡ Some number
    → stated files.texts ≡ Ok meant
    → IsJudged meant found
    → has_line found.told.items number ≡ false
    → reply.answer ≡ Fault (Word NotBroken)
    → reply.notices ≡ no_notices
    → IsAttacked line files reply.answer reply.notices
untold_attacked line number files meant found reply asked says j none is noted =
    subst (λ (a : Answer). IsAttacked line files a reply.notices) (sym is)
    (untold_is line number files meant found asked says j none, noted)

-- a yes is answered where it is one
pub yes_is : {E : Type 0} (files : Files) (r : Result Reply E)
    → IfOk r (IsYesReply files)
    → IfOk r (λ reply. reply.answer ≡ Yes)
yes_is files (Ok reply) y = y.is
yes_is files (Err e) y = tt

-- of a system of which nothing is told, and whose least set is a yes, that is found
pub passed_if : {A : Type 0} (meant : Stated) (found : Judgement)
    → IsJudged meant found
    → HasYes meant.claim
    → AreTold meant []
    → is_passed found ≡ false
    → A
passed_if meant found j has_yes nothing not_passed =
    let none : [] ≡ found.told.items =
    nothing (has found.verdict.facts) j.least ∙ sym j.told_are in
    let met : are_met found.told.items ≡ true = ap are_met (sym none) in
    let yes = is_yes found.verdict.exposed found.verdict.broken.items in
    no_both meant meant refl has_yes (j.no (no_first yes (are_met found.told.items) met not_passed))
  where
    no_first : (a b : Bool) → b ≡ true → (a && b) ≡ false → a ≡ false
    no_first true b is both = absurd (false≢true (sym both ∙ is))
    no_first false b is both = refl

-- nothing is told then
pub nothing_told : (meant : Stated) (found : Judgement)
    → IsJudged meant found
    → AreTold meant []
    → found.told.items ≡ []
nothing_told meant found j nothing =
    j.told_are ∙ sym (nothing (has found.verdict.facts) j.least)

-- `attack`: attacks on what is exposed and broken and not waived, on all of it or on the line that is
-- asked for
pub attacks_so : {E : Type 0} (line only : Option ℕ) (files : Files) (meant : Stated)
    (found : Judgement) (result : Result Reply E)
    → stated files.texts ≡ Ok meant
    → IsJudged meant found
    → is_yes found.verdict.exposed found.verdict.broken.items ≡ false
    → IsShownLine line only found
    → IfOk result (AreAttacksOn only files meant found)
    → IfOk result (λ reply. IsAttacked line files reply.answer reply.notices)
attacks_so line only files meant found (Ok reply) says j not_yes shown on =
    let a = on.attacked in
    let own : IsJudged a.stated found = subst (λ (s : Stated). IsJudged s found) (sym on.of) j in
    subst (λ (x : Answer). IsAttacked line files x reply.notices) (sym on.is) (record {
      says = says ∙ ap (λ (s : Stated). Ok s) (sym on.of);
      exposed = found.verdict.exposed;
      first = own.first;
      broken = found.verdict.broken.items;
      are = own.are;
      no = own.no not_yes;
      only = on.only_is ∙ shown.same;
      asked = asked_so line a.stated found own shown.has;
      are_told = λ set least. on.told_is ∙ are_told a.stated found own set least;
      lines = on.lines
          ∙ ap (λ (ds : List Demand). aims only found.verdict.exposed
          (searched ds found.verdict.broken.items)) (sym on.told_is)
          ∙ ap (λ (o : Option ℕ). aims o found.verdict.exposed
          (searched a.told.items found.verdict.broken.items)) (sym on.only_is);
      leaks = subst (λ (o : Option ℕ). All (IsAttack (form_of o) a.stated.claim.table)
          a.found.items) (sym on.only_is)
          (subst (λ (s : Stated). All (IsAttack (form_of only) s.claim.table) a.found.items)
          (sym on.of) on.leaks);
      are_notices = subst (λ (s : Stated). AreNotices files s reply.notices) (sym on.of)
          on.are_notices;
    })
attacks_so line only files meant found (Err e) says j not_yes shown on = tt

-- of texts whose least set is a yes no attacks are answered
no_attack : (line : Option ℕ) (files : Files) (meant : Stated) (answer : Answer)
    (notices : Notices)
    → stated files.texts ≡ Ok meant
    → HasYes meant.claim
    → IsAttacked line files answer notices
    → HasNoAttack answer
no_attack line files meant (Attacks a) notices says has_yes right =
    not_both files meant a.stated says right.says has_yes right.no
no_attack line files meant answer notices says has_yes right = tt

pub only_unattacked : {E : Type 0} (line : Option ℕ) (files : Files) (meant : Stated)
    (result : Result Reply E)
    → stated files.texts ≡ Ok meant
    → HasYes meant.claim
    → IfOk result (λ reply. IsAttacked line files reply.answer reply.notices)
    → IfOk result (λ reply. HasNoAttack reply.answer)
only_unattacked line files meant (Ok reply) says has_yes right =
    no_attack line files meant reply.answer reply.notices says has_yes right
only_unattacked line files meant (Err e) says has_yes right = tt
