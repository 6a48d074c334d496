-- What the first broken line means, and what a verdict says of changes.
use Rattle.std.proofs.Common.{◌≡◌, true, false, List, [], ◌∷◌, map, Option, Some, None, refl}
use Rattle.std.proofs.Common.{Ok, sym, ap, subst, IsTrue, if◌then◌else◌}
use Rattle.std.specs.Prelude.{find, IfSome, IfNone}
use Rattle.std.specs.Option.{option_map}
use Rattle.mrc_base.specs.declared.Fact.{Fact}
use Rattle.mrc_facts.specs.Sets.{has}
use Rattle.mrc_model.specs.IsIn.{IsIn, here, later}
use Rattle.mrc_model.specs.Rules.{IsLeast}
use Rattle.mrc_wiring.specs.declared.claim.ForbiddenLine.{ForbiddenLine}
use Rattle.mrc_wiring.specs.Table.{wiring_of}
use Rattle.mrc_wiring.specs.Claims.{Claimed, holding_of}
use Rattle.mrc_check.specs.Trusted.{AreSecure}
use Rattle.mrc_check.specs.Verdict.{line_number}
use Rattle.mrc_check.proofs.Accepted.{none_forbidden}
use Rattle.mrc_why.specs.Broken.{is_broken, forbidden_fact, HasYes, HasNoYes}
use Rattle.mrc_forms.specs.Tables.{Table as Interface}
use Rattle.mrc_check.specs.Texts.{Stated}
use Rattle.mrc_mend.specs.declared.changes.Change.{Change}
use Rattle.mrc_mend.specs.declared.judging.Verdict.{Verdict}
use Rattle.mrc_mend.specs.declared.judging.Verdict.TheVariants as verdict
use Rattle.mrc_mend.specs.Judging.{Texts, IfMending, IsYesTo, MendOver, stated_with}

-- a line that is found forbids a fact of the set
found_line : (facts : List Fact) (lines : List ForbiddenLine) (line : ForbiddenLine)
    → find (is_broken (has facts)) lines ≡ Some line
    → IsIn (holding_of line) (map holding_of lines) × IsTrue (has facts (forbidden_fact line))
found_line facts [] line e = cc
found_line facts (first ∷ lines) line e =
    elim (is_broken (has facts) first) as (λ b. is_broken (has facts) first ≡ b
    → (if b then Some first else find (is_broken (has facts)) lines) ≡ Some line
    → IsIn (holding_of line) (map holding_of (first ∷ lines))
    × IsTrue (has facts (forbidden_fact line))) [
      | true ↦ λ broken found. let same : first ≡ line = cc in
          subst (λ l. IsIn (holding_of l) (map holding_of (first ∷ lines))
          × IsTrue (has facts (forbidden_fact l))) same (here, broken)
      | false ↦ λ broken found. let rest = found_line facts lines line found in
          (later rest.0, rest.1)
    ] refl e

-- no task could rewrite a trusted one and no line is broken: the least set is a yes
pub yes_of : (claim : Claimed) (facts : List Fact) (r : Option ForbiddenLine)
    → IsLeast (wiring_of claim.table) (has facts)
    → AreSecure (wiring_of claim.table) (has facts) claim.table.trusts
    → r ≡ find (is_broken (has facts)) claim.lines
    → IfNone r (HasYes claim)
yes_of claim facts None least secure e = (
  facts,
  record {
    least = least;
    secure = secure;
    says = record {
      closed = least.closed;
      allowed = none_forbidden facts claim.lines (ap (option_map line_number) (sym e));
    };
  },
)
yes_of claim facts (Some line) least secure e = tt

-- a line is broken: no set is a yes
pub no_of : (claim : Claimed) (facts : List Fact) (r : Option ForbiddenLine)
    → IsLeast (wiring_of claim.table) (has facts)
    → r ≡ find (is_broken (has facts)) claim.lines
    → IfSome r (λ line. HasNoYes claim)
no_of claim facts None least e = tt
no_of claim facts (Some line) least e = λ set yes secure.
    let found = found_line facts claim.lines line (sym e) in
    yes.allowed (holding_of line) found.0
    (least.least (forbidden_fact line) found.1 set yes.closed)

-- what is said of changes by what the text with them means is so of them
pub mends_over : (interfaces : List Interface) (texts : Texts) (changes : List Change)
    (stated : Stated) (v : Verdict)
    → stated_with interfaces texts changes ≡ Ok stated
    → IfMending (IsYesTo texts.only stated) v
    → IfMending (MendOver interfaces texts changes) v
mends_over interfaces texts changes stated (verdict.Mends lost) means is_yes =
    record { stated = stated; means = means; yes = is_yes }
mends_over interfaces texts changes stated (verdict.Fails next) means is_yes = tt
mends_over interfaces texts changes stated verdict.Senseless means is_yes = tt
