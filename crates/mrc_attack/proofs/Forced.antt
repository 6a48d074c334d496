-- A line that a run breaks forbids a fact of every closed set: else the set without it would be a
-- yes, and no run from the first state ends in a breach.
use Rattle.std.proofs.Common.{◌≡◌, ℕ, Bool, true, false, List, [], ◌∷◌, map, refl, sym, ap, ◌∙◌}
use Rattle.std.proofs.Common.{IsTrue}
use Rattle.std.proofs.lemmas.Bool.{false≢true}
use Rattle.mrc_base.specs.declared.Fact.{Fact}
use Rattle.mrc_base.specs.declared.Fact.TheVariants.{Hold}
use Rattle.mrc_cover.proofs.Laws.{runs_are_safe}
use Rattle.mrc_confine.proofs.Meaning.{broken_has_none}
use Rattle.mrc_confine.proofs.Safe.{sound_of}
use Rattle.mrc_model.specs.Breach.{Breach, Forbid}
use Rattle.mrc_model.specs.First.{first, is_sound}
use Rattle.mrc_model.specs.IsIn.{IsIn, here, later}
use Rattle.mrc_model.specs.Rules.{Closed, ForbidsNone, Has}
use Rattle.mrc_model.specs.Runs.{Event, Run}
use Rattle.mrc_model.specs.Wiring.{Wiring}
use Rattle.mrc_model.specs.World.{World}
use Rattle.mrc_wiring.specs.Claims.{Claimed, holding_of}
use Rattle.mrc_wiring.specs.declared.claim.ForbiddenLine.{ForbiddenLine}
use Rattle.mrc_wiring.specs.Table.{Table, wiring_of}
use Rattle.mrc_attack.specs.Refuting.{BreachesAreForced, LeaksAreForced, BreachesHaveNoYes}
use Rattle.mrc_attack.specs.Refuting.{LeaksHaveNoYes}

-- the fact that a line forbids
abbrev fact_of : Forbid → Fact
fact_of line = Hold line.task line.class line.right

is_only : (line other : Forbid) → IsIn other (line ∷ []) → other ≡ line
is_only line other (here) = refl
is_only line other (later h) = elim h [ ]

-- a set without the fact of the one line
none_forbidden : (set : Fact → Bool) (line : Forbid) → set (fact_of line) ≡ false
    → ForbidsNone (line ∷ []) (Has set)
none_forbidden set line off other among held =
    false≢true (sym off ∙ sym (ap (λ l. set (fact_of l)) (is_only line other among)) ∙ held)

has_fact : (W : Wiring) (line : Forbid) (events : List Event) (w : World) → IsTrue (is_sound W)
    → Run W (first W) events w → Breach W w (line ∷ [])
    → (set : Fact → Bool) → Closed W (Has set)
    → (b : Bool) → set (fact_of line) ≡ b → IsTrue (set (fact_of line))
has_fact W line events w sound run breach set closed true is = is
has_fact W line events w sound run breach set closed false is =
    absurd ((runs_are_safe W (line ∷ []) set sound
    record { closed = closed; allowed = none_forbidden set line is } events w run).1 breach)

pub breaches_forced : BreachesAreForced
breaches_forced W line events w sound run breach set closed =
    has_fact W line events w sound run breach set closed (set (fact_of line)) refl

pub leaks_forced : (table : Table) → IsTrue (is_sound (wiring_of table)) → LeaksAreForced table
leaks_forced table sound line text leak =
    let end = leak.breaking.end in
    breaches_forced (wiring_of table) line end.events leak.breaking.world sound end.run
    leak.breaking.breach

pub breaches_have_no_yes : BreachesHaveNoYes
breaches_have_no_yes defs wiring policy claim mean x =
    let sound = sound_of defs wiring policy claim mean in
    broken_has_none defs wiring policy claim mean record {
      line = x.line;
      among = x.among;
      least = breaches_forced (wiring_of claim.table) x.line x.events x.world sound x.leads x.breach;
    }

forbidden_among : (line : ForbiddenLine) (lines : List ForbiddenLine) → IsIn line lines
    → IsIn (holding_of line) (map holding_of lines)
forbidden_among line [] h = elim h [ ]
forbidden_among line (other ∷ lines) (here) = here
forbidden_among line (other ∷ lines) (later h) = later (forbidden_among line lines h)

pub leaks_have_no_yes : LeaksHaveNoYes
leaks_have_no_yes defs wiring policy claim mean x =
    let sound = sound_of defs wiring policy claim mean in
    broken_has_none defs wiring policy claim mean record {
      line = holding_of x.line;
      among = forbidden_among x.line claim.lines x.among;
      least = leaks_forced claim.table sound (holding_of x.line) x.text x.leak;
    }
