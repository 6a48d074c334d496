use Rattle.std.proofs.Common.{ap, subst, sym, ◌∙◌, Result, Ok, Err}
use Rattle.std.specs.Prelude.{IfOk}
use Rattle.mrc_model.proofs.FirstHeld.{first_given}
use Rattle.mrc_model.specs.FirstHoldings.{given_holdings, facts_by}
use Rattle.mrc_wiring.specs.Table.{wiring_of}
use Rattle.mrc_wiring.specs.FirstState.{HasFirstHolds, AreHolds}
use Rattle.mrc_wiring.proofs.FirstHolds.{facts_are_held, facts_are_holds}
use Rattle.mrc_wiring.proofs.wired.Wired.first_holdings.Goals as goal

told : {X E : Type 0} (r : Result X E) (P Q : X → Type 0) → ((x : X) → P x → Q x) → IfOk r P
    → IfOk r Q
told (Ok x) P Q f h = f x h
told (Err e) P Q f h = h

-- what the lines give is what is held in the first state
pub returns-clause-held : goal.returns-clause-held
returns-clause-held c =
    let W = wiring_of c.args.self.now in
    let holds = facts_are_held W (first_given W c.tasks-kept.ensures.sound) in
    told c.line_holds.result _ _ (λ v e. subst (HasFirstHolds W)
    (sym (e ∙ ap (λ cs. facts_by cs (given_holdings W)) c.first_classes.ensures)) holds)
    c.line_holds.ensures

-- each line gives a hold
pub returns-clause-only : goal.returns-clause-only
returns-clause-only c =
    let W = wiring_of c.args.self.now in
    told c.line_holds.result _ _ (λ v e. subst AreHolds (sym e)
    (facts_are_holds c.first_classes.result.now (given_holdings W))) c.line_holds.ensures
