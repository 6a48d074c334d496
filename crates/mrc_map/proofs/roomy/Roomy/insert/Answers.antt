use Rattle.std.proofs.Common.{◌≡◌, ◌∙◌, ◌<◌, ap, sym, subst, refl, cond, Some, nat_eq, true≢false}
use Rattle.std.specs.Prelude.{IsSome, is_ok}
use Rattle.std.specs.HashMap.{get, spare}
use Rattle.mrc_model.specs.Map.{insert}
use Rattle.mrc_map.specs.Lookups.{gathered}
use Rattle.mrc_map.specs.Rooms.{Roomy}
use Rattle.mrc_map.proofs.LookupLaws.{gathered_insert}
use Rattle.mrc_map.proofs.RoomLaws.{has_place}
use Rattle.mrc_map.proofs.roomy.Roomy.insert.Goals as goal
use Rattle.mrc_map.proofs.roomy.Roomy.insert.Goals.{in-Ok+in-Some-1, in-Ok+in-None-1, in-Err-1}

pub unreachable-requires : goal.unreachable-requires
unreachable-requires g c =
    let place = has_place c.self.inside.entries.entries c.self.inside.room _ _ c.self.view_is
    c.get_mut.ensures.unique c.self.invariant c.requires in
    let kept = c.get_mut.follows.holds-at-none in
    true≢false (sym (c.insert.ensures.succeeds (subst (λ m. 0 < spare m) (sym kept) place))
    ∙ ap is_ok c.in-Err.is)

pub returns-in-Some-clause-map : goal.returns-in-Some-clause-map
returns-in-Some-clause-map g c =
    gathered_insert c.args.key c.args.value c.self.inside.entries.entries
    (c.get_mut.follows.lender c.args.value).entries _
    (ap (λ (r : Roomy _). r.map) c.self.view_is)
    ((c.get_mut.follows.holds c.args.value).3 (subst IsSome c.in-Some.ensures.value refl)).0

pub returns-in-Ok-clause-map : goal.returns-in-Ok-clause-map
returns-in-Ok-clause-map g c =
    let shown = ap (λ (r : Roomy _). r.map) c.self.view_is in
    let kept = c.get_mut.follows.holds-at-none in
    let put : gathered c.insert.new.self.entries ≡ insert c.args.self.now.map c.args.key c.args.value
    = gathered_insert c.args.key c.args.value c.self.inside.entries.entries
    c.insert.new.self.entries _ shown (λ q. c.in-Ok.ensures.updates.0 q
    ∙ ap (λ m. cond (nat_eq c.args.key q) (Some c.args.value) (get nat_eq m q)) kept) in
    elim c.match-this.branch [
      | in-Ok+in-Some-1 w ↦ ap (λ (r : Roomy _). r.map) w.self-is ∙ put
      | in-Ok+in-None-1 w ↦ ap (λ (r : Roomy _). r.map) w.self-is ∙ put
      | in-Err-1 w ↦ ap (λ (r : Roomy _). r.map) w.self-is ∙ put
    ]
