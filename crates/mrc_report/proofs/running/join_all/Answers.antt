use Rattle.std.proofs.Common.{◌≡◌, ◌++◌, [], ◌∷◌, MatchResult, None, refl, rules, subst, sym}
use Rattle.std.specs.Vec.Iter.{into_iter_items}
use Rattle.mrc_report.specs.Plays.{AreEnded, IsPlayed}
use Rattle.mrc_report.proofs.Joining.{first_of, from_both, later_of, none_ended, one_more, taken_on}
use Rattle.mrc_report.proofs.running.join_all.Goals as goal

pub loop-one-init : goal.loop-one-init
loop-one-init g c = (
  search rules,
  search rules,
  λ k x at. c.requires.each k x (search rules),
  (
    [],
    (
      search rules,
      subst (λ ss. AreEnded c.args.script.now [] ss None) (sym c.requires.empty)
          (none_ended c.args.script.now),
    ),
  ),
)

-- the first of the rest has ended with what it promised, and is one more of the seats
pub loop-one-preserved : goal.loop-one-preserved
loop-one-preserved g c =
    let script = c.args.script.now in
    let was = c.loop-one.invariant in
    let one = c.in-Some.one in
    let old = one.before.value in
    let rest = into_iter_items c.loop-one.one-iterator in
    let later = into_iter_items c.next.new.self in
    let next = c.in-Some.ensures.steps.0 in
    let end = c.ended-seat.result in
    let olds = was.3.0 in
    let keeps = first_of one rest later (λ x. MatchResult x.thread
    (λ h. (h.promise.seat.value ≡ x.before.value) × (h.promise.script.value ≡ script))
    (λ p. IsPlayed script x.before.value p.seat p.halt)) next was.2 in
    let played : IsPlayed script old end.seat end.halt =
    from_both one.thread
    (λ h. (h.promise.seat.value ≡ old) × (h.promise.script.value ≡ script))
    (λ h. IsPlayed h.promise.script.value h.promise.seat.value end.seat end.halt)
    (λ p. IsPlayed script old p.seat p.halt)
    (λ p. end ≡ p)
    (IsPlayed script old end.seat end.halt)
    (λ h is this. subst (λ ls. IsPlayed ls old end.seat end.halt) is.1
    (subst (λ s. IsPlayed h.promise.script.value s end.seat end.halt) is.0 this))
    (λ p this is. subst (λ q. IsPlayed script old q.seat q.halt) (sym is) this)
    keeps c.ended-seat.ensures in (
      search rules,
      search rules,
      later_of one rest later (λ x. MatchResult x.thread
          (λ h. (h.promise.seat.value ≡ x.before.value) × (h.promise.script.value ≡ script))
          (λ p. IsPlayed script x.before.value p.seat p.halt)) next was.2,
      (
        olds ++ old ∷ [],
        (
          taken_on one rest later (λ x. x.before.value) olds next was.3.1.0,
          one_more script olds c.loop-one.seats.items (olds ++ old ∷ [])
              c.push_reserved.new.self.items c.loop-one.first c.earlier-first.result old end.seat
              end.halt was.3.1.1 played refl c.push_reserved.ensures.items
              c.earlier-first.ensures,
        ),
      ),
    )
