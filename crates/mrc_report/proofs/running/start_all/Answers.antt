use Rattle.std.proofs.Common.{◌≡◌, MatchResult, rules, subst, sym}
use Rattle.std.specs.Vec.Iter.{into_iter_items}
use Rattle.mrc_report.specs.Plays.{IsPlayed}
use Rattle.mrc_report.proofs.Joining.{both_of, grown_of, moved}
use Rattle.mrc_report.proofs.running.start_all.Goals as goal

pub loop-seat-preserved : goal.loop-seat-preserved
loop-seat-preserved g c =
    let script = c.args.script.now in
    let was = c.loop-seat.invariant in
    let done = c.loop-seat.running.items in
    let more = c.push_reserved.new.self.items in
    let longer = c.push_reserved.ensures.items in
    let seat = c.in-Some.seat in
    let one = c.start.result in
    let here = both_of one.thread (λ h. h.promise.seat.value ≡ seat)
    (λ h. h.promise.script.value ≡ script) (λ p. IsPlayed script seat p.seat p.halt)
    c.start.ensures.seat c.start.ensures.script c.start.ensures.err in (
      search rules,
      search rules,
      moved one done more (λ x. x.before.value) seat (into_iter_items c.loop-seat.seat-iterator)
          (into_iter_items c.next.new.self) longer c.start.ensures.before
          c.in-Some.ensures.steps.0 was.2,
      grown_of one done more (λ x. MatchResult x.thread
          (λ h. (h.promise.seat.value ≡ x.before.value) × (h.promise.script.value ≡ script))
          (λ p. IsPlayed script x.before.value p.seat p.halt)) longer was.3
          (subst (λ s. MatchResult one.thread
          (λ h. (h.promise.seat.value ≡ s) × (h.promise.script.value ≡ script))
          (λ p. IsPlayed script s p.seat p.halt)) (sym c.start.ensures.before) here),
    )
