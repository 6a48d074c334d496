use Rattle.std.proofs.Common.{◌≡◌, Some, length, slice_get, take, rules, ap, ◌∙◌, subst, refl, inr}
use Rattle.std.proofs.Math.Seq.{take-length}
use Rattle.mrc_live.proofs.Differing.{goes_on_there}
use Rattle.std.proofs.lemmas.Option.{slice_get_read, slice_get_within}
use Rattle.mrc_live.specs.Parts.{Continues, Follows, IsSeated}
use Rattle.mrc_live.proofs.Following.{follows_next, each_more}
use Rattle.mrc_live.proofs.finishing.first_difference.Goals as goal

pub loop-k-preserved : goal.loop-k-preserved
loop-k-preserved g c =
    let events = c.args.events.now in
    let k = c.loop-k.k in
    let e = c.index-events-k.result in
    let here : slice_get events k ≡ Some e = search (rules, slice_get_read) in
    let on = c.if-not-goes_on.ensures in (
      follows_next c.args.seats.now c.goes_on.new.next events k e here
          (on.follows (search rules) (take k events) c.loop-k.invariant.0),
      each_more (λ j e. IsSeated c.args.seats.now e) events k e here
          (on.seated (search rules)) c.loop-k.invariant.1,
      each_more (λ j e. Continues c.args.seats.now (take j events) e) events k e here
          ((on.continues (take k events) c.loop-k.invariant.0).0 (search rules))
          c.loop-k.invariant.2,
    )

pub returns-then-all_end-clause-owners : goal.returns-then-all_end-clause-owners
returns-then-all_end-clause-owners g c = λ k e at.
    let low = slice_get_within c.args.events.now k e at in
    c.loop-k.invariant.1 k e (search rules) at

pub all_end-requires : goal.all_end-requires
all_end-requires g c = λ i s at. (c.requires i s at).0

pub returns-clause-first : goal.returns-clause-first
returns-clause-first g c =
    let seats = c.args.seats.now in
    let events = c.args.events.now in
    let end : c.loop-k.k ≡ length events = search rules in
    let follows : Follows seats c.loop-k.next events = subst (Follows seats c.loop-k.next)
    (ap (λ n. take n events) end ∙ take-length events) c.loop-k.invariant.0 in
    let more = c.if-all_end.ensures.goes_on (search rules) in
    record {
      before = λ k e low at. c.loop-k.invariant.2 k e (search rules) at;
      here = inr (
        refl,
        goes_on_there seats c.loop-k.next events more.0 more.1.0 follows more.1.1
            more.1.2,
      );
    }
