use Rattle.std.proofs.Common.{◌≡◌, ◌<◌, Some, length, slice_get, slice_set, rules, subst, sym}
use Rattle.std.proofs.lemmas.Option.{slice_get_read, slice_get_within}
use Rattle.mrc_live.specs.Parts.{HasPlace}
use Rattle.mrc_live.proofs.Following.{places_more}
use Rattle.mrc_live.proofs.finishing.places_of.Goals as goal

pub loop-i-preserved : goal.loop-i-preserved
loop-i-preserved g c =
    let seats = c.args.seats.now in
    let places = c.loop-i.places in
    let i = c.loop-i.i in
    let mine = c.index-seats-i.result in
    let there : slice_get seats i ≡ Some mine = search (rules, slice_get_read) in
    let inside = subst (λ n. mine.number < n) (sym c.loop-i.invariant.0) c.number.ensures.within in (
      search rules,
      λ k s less at. subst (λ n. HasPlace seats (slice_set places n i) s)
          (sym c.number.ensures.exact)
          (places_more seats places i mine there inside
          (λ k s less at. c.loop-i.invariant.1 k s less at) k s less at),
    )

pub returns : goal.returns
returns g c = λ i s at.
    let low = slice_get_within c.args.seats.now i s at in
    c.loop-i.invariant.1 i s (search rules) at
