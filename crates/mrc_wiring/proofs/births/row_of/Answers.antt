use Rattle.std.proofs.Common.{◌≡◌, ◌∙◌, ℕ, List, Bool, Some, ap, sym}
use Rattle.mrc_wiring.specs.declared.births.BirthRow.{BirthRow}
use Rattle.mrc_wiring.specs.RowPlaces.{place_of, stands_at}
use Rattle.mrc_wiring.proofs.RowPlaces.{position_placed, stands_within}
use Rattle.mrc_wiring.proofs.births.row_of.Goals as goal

-- what the test says of the place
stands : (rows : List BirthRow) (at t kind : ℕ) (test is : Bool)
    → at ≡ place_of rows t kind
    → test ≡ stands_at rows at t kind
    → test ≡ is
    → stands_at rows (place_of rows t kind) t kind ≡ is
stands rows at t kind test is place said tested =
    sym (said ∙ ap (λ (n : ℕ). stands_at rows n t kind) place) ∙ tested

pub returns-then-stands_at-clause-exact : goal.returns-then-stands_at-clause-exact
returns-then-stands_at-clause-exact c =
    let rows = c.args.rows.now in
    ap (λ (n : ℕ). Some n) c.place_of-at.ensures.exact
    ∙ sym (position_placed c.args.task c.args.kind rows _ c.requires
    (stands rows c.place_of-at.result c.args.task c.args.kind c.stands_at.result _
    c.place_of-at.ensures.exact c.stands_at.ensures c.if-stands_at.true))

pub returns-then-stands_at-clause-within : goal.returns-then-stands_at-clause-within
returns-then-stands_at-clause-within c =
    stands_within c.args.rows.now c.place_of-at.result c.args.task c.args.kind
    (sym c.stands_at.ensures ∙ c.if-stands_at.true)

pub returns-else-stands_at-clause-exact : goal.returns-else-stands_at-clause-exact
returns-else-stands_at-clause-exact c =
    let rows = c.args.rows.now in
    sym (position_placed c.args.task c.args.kind rows _ c.requires
    (stands rows c.place_of-at.result c.args.task c.args.kind c.stands_at.result _
    c.place_of-at.ensures.exact c.stands_at.ensures c.if-stands_at.false))
