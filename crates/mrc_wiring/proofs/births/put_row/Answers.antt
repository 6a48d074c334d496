use Rattle.std.proofs.Common.{◌≡◌, ◌∙◌, ℕ, List, Bool, ap, sym, set, arith}
use Rattle.std.specs.List.{insert}
use Rattle.mrc_wiring.specs.declared.births.BirthRow.{BirthRow}
use Rattle.mrc_wiring.specs.Births.{said_row}
use Rattle.mrc_wiring.specs.RowPlaces.{place_of, stands_at}
use Rattle.mrc_wiring.proofs.BirthLaws.{put_there, put_between}
use Rattle.mrc_wiring.proofs.births.put_row.Goals as goal

stands : (rows seen again : List BirthRow) (at t kind : ℕ) (test is : Bool)
    → at ≡ place_of seen t kind
    → seen ≡ rows
    → test ≡ stands_at again at t kind
    → again ≡ rows
    → test ≡ is
    → (at ≡ place_of rows t kind) × (stands_at rows (place_of rows t kind) t kind ≡ is)
stands rows seen again at t kind test is place one said two tested =
    let here : at ≡ place_of rows t kind = place ∙ ap (λ (rs : List BirthRow). place_of rs t kind)
    one
    in (
      here,
      sym (said ∙ ap (λ (rs : List BirthRow). stands_at rs at t kind) two
          ∙ ap (λ (n : ℕ). stands_at rows n t kind) here) ∙ tested,
    )

pub insert-requires : goal.insert-requires
insert-requires c = omega (arith, c.place_of-at.ensures.within, c.deref.ensures.len)

pub returns-then-stands_at : goal.returns-then-stands_at
returns-then-stands_at c =
    let rows = c.args.rows.now.items in
    let row = said_row c.args.task c.args.kind c.args.label in
    let is = stands rows c.deref.result.now c.deref-2.result.now c.place_of-at.result c.args.task
    c.args.kind c.stands_at.result _ c.place_of-at.ensures.exact c.deref.ensures.value
    c.stands_at.ensures c.deref-2.ensures.value c.if-stands_at.true in
    ap (λ (n : ℕ). set rows n row) is.0
    ∙ put_there rows c.args.task c.args.kind c.args.label is.1

pub returns-in_ok-insert : goal.returns-in_ok-insert
returns-in_ok-insert c =
    let rows = c.args.rows.now.items in
    let row = said_row c.args.task c.args.kind c.args.label in
    let is = stands rows c.deref.result.now c.deref-2.result.now c.place_of-at.result c.args.task
    c.args.kind c.stands_at.result _ c.place_of-at.ensures.exact c.deref.ensures.value
    c.stands_at.ensures c.deref-2.ensures.value c.if-stands_at.false in
    c.in_ok-insert.ensures.items ∙ ap (λ (n : ℕ). insert rows n row) is.0
    ∙ put_between rows c.args.task c.args.kind c.args.label is.1
