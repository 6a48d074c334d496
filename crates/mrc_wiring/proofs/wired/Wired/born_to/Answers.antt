use Rattle.std.proofs.Common.{◌≡◌, ◌+◌, ◌<◌, ℕ, List, Some, arith, sym, ap, refl, ◌∙◌, length}
use Rattle.std.specs.Prelude.{slice_get}
use Rattle.std.proofs.lemmas.Bool.{ltb-true, ltb-false}
use Rattle.std.proofs.lemmas.Option.{slice_get_within, slice_get_read, same_Some}
use Rattle.mrc_model.specs.Wiring.{births_class}
use Rattle.mrc_wiring.specs.declared.births.BirthRow.{BirthRow}
use Rattle.mrc_wiring.specs.Table.{wiring_of}
use Rattle.mrc_wiring.proofs.BirthLaws.{births_are, births_found, each_get}
use Rattle.mrc_wiring.proofs.wired.Wired.born_to.Goals as goal

-- a class below those of births is nobody's
pub returns-in_err-number-clause-none : goal.returns-in_err-number-clause-none
returns-in_err-number-clause-none c =
    let class : c.class.inside.0 ≡ c.args.class = c.class.view_is in
    let ports = c.ports.ensures.exact in
    let tasks = c.tasks.ensures.exact in
    let table = c.args.self.now in
    rw c.from_residual.ensures (λ task kind e.
    let is = births_are (length table.ports + length table.names) task kind table.births _ e in
    let at = is.1 in
    c.in_err-number.ensures (omega arith))

-- a class behind those of births is nobody's
pub returns-in_err-row-clause-none : goal.returns-in_err-row-clause-none
returns-in_err-row-clause-none c =
    let class : c.class.inside.0 ≡ c.args.class = c.class.view_is in
    let ports = c.ports.ensures.exact in
    let tasks = c.tasks.ensures.exact in
    let table = c.args.self.now in
    let low = c.in_ok-number.ensures.0 in
    let number = c.in_ok-number.ensures.1 in
    let rows = ap (λ (rs : List BirthRow). length rs) c.births.ensures.exact in
    let past = ltb-false _ _ (sym c.in_err-row.ensures.lookup.0) in
    rw c.from_residual-in_err-row.ensures (λ task kind e.
    let is = births_are (length table.ports + length table.names) task kind table.births _ e in
    let at = is.1 in
    let less = slice_get_within table.births is.0 is.2.row is.2.there in
    absurd (omega arith))

pub returns-clause-some : goal.returns-clause-some
returns-clause-some c =
    let class : c.class.inside.0 ≡ c.args.class = c.class.view_is in
    let ports = c.ports.ensures.exact in
    let tasks = c.tasks.ensures.exact in
    let table = c.args.self.now in
    let low = c.in_ok-number.ensures.0 in
    let number = c.in_ok-number.ensures.1 in
    let row = c.in_ok-row.row.now in
    let i = c.in_ok-number.number in
    let less = ltb-true _ _ (sym c.in_ok-row.ensures.lookup.0) in
    let there : slice_get table.births i ≡ Some row =
    ap (λ (rs : List BirthRow). slice_get rs i) (sym c.births.ensures.exact)
    ∙ slice_get_read c.births.result.now (length c.births.result.now) i row refl less
    c.in_ok-row.ensures.lookup.1 in
    let are = c.tasks.ensures.kept.births in
    let of_task = each_get (λ (r : BirthRow). r.task < length table.names) table.births i row
    are.each there in
    let found = births_found (length table.ports + length table.names) table.births i row
    are.ascending there in (
      omega (arith, c.from.ensures),
      (
        row.kind,
        ap (λ (t : ℕ). births_class (wiring_of table) t row.kind) c.from.ensures ∙ found
            ∙ ap (λ (n : ℕ). Some n) (omega arith),
      ),
    )

pub returns-clause-only : goal.returns-clause-only
returns-clause-only c = λ other kind e.
    let class : c.class.inside.0 ≡ c.args.class = c.class.view_is in
    let ports = c.ports.ensures.exact in
    let tasks = c.tasks.ensures.exact in
    let table = c.args.self.now in
    let low = c.in_ok-number.ensures.0 in
    let number = c.in_ok-number.ensures.1 in
    let row = c.in_ok-row.row.now in
    let i = c.in_ok-number.number in
    let less = ltb-true _ _ (sym c.in_ok-row.ensures.lookup.0) in
    let there : slice_get table.births i ≡ Some row =
    ap (λ (rs : List BirthRow). slice_get rs i) (sym c.births.ensures.exact)
    ∙ slice_get_read c.births.result.now (length c.births.result.now) i row refl less
    c.in_ok-row.ensures.lookup.1 in
    let is = births_are (length table.ports + length table.names) other kind table.births _ e in
    let at = is.1 in
    let same : is.0 ≡ i = omega arith in
    let rows : is.2.row ≡ row = same_Some _ _ (sym is.2.there
    ∙ ap (λ (k : ℕ). slice_get table.births k) same ∙ there) in
    sym is.2.task ∙ ap (λ (r : BirthRow). r.task) rows ∙ sym c.from.ensures
