use Rattle.std.proofs.Common.{sym, ◌∙◌, ap}
use Rattle.std.proofs.lemmas.Result.{err_from_is_err_and}
use Rattle.std.specs.Option.{option_map}
use Rattle.mrc_model.specs.Space.{entry_of, put_entry}
use Rattle.mrc_names.proofs.ForetellingLaws.{get_left, move_told, move_refused}
use Rattle.mrc_names.proofs.space.Space.foretell_move.Goals as goal

pub returns-in_err-taken : goal.returns-in_err-taken
returns-in_err-taken c =
    let p = err_from_is_err_and c.from_residual.result c.from_residual.ensures.1 in
    rw (p.1, p.2) (move_refused c.args.self.now c.args.from c.args.to c.args.disp _
    c.in_err-taken.ensures.refused)

pub returns : goal.returns
returns c =
    let x = c.args.self.now in
    let at = c.in_ok-taken.ensures in
    let rest = c.in_ok-taken.taken.1 in
    move_told c.foretell.result x _ c.args.from _ c.args.to c.args.disp c.give.result
    at.found c.give.ensures (c.foretell.ensures _
    (ap (λ z. option_map (λ (e : _). e.0) (entry_of (put_entry z c.args.from rest)
    c.in_ok-taken.taken.0)) (sym c.self.view_is) ∙ sym c.name_left-known.ensures)
    (get_left x c.args.from at.there c.args.to rest ∙ sym c.held_left-held.ensures)
    (at.full ∙ sym c.is_full_left-full.ensures))
