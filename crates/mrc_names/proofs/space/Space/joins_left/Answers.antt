use Rattle.std.proofs.Common.{◌∙◌, ap, sym}
use Rattle.std.specs.Option.{option_map}
use Rattle.mrc_model.specs.Space.{entry_of, put_entry}
use Rattle.mrc_names.proofs.GivingLaws.{given_once}
use Rattle.mrc_names.proofs.ExchangingLaws.{found_by, new_by}
use Rattle.mrc_names.proofs.space.Space.joins_left.Goals as goal

pub returns-in-SendOnce-clause-new : goal.returns-in-SendOnce-clause-new
returns-in-SendOnce-clause-new c = λ none.
    given_once (put_entry c.args.self.now c.args.name c.args.rest.now) c.args.port c.args.right
    c.in-SendOnce.is

pub returns : goal.returns
returns c =
    let y = put_entry c.args.self.now c.args.name c.args.rest.now in
    let name = c.name_left.ensures
    ∙ ap (λ x. option_map (λ (e : _). e.0) (entry_of (put_entry x c.args.name c.args.rest.now)
    c.args.port)) c.self.view_is in
    record {
      other = λ has. c.in_default.not-SendOnce;
      found = λ has. found_by c.name_left.result (entry_of y c.args.port) name
          (sym c.is_some.ensures ∙ has);
      new = λ none. new_by y c.args.port c.args.right c.name_left.result c.in_default.not-SendOnce
          name (sym c.is_some.ensures ∙ none);
    }
