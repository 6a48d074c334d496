use Rattle.std.proofs.Common.{Some, None, sym, ap, ◌∙◌, subst}
use Rattle.mrc_model.specs.Map.{get, insert}
use Rattle.mrc_model.specs.Space.{put_entry, joined, new_entry}
use Rattle.mrc_index.specs.Names.{HoldsAlike}
use Rattle.mrc_index.proofs.UndoLaws.{joined_alike}
use Rattle.mrc_names.proofs.SpaceExits.{port_parted}
use Rattle.mrc_names.proofs.ForetellingLaws.{get_left, move_refused}
use Rattle.mrc_names.proofs.MovingLaws.{move_done, move_room, alike_at}
use Rattle.mrc_names.proofs.space.Space.move_right.Goals as goal

pub returns-in-Err-parting-clause-refused : goal.returns-in-Err-parting-clause-refused
returns-in-Err-parting-clause-refused c =
    move_refused c.args.self.now c.args.from c.args.to c.args.disp c.in-Err-parting.code
    c.in-Err-parting.ensures.refused

pub leave-requires-in-Some : goal.leave-requires-in-Some
leave-requires-in-Some c =
    let x = c.args.self.now in
    let z = put_entry x c.args.from c.in-Ok.taken.1 in
    let there = get_left x c.args.from c.in-Ok.ensures.there c.args.to c.in-Ok.taken.1
    ∙ sym c.held_left.ensures ∙ c.in-Some.is in (
      c.in-Some.held,
      ap (λ y. get y c.args.to) c.leave.ensures ∙ there,
      subst (HoldsAlike c.in-Some.held) (sym c.joined.ensures)
          (joined_alike c.in-Some.held c.give.result),
    )

pub put_left-requires-clause-alike : goal.put_left-requires-clause-alike
put_left-requires-clause-alike c = λ same.
    let x = c.args.self.now in
    let z = put_entry x c.args.from c.in-Ok.taken.1 in
    let there = get_left x c.args.from c.in-Ok.ensures.there c.args.to c.in-Ok.taken.1
    ∙ sym c.held_left.ensures ∙ c.in-None.is in
    let (e, at, alike) = alike_at x c.args.from c.args.disp z c.in-Ok.taken.0
    c.in-Ok.ensures.found (ap (get z) (sym same) ∙ there) in (
      e,
      at,
      subst (HoldsAlike e) (sym (c.new_entry.ensures
          ∙ ap (new_entry c.in-Ok.taken.0) c.give-in-None.ensures)) alike,
    )

pub put_left-requires-clause-unused : goal.put_left-requires-clause-unused
put_left-requires-clause-unused c =
    let x = c.args.self.now in
    let z = put_entry x c.args.from c.in-Ok.taken.1 in
    let there = get_left x c.args.from c.in-Ok.ensures.there c.args.to c.in-Ok.taken.1
    ∙ sym c.held_left.ensures ∙ c.in-None.is in
    there

pub put_left-requires-clause-room : goal.put_left-requires-clause-room
put_left-requires-clause-room c =
    move_room c.args.self.now (put_entry c.args.self.now c.args.from c.in-Ok.taken.1) c.args.from
    c.args.to c.in-Ok.taken.0 c.args.disp c.in-Ok.ensures.found c.in_default.ensures

pub returns-in-Some-clause-port : goal.returns-in-Some-clause-port
returns-in-Some-clause-port c =
    port_parted c.args.self.now c.args.from c.args.disp _ c.in-Ok.taken.0 c.in-Ok.ensures.found

pub returns-in-Some-clause-ok : goal.returns-in-Some-clause-ok
returns-in-Some-clause-ok c =
    let x = c.args.self.now in
    let z = put_entry x c.args.from c.in-Ok.taken.1 in
    let there = get_left x c.args.from c.in-Ok.ensures.there c.args.to c.in-Ok.taken.1
    ∙ sym c.held_left.ensures ∙ c.in-Some.is in
    move_done x z c.args.from c.args.to c.in-Ok.taken.0 c.args.disp c.in-Ok.ensures.found
    c.in_default.ensures c.leave-in-Some.new.self (Some c.in-Some.held) there
    (c.leave-in-Some.ensures ∙ ap (λ y. insert y c.args.to c.joined.result) c.leave.ensures
    ∙ ap (insert z c.args.to) (c.joined.ensures ∙ ap (joined c.in-Some.held) c.give.ensures))

pub returns-in_ok-put_left-in-None-clause-port : goal.returns-in_ok-put_left-in-None-clause-port
returns-in_ok-put_left-in-None-clause-port c =
    port_parted c.args.self.now c.args.from c.args.disp _ c.in-Ok.taken.0 c.in-Ok.ensures.found

pub returns-in_ok-put_left-in-None-clause-ok : goal.returns-in_ok-put_left-in-None-clause-ok
returns-in_ok-put_left-in-None-clause-ok c =
    let x = c.args.self.now in
    let z = put_entry x c.args.from c.in-Ok.taken.1 in
    let there = get_left x c.args.from c.in-Ok.ensures.there c.args.to c.in-Ok.taken.1
    ∙ sym c.held_left.ensures ∙ c.in-None.is in
    move_done x z c.args.from c.args.to c.in-Ok.taken.0 c.args.disp c.in-Ok.ensures.found
    c.in_default.ensures c.put_left.new.self None there
    (c.in_ok-put_left-in-None.ensures.ok ∙ ap (insert z c.args.to)
    (c.new_entry.ensures ∙ ap (new_entry c.in-Ok.taken.0) c.give-in-None.ensures))
